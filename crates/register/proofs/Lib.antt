pub mod Lists
pub mod Apart
pub mod Totals
pub mod Slices
pub mod Rising
pub mod Keys
