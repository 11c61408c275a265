pub mod Lists
pub mod Codes
pub mod Slices
pub mod CodesLemmas
pub mod Tests
