pub mod Foremost
pub mod Sweeping
pub mod Calls
