pub mod Homes
pub mod Credits
