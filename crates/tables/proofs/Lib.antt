pub mod Members
pub mod Coded
pub mod Replaced
pub mod Making
pub mod Keeping
