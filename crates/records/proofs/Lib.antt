pub mod Between
pub mod Refusals
