pub mod Numbers
pub mod Ranges
pub mod Parts
pub mod Texts
