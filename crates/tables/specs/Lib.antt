pub mod Tables
pub mod Made
pub mod Kept
pub mod KeptProps
