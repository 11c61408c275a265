pub mod Parents
pub mod Nothing
