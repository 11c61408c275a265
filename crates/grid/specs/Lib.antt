pub mod Grid
pub mod Text
pub mod Words
pub mod Profile
