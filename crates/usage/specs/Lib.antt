pub mod Roles
pub mod Rules
pub mod Orders
pub mod Books
