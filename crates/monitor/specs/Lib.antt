pub mod Answered
pub mod Failing
