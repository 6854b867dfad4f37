pub mod Stored
pub mod Tested
