pub mod Least
pub mod Quick
