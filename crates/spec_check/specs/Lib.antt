pub mod Check
pub mod Shortest
