pub mod Fields
pub mod Room
pub mod Beside
