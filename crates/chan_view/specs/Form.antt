pub mod Beside
pub mod Bounds
pub mod View
