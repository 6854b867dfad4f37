pub mod Slots
pub mod Puts
pub mod Cols
