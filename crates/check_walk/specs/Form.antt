pub mod Short
pub mod Turn
pub mod Walk
