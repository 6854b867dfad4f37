pub mod Tested
pub mod Ranges
pub mod Stepwise
pub mod Lost
pub mod Turn
pub mod Walk
pub mod Closing
