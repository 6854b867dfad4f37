pub mod Answered
pub mod Drawn
pub mod Tested
pub mod Told
