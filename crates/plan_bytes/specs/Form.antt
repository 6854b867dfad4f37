pub mod Numbers
pub mod Drawn
pub mod Calm
