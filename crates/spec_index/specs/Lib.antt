pub mod Touched
pub mod Index
pub mod Query
pub mod Answers
