pub mod Stamp
pub mod Copy
