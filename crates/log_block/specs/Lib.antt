pub mod Block
pub mod Right
