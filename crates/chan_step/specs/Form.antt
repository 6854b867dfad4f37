pub mod Banks
pub mod Lasts
