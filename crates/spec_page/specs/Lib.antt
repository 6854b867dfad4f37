pub mod Page
pub mod Theorems
pub mod Form
