pub mod Results
pub mod Theorems
pub mod Form
