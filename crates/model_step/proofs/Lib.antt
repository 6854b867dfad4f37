pub mod TouchLaws
pub mod TakeLaws
pub mod CallLaws
