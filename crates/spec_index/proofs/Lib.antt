pub mod IndexLaws
pub mod ListLaws
pub mod QueryLaws
pub mod Worked
