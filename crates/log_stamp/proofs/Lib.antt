pub mod StampLaws
pub mod CopyLaws
pub mod Worked
