pub mod PaintLaws
pub mod BlankLaws
pub mod ListLaws
