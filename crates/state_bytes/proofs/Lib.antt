pub mod OrLaws
pub mod NumberLaws
pub mod TestedLaws
pub mod BufferLaws
pub mod RightLaws
pub mod RangeLaws
