pub mod KindLaws
pub mod SpareLaws
