pub mod BitLaws
pub mod MarkLaws
pub mod CountLaws
pub mod AcrossLaws
