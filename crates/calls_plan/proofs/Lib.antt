pub mod CallLaws
pub mod HighLaws
pub mod AllLaws
