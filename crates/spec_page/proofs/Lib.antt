pub mod Worked
pub mod DistanceLaws
pub mod MarkLaws
pub mod PageLaws
