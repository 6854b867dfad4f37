pub mod ActLaws
pub mod ArrivalLaws
pub mod FlagLaws
pub mod JudgeLaws
pub mod PrerLaws
