pub mod FitLaws
pub mod TailLaws
pub mod TakenLaws
pub mod RightLaws
pub mod LeftLaws
pub mod ModelLaws
