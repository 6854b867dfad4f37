pub mod PassLaws
pub mod BreachLaws
pub mod FrontLaws
pub mod ShortestLaws
pub mod Worked
