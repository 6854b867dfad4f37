pub mod EnoughLaws
pub mod TurnLaws
pub mod StepLaws
