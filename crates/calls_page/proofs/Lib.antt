pub mod AnswerLaws
pub mod Theorems
