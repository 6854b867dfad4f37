pub mod AnswerLaws
pub mod DrawLaws
pub mod StepLaws
pub mod CarryLaws
pub mod RangeLaws
pub mod RoomLaws
