pub mod ViaLaws
pub mod StopLaws
pub mod ImpliedLaws
pub mod StoreLaws
pub mod TurnLaws
pub mod ShortLaws
