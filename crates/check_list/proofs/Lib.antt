pub mod WalkLaws
pub mod RuleLaws
pub mod StopLaws
