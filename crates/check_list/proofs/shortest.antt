pub mod RunLaws
pub mod StartLaws
pub mod VerdictLaws
