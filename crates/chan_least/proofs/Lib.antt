pub mod LeastLaws
pub mod QuickLaws
pub mod PassLaws
