pub mod QuickLaws
