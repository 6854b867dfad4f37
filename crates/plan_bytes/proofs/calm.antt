pub mod CalmLaws
