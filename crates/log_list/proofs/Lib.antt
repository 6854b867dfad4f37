pub mod CopyLaws
pub mod BadLaws
pub mod RoundTrip
