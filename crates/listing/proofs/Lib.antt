pub mod Worked
pub mod ListingLaws
