pub mod TripLaws
pub mod IndexLaws
pub mod Theorems
pub mod Refused
