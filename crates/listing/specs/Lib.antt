pub mod Listing
pub mod Entries
