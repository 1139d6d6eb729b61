-- The definitions that only contracts of private functions use.
pub mod Entries
pub mod Goals
pub mod Listings
pub mod Chunks
pub mod Tallies
