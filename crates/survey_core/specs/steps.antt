-- The definitions that only contracts of private functions use.
pub mod Collected
pub mod Dealt
pub mod Graded
pub mod ParsedEntries
pub mod WorkerEnds
