-- The definitions that public contracts rest on.
pub mod Counted
pub mod Reading
pub mod Writing
