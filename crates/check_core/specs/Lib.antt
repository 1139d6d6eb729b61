-- The definitions that public contracts use.
pub mod Files
pub mod Checks
