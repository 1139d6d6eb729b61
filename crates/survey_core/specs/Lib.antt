-- The definitions that public contracts use, and in `steps` those that only private ones use.
pub mod GuessSettings
pub mod Results
pub mod Leaving
pub mod Faults
pub mod Progress
pub mod steps
