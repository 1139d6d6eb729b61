-- The definitions that public contracts use.
pub mod Misfits
pub mod Sums
pub mod Differences
pub mod Goals
pub mod Contradictions
pub mod Rounds
pub mod Diagnoses
