-- Lemmas on masks: natural numbers as sets of indices.
pub mod Flooding
pub mod Steps
pub mod HasLemmas
pub mod Reversing
pub mod WordSteps
pub mod Halves
pub mod Doubling
pub mod LevelSteps
pub mod Uses
