-- Lemmas on what a check finds.
pub mod FoundLemmas
