-- The lemmas on records.
pub mod ReadBack
pub mod TableLemmas
