-- The lemmas on the texts of findings.
pub mod Pieces
pub mod RangeLemmas
