-- The modules of lemmas on the reports on a puzzle.
mod FoundLemmas
mod FullLemmas
