-- The lemmas on the data of pages.
pub mod DataLemmas
