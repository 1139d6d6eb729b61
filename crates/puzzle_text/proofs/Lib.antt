-- The lemmas on puzzles' texts and on collections.
pub mod Names
pub mod AllLemmas
pub mod LinesLemmas
pub mod NumbersLemmas
pub mod SectionsLemmas
pub mod ParsedLines
pub mod ReadBack
pub mod ReadMk
pub mod GreaterLimit
pub mod ReadNon
pub mod FeedsLemmas
pub mod FastLines
pub mod CollectionLemmas
