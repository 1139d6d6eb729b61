-- The lemmas on values of JSON, on their lines, on rows of grids and on escaped lines.
pub mod ShapeLemmas
pub mod ReadingLemmas
pub mod LineLemmas
pub mod EscapingLemmas
pub mod RowLemmas
