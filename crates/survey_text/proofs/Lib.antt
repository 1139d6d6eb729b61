-- The modules of lemmas on surveys: forms, goals, sequences of entries, totals, and chunks.
pub mod NumberedLemmas
pub mod FormLemmas
pub mod PrintedLemmas
pub mod TotalsLemmas
pub mod GoalLemmas
pub mod ListingLemmas
