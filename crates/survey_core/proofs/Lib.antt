-- The modules of lemmas on surveys: entries read and graded, jobs dealt and answered.
pub mod FormLemmas
pub mod ParsingLemmas
pub mod ListingLemmas
pub mod DealtLemmas
pub mod CollectedLemmas
