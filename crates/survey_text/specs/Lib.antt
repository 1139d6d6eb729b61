-- The definitions that public contracts use, and in `steps` those that only private ones use.
pub mod Grids
pub mod Goals
pub mod Entries
pub mod Faults
pub mod Totals
pub mod Survey
pub mod Forms
pub mod FormSurveys
pub mod Listed
pub mod Listings
pub mod Chunks
pub mod steps
