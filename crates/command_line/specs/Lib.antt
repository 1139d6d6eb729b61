-- The definitions that public contracts rest on; those that only private calls need are the steps.
pub mod Words
pub mod Ranges
pub mod steps
