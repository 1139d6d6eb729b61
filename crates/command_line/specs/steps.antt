-- The definitions that only private calls need.
pub mod Words
