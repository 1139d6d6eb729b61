-- The definitions that only private functions use.
pub mod Collections
pub mod Lines
pub mod Non
pub mod SectionSplit
pub mod Sections
pub mod Shown
pub mod Fast
