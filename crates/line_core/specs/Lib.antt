-- The definitions that public contracts use, and, in `steps`, those that only private contracts
-- use.
pub mod Placings
pub mod Deduction
pub mod Order
pub mod RunStarts
pub mod Widths
pub mod Support
pub mod Lookahead
pub mod steps
