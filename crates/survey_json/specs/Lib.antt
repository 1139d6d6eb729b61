-- The definitions that the contracts use.
pub mod Values
pub mod Pictures
pub mod Puzzles
pub mod Entries
pub mod Keys
pub mod Totals
pub mod Escaping
pub mod Lines
pub mod Forms
