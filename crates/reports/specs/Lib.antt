-- The definitions that public contracts use.
pub mod Reports
pub mod Converting
