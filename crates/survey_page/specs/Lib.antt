-- The definitions that public contracts use.
pub mod Forms
