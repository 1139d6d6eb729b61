-- The definitions that public contracts use.
pub mod Fields
pub mod Forms
pub mod Laws
pub mod Rows
