-- The definitions that public contracts rest on.
pub mod Stop
pub mod Words
pub mod Forms
pub mod Printing
pub mod Checking
pub mod Ending
