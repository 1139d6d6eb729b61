-- The definitions that the contracts of the calls rest on.
pub mod Calls
pub mod Checking
pub mod Closing
pub mod Extending
pub mod Facts
pub mod GivenCells
pub mod JsonReports
pub mod Lengths
pub mod steps
