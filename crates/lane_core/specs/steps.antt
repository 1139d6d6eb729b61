-- The definitions that only contracts of private functions use.
pub mod Dealing
pub mod PutOrHold
pub mod WorkLeft
