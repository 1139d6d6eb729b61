-- The definitions that only contracts of private functions need.
pub mod Axes
pub mod Pictures
