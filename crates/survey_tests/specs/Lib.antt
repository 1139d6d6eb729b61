-- The definitions that the tests use.
pub mod NumberedForm
