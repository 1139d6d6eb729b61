-- Lemmas about texts that are sent in several writes.
pub mod Prefix
