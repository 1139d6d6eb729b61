-- Lemmas about the words of a command line.
mod WordLemmas
