-- Lemmas about files, and about what the program prints.
mod FilesLemmas
mod PrintingLemmas
mod CheckingLemmas
