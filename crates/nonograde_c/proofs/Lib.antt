-- Lemmas about the answers of calls: what they are, how long they are, and what they write to a buffer.
mod AnswerLemmas
mod BufferLemmas
mod CheckLemmas
mod FactLemmas
mod GivenLemmas
mod LengthLemmas
