-- The modules of lemmas on jobs, answers and lanes.
pub mod Names
pub mod MessagesLemmas
pub mod AnswersLemmas
pub mod LaneLemmas
pub mod SettlingLemmas
pub mod DealingLemmas
pub mod WorkLemmas
