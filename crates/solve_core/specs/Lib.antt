-- The definitions that public contracts use. Those that only private contracts use are in `steps`.
pub mod Closure
pub mod LeastClosed
pub mod Trials
pub mod Sizes
pub mod Search
pub mod Report
pub mod Verdicts
pub mod Extensions
pub mod Picks
pub mod MostKnown
pub mod steps
