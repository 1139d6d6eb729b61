-- The definitions that only private contracts use.
pub mod CluePrefix
pub mod SingleRun
pub mod Outermost
pub mod Overlaps
pub mod PrefixScan
pub mod Feasibility
pub mod KnownEnds
pub mod Lookahead
pub mod Combining
pub mod PrefixSupports
