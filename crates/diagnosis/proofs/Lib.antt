-- Lemmas on the definitions of a diagnosis.
pub mod Ranges
pub mod RunSizes
pub mod LineTotals
pub mod SolutionLaws
pub mod VerdictSizes
pub mod FirstFound
pub mod LineReads
pub mod RoundLaws
pub mod RoundSteps
pub mod Reports
pub mod Outcomes
