-- The diagnosis of a puzzle.
use Rattle.std.specs.Prelude.{◌≡◌, ℕ, List, Some, option_map}
use Rattle.grid_core.specs.Nonogram.{Nonogram}
use Rattle.grid_core.specs.PartialGrid.{PartialGrid}
use Rattle.solve_core.specs.Report.{findings_of}
use Rattle.solve_core.specs.Sizes.{HasSizeOf}
use Rattle.solve_core.specs.declared.picks.Pick.{Pick}
use Rattle.solve_core.specs.declared.findings.Findings.{Findings}
use Rattle.solve_core.specs.declared.findings.Grade.{Grade}
use Rattle.solve_core.specs.declared.findings.Verdict.{Verdict}
use Rattle.solve_core.specs.declared.findings.Verdict.TheVariants.{Nothing, One, Several, Unsettled as Undecided}
use Rattle.diagnosis.specs.declared.diagnosing.Diagnosis.{Diagnosis}
use Rattle.diagnosis.specs.declared.diagnosing.Outcome.{Outcome}
use Rattle.diagnosis.specs.declared.diagnosing.Outcome.TheVariants.{Ambiguous, Refuted, Unique, Unsettled}
use Rattle.diagnosis.specs.Contradictions.{refutation_of}
use Rattle.diagnosis.specs.Differences.{differing_cells}
use Rattle.diagnosis.specs.Goals.{goal_rows}
use Rattle.diagnosis.specs.Misfits.{misfits_of}
use Rattle.diagnosis.specs.Sums.{sums_of}

-- `findings` are those of a report on `p`, with some rule for guesses and some limit on them
pub record IsReportOn (p : Nonogram) (findings : Findings) : Type 0 where
  pub pick : Pick
  pub limit : ℕ
  pub is : findings ≡ findings_of pick p limit

-- each grid of a verdict has the size of the puzzle
abbrev pub HaveSizeOf : Nonogram → Verdict → Type 0
HaveSizeOf p Nothing = Unit {0}
HaveSizeOf p (One found) = HasSizeOf p found
HaveSizeOf p (Several first second) = HasSizeOf p first × HasSizeOf p second
HaveSizeOf p (Undecided found) = Unit {0}

-- the outcome is `Unique` with these rows
abbrev pub IsUniqueWith : List ℕ → Outcome → Type 0
IsUniqueWith rows (Unique found) = found.items ≡ rows
IsUniqueWith rows (Refuted refutation) = ⊥
IsUniqueWith rows (Ambiguous first second differing) = ⊥
IsUniqueWith rows Unsettled = ⊥

-- the outcome is `Ambiguous` with these solutions, and the cells in which they differ
abbrev pub IsAmbiguousWith : PartialGrid → PartialGrid → Outcome → Type 0
IsAmbiguousWith g h (Ambiguous first second differing) =
    (first.now ≡ g) × (second.now ≡ h) × (differing.items ≡ differing_cells g h)
IsAmbiguousWith g h (Refuted refutation) = ⊥
IsAmbiguousWith g h (Unique rows) = ⊥
IsAmbiguousWith g h Unsettled = ⊥

-- what a verdict on `p` and its grade show: what refuted `p`, the rows in which its only solution
-- and its goal differ, or two solutions and the cells in which they differ
abbrev pub IsOutcomeBy : Nonogram → Verdict → Grade → Outcome → Type 0
IsOutcomeBy p Nothing grade outcome = option_map Refuted (refutation_of p grade) ≡ Some outcome
IsOutcomeBy p (One found) grade outcome = IsUniqueWith (goal_rows p found) outcome
IsOutcomeBy p (Several first second) grade outcome = IsAmbiguousWith first second outcome
IsOutcomeBy p (Undecided found) grade outcome = outcome ≡ Unsettled

-- what the findings on `p` show
abbrev pub IsOutcomeOf : Nonogram → Findings → Outcome → Type 0
IsOutcomeOf p findings outcome = IsOutcomeBy p findings.verdict findings.grade outcome

-- the diagnosis has the clues of `p` that don't fit, its sums, and what the findings on it show
pub record IsDiagnosisOf (p : Nonogram) (findings : Findings) (d : Diagnosis) : Type 0 where
  pub misfits : d.misfits.items ≡ misfits_of p
  pub sums : d.sums ≡ sums_of p
  pub outcome : IsOutcomeOf p findings d.outcome
