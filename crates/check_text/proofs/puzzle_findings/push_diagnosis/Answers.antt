-- `push_diagnosis`: what is appended for an outcome is the text of the verdict that it was made of.
use Rattle.std.proofs.Common.{◌≡◌, ◌∙◌, ap, ℕ, List, ◌++◌, Vec}
use Rattle.std.specs.Borrow.{Bor}
use Rattle.std.specs.declared.alloc.Global.{Global}
use Rattle.grid_core.specs.Nonogram.{Nonogram}
use Rattle.grid_core.specs.PartialGrid.{PartialGrid}
use Rattle.solve_core.specs.declared.findings.Findings.{Findings}
use Rattle.diagnosis.specs.Diagnoses.{IsOutcomeOf}
use Rattle.diagnosis.specs.Sums.{sums_of}
use Rattle.diagnosis.specs.declared.diagnosing.Outcome.{Outcome}
use Rattle.diagnosis.specs.declared.diagnosing.Outcome.TheVariants.{Ambiguous, Unsettled}
use Rattle.diagnosis.specs.declared.differences.Position.{Position}
use Rattle.diagnosis.specs.declared.sums.Sums.{Sums}
use Rattle.diagnosis.proofs.Outcomes.{ambiguous_by, unsettled_by}
use Rattle.check_text.specs.PuzzleFindings.{puzzle_findings, several_text}
use Rattle.check_text.specs.Unfinished.{unfinished}
use Rattle.check_text.specs.declared.puzzle_findings.CheckOptions.{CheckOptions}
use Rattle.check_text.proofs.puzzle_findings.push_diagnosis.Goals as goal

module _ (options : CheckOptions) (name : List ℕ) (p : Nonogram) (limit : ℕ) (findings : Findings) (outcome : Outcome) (old new : List ℕ)
    (o : IsOutcomeOf p findings outcome) where
  several_is : (first second : Bor PartialGrid) (cells : Vec Position Global) → outcome ≡ Ambiguous first second cells
      → new ≡ old ++ several_text name p first.now second.now → new ≡ old ++ puzzle_findings options name p limit findings
  several_is first second cells e text =
      rw (ambiguous_by p findings.verdict findings.grade first second cells (rw e at o)).several text

  open_is : (sums : Sums) → outcome ≡ Unsettled → sums ≡ sums_of p
      → new ≡ old ++ unfinished name p sums limit → new ≡ old ++ puzzle_findings options name p limit findings
  open_is sums e s text =
      rw (unsettled_by p findings.verdict findings.grade (rw e at o)).unsettled
      (text ∙ ap (λ (counted : Sums). old ++ unfinished name p counted limit) s)

pub returns-in_ok-push_several-in-Ambiguous-clause-text : goal.returns-in_ok-push_several-in-Ambiguous-clause-text
returns-in_ok-push_several-in-Ambiguous-clause-text c =
    several_is c.args.options c.args.name.now c.args.puzzle.now c.args.guesses c.args.findings.now c.args.diagnosis.now.outcome
    c.args.text.now.items _ c.requires.diagnosis.outcome c.in-Ambiguous.first c.in-Ambiguous.second c.in-Ambiguous.differing
    c.in-Ambiguous.is c.in_ok-push_several-in-Ambiguous.ensures

pub returns-in_ok-level-in-Unsettled-clause-text : goal.returns-in_ok-level-in-Unsettled-clause-text
returns-in_ok-level-in-Unsettled-clause-text c =
    open_is c.args.options c.args.name.now c.args.puzzle.now c.args.guesses c.args.findings.now c.args.diagnosis.now.outcome
    c.args.text.now.items _ c.requires.diagnosis.outcome c.args.diagnosis.now.sums c.in-Unsettled.is c.requires.diagnosis.sums
    c.in_ok-level-in-Unsettled.ensures.text
