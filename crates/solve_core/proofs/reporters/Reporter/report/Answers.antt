-- `Reporter::report`: the workspace is prepared for the puzzle, so that its report is the puzzle's, and the verdict holds.
use Rattle.std.specs.Prelude.{Result, Ok, Err, IfOk}
use Rattle.solve_core.proofs.Names.{◌≡◌, ◌≤◌, ℕ, Findings, Holds, IsNonogram, Nonogram, picked, rules}
use Rattle.solve_core.specs.declared.picks.Pick.{Pick}
use Rattle.solve_core.specs.Report.{findings_of}
use Rattle.solve_core.proofs.PickLaws.{picked-IsPick}
use Rattle.solve_core.proofs.AnswerLaws.{guesses-within, verdict-Holds}
use Rattle.solve_core.proofs.reporters.Reporter.report.Goals as goal

-- the verdict of a report holds, and it spent no more guesses than allowed
reported : {E : Type 0} (pick : Pick) (p : Nonogram) (guesses : ℕ) (result : Result Findings E) → IsNonogram p →
    IfOk result (λ findings. findings ≡ findings_of pick p guesses) →
    IfOk result (λ findings. Holds (picked pick p.width) p guesses findings.verdict)
    × IfOk result (λ findings. findings.spent ≤ guesses)
reported pick p guesses (Ok findings) is same =
    rw same (verdict-Holds (picked pick p.width) (picked-IsPick pick p.width) p is guesses, search (rules, guesses-within))
reported pick p guesses (Err e) is same = (same, same)

pub returns-in-Some-clause-findings : goal.returns-in-Some-clause-findings
returns-in-Some-clause-findings c = rw c.in_ok-reset.ensures.ok.puzzle at c.report.ensures

pub returns-in-Some-clause-holds : goal.returns-in-Some-clause-holds
returns-in-Some-clause-holds c =
    (reported c.args.pick c.args.puzzle.now c.args.guesses _ c.in_ok-reset.ensures.ok.nonogram (returns-in-Some-clause-findings c)).0

pub returns-in-Some-clause-spent : goal.returns-in-Some-clause-spent
returns-in-Some-clause-spent c =
    (reported c.args.pick c.args.puzzle.now c.args.guesses _ c.in_ok-reset.ensures.ok.nonogram (returns-in-Some-clause-findings c)).1

pub returns-clause-findings : goal.returns-clause-findings
returns-clause-findings c = rw c.in_ok-reset-2.ensures.ok.puzzle at c.in_ok-findings.ensures

pub returns-clause-holds : goal.returns-clause-holds
returns-clause-holds c =
    rw (returns-clause-findings c) (verdict-Holds (picked c.args.pick c.args.puzzle.now.width) (picked-IsPick _ _) c.args.puzzle.now
    c.in_ok-reset-2.ensures.ok.nonogram c.args.guesses)

pub returns-clause-spent : goal.returns-clause-spent
returns-clause-spent c = search (rules, guesses-within, returns-clause-findings c)
