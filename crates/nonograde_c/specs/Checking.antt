-- What is wrong with a puzzle's text, as `check` prints it.
use Rattle.std.specs.Prelude.{ℕ, List, Option, Some, None, Result, Ok, Err, false}
use Rattle.grid_core.specs.Nonogram.{Nonogram}
use Rattle.grid_core.specs.declared.limits.TheConstants.{MAX_SIDE}
use Rattle.puzzle_text.specs.Formats.{read_as}
use Rattle.puzzle_text.specs.declared.faults.TextFault.{TextFault}
use Rattle.puzzle_text.specs.declared.formats.Format.{Format}
use Rattle.solve_core.specs.Report.{findings_of}
use Rattle.solve_core.specs.declared.findings.Findings.{Findings}
use Rattle.solve_core.specs.declared.picks.Pick.{Pick}
use Rattle.check_text.specs.PuzzleFindings.{puzzle_findings}
use Rattle.check_text.specs.TextFindings.{text_finding}
use Rattle.check_text.specs.declared.puzzle_findings.CheckOptions.{CheckOptions}
use Rattle.nonograde_c.specs.Calls.{format_from_number, pick_within}
use Rattle.nonograde_c.specs.declared.faults.Fault.{Fault}
use Rattle.nonograde_c.specs.declared.faults.Fault.TheVariants.{Setting}

-- each grade is allowed, and a puzzle without findings has no line
abbrev pub every_grade : CheckOptions
every_grade = record { grade = None; all = false }

-- the findings, as `check` prints them, on the puzzle `p` that has these findings of a report
abbrev pub checked : List ℕ → ℕ → Nonogram → Findings → List ℕ
checked name limit p findings = puzzle_findings every_grade name p limit findings

-- what is wrong with the text `body` in a format, of which its reader returns this result
abbrev pub checked_text : List ℕ → ℕ → Pick → Format → List ℕ → Result Nonogram TextFault → List ℕ
checked_text name limit pick format body (Ok p) = checked name limit p (findings_of pick p limit)
checked_text name limit pick format body (Err fault) = text_finding name format body fault

-- the answer on the text `body`; without a format, the fault of a bad setting
abbrev pub check_in : List ℕ → ℕ → Pick → Option Format → List ℕ → Result (List ℕ) Fault
check_in name guesses pick None body = Err Setting
check_in name guesses pick (Some format) body =
    Ok (checked_text name guesses pick format body (read_as format MAX_SIDE body))

-- the answer on the text `body` by a guess rule; without a rule, the fault of a bad setting
abbrev pub check_by : Option Pick → List ℕ → ℕ → Option Format → List ℕ → Result (List ℕ) Fault
check_by None name guesses format body = Err Setting
check_by (Some pick) name guesses format body = check_in name guesses pick format body

-- the answer on what is wrong with the text `body`, each line of which begins with `name`; `pick`
-- is the number of the guess rule
abbrev pub check_answer : ℕ → ℕ → List ℕ → ℕ → List ℕ → Result (List ℕ) Fault
check_answer guesses pick name format body =
    check_by (pick_within guesses pick) name guesses (format_from_number format) body
