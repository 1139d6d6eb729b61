-- The message on an entry: the sentence of its first finding, or nothing if there is none.
use Rattle.std.specs.Prelude.{ℕ, ◌*◌, ◌==◌, List, [], ◌∷◌, length, if◌then◌else◌, Option}
use Rattle.std.specs.Option.{option_map_or}
use Rattle.grid_core.specs.Nonogram.{Nonogram}
use Rattle.grid_core.specs.PartialGrid.{PartialGrid}
use Rattle.grid_core.specs.declared.limits.TheConstants.{MAX_SIDE}
use Rattle.solve_core.specs.declared.findings.Findings.{Findings}
use Rattle.solve_core.specs.declared.findings.Grade.{Grade}
use Rattle.solve_core.specs.declared.findings.Verdict.{Verdict}
use Rattle.solve_core.specs.declared.findings.Verdict.TheVariants.{Nothing, One, Several, Unsettled}
use Rattle.puzzle_text.specs.Counts.{counts_of}
use Rattle.puzzle_text.specs.Diagnosis.{form_of, named_line, readable_lines}
use Rattle.puzzle_text.specs.Formats.{format_of}
use Rattle.puzzle_text.specs.declared.faults.EntryFault.{EntryFault}
use Rattle.puzzle_text.specs.declared.faults.EntryFault.TheVariants.{UnknownFormat, Text}
use Rattle.puzzle_text.specs.declared.faults.TextFault.{TextFault}
use Rattle.puzzle_text.specs.declared.formats.Format.{Format}
use Rattle.diagnosis.specs.Contradictions.{refutation_of}
use Rattle.diagnosis.specs.Differences.{differing_cells}
use Rattle.diagnosis.specs.Goals.{goal_rows}
use Rattle.diagnosis.specs.Misfits.{misfits_of}
use Rattle.diagnosis.specs.Sums.{sums_of}
use Rattle.diagnosis.specs.declared.contradictions.Refutation.{Refutation}
use Rattle.diagnosis.specs.declared.misfits.Misfit.{Misfit}
use Rattle.diagnosis.specs.declared.sums.Sums.{Sums}
use Rattle.check_text.specs.Ambiguity.{ambiguity_text}
use Rattle.check_text.specs.Goals.{goal_difference_text}
use Rattle.check_text.specs.Refutations.{refutation_text}
use Rattle.check_text.specs.TextFaults.{fault_sentence}
use Rattle.check_text.specs.TextFindings.{unknown_format_sentence}
use Rattle.check_text.specs.TextForms.{form_sentence}
use Rattle.check_text.specs.Unsettled.{limit_text}
use Rattle.check_text.specs.Unsolvable.{misfit_text, sums_text}

-- the message on `p`, which has no solution, by its sums and what refuted it
abbrev pub refutation_message : Nonogram → Sums → Option Refutation → List ℕ
refutation_message p sums refutation =
    if sums.rows == sums.columns then option_map_or (refutation_text p) refutation []
    else sums_text sums

-- the message on `p`, which has no solution, by the clues that don't fit, its sums and what refuted it
abbrev pub unsolvable_message : Nonogram → List Misfit → Sums → Option Refutation → List ℕ
unsolvable_message p [] sums refutation = refutation_message p sums refutation
unsolvable_message p (misfit ∷ misfits) sums refutation = misfit_text p misfit

-- the message on a puzzle from whose only solution the goal differs in these rows
abbrev pub goal_message : List ℕ → List ℕ
goal_message rows = if length rows == 0 then [] else goal_difference_text rows

-- the message on a puzzle with these two solutions
abbrev pub several_message : PartialGrid → PartialGrid → List ℕ
several_message first second =
    ambiguity_text (length (differing_cells first second)) (first.width * first.height)

-- the message on a puzzle with these sums, of which a limit on guesses cut the search short
abbrev pub unfinished_message : Sums → ℕ → List ℕ
unfinished_message sums limit =
    if sums.rows == sums.columns then limit_text limit else sums_text sums

-- the message on `p` with this verdict and this grade, under a limit on guesses
abbrev pub verdict_message : Nonogram → ℕ → Verdict → Grade → List ℕ
verdict_message p limit Nothing grade =
    unsolvable_message p (misfits_of p) (sums_of p) (refutation_of p grade)
verdict_message p limit (One found) grade = goal_message (goal_rows p found)
verdict_message p limit (Several first second) grade = several_message first second
verdict_message p limit (Unsettled found) grade = unfinished_message (sums_of p) limit

-- the message on `p` with these findings of a report, under a limit on guesses
abbrev pub puzzle_message : Nonogram → ℕ → Findings → List ℕ
puzzle_message p limit findings = verdict_message p limit findings.verdict findings.grade

-- the message on a text that the reader of a format refused
abbrev pub text_message : Format → List ℕ → TextFault → List ℕ
text_message format body fault =
    let lines = readable_lines body in
    option_map_or form_sentence (form_of MAX_SIDE format fault body lines)
    (fault_sentence format fault (named_line fault lines) (counts_of MAX_SIDE format fault lines))

-- the message on the text `body` of the file `name`, which was refused for a fault
abbrev pub refused_message : List ℕ → List ℕ → EntryFault → List ℕ
refused_message name body UnknownFormat = unknown_format_sentence
refused_message name body (Text fault) =
    option_map_or (λ format. text_message format body fault) (format_of name)
    unknown_format_sentence
