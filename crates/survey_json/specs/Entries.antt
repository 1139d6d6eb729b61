-- The object of an entry.
use Rattle.std.specs.Prelude.{ℕ, List, [], ◌∷◌, ◌++◌, codes, map, Option, Some, None, Result, Ok, Err}
use Rattle.grid_core.specs.Description.{Description}
use Rattle.grid_core.specs.Nonogram.{Nonogram}
use Rattle.solve_core.specs.declared.findings.Findings.{Findings}
use Rattle.solve_core.specs.declared.findings.Verdict.{Verdict}
use Rattle.solve_core.specs.declared.findings.Verdict.TheVariants.{Nothing, One, Several, Unsettled}
use Rattle.puzzle_text.specs.declared.faults.EntryFault.{EntryFault}
use Rattle.diagnosis.specs.Misfits.{misfits_of}
use Rattle.diagnosis.specs.Sums.{sums_of}
use Rattle.diagnosis.specs.declared.misfits.Misfit.{Misfit}
use Rattle.diagnosis.specs.declared.sums.Sums.{Sums}
use Rattle.survey_text.specs.Entries.{grade_word, solutions_of, verdict_word}
use Rattle.survey_text.specs.Faults.{fault_line, fault_name}
use Rattle.survey_text.specs.Forms.{FormEntry, found_in}
use Rattle.survey_text.specs.Goals.{goal_text, goal_word}
use Rattle.check_text.specs.EntryMessages.{entry_message}
use Rattle.serde_json.specs.Data.{Data, null, string}
use Rattle.survey_json.specs.Pictures.{differences_data, goal_data, grid_data}
use Rattle.survey_json.specs.Puzzles.{clues_data, misfits_data, sums_data}
use Rattle.survey_json.specs.Values.{array_of, number_data, number_or_null, object_with, text_data, text_or_null}

-- what an entry has whether it is graded or refused: its number, from 1, its name, and the first
-- sentence on it, if there is one
abbrev pub heading_members : ℕ → List ℕ → Option (List ℕ) → List (List ℕ × Data)
heading_members number name message =
    (codes "name", text_data name)
    ∷ (codes "number", number_data number)
    ∷ (codes "message", text_or_null message)
    ∷ []

-- why an entry is refused; nulls if it isn't
abbrev pub fault_members : Option EntryFault → List (List ℕ × Data)
fault_members None = (codes "fault", null) ∷ (codes "fault_line", null) ∷ []
fault_members (Some fault) =
    (codes "fault", string (fault_name fault))
    ∷ (codes "fault_line", number_or_null (fault_line fault))
    ∷ []

-- the texts that describe a puzzle
abbrev pub description_members : Description → List (List ℕ × Data)
description_members texts =
    (codes "by", text_or_null texts.by)
    ∷ (codes "catalogue", text_or_null texts.catalogue)
    ∷ (codes "copyright", text_or_null texts.copyright)
    ∷ (codes "license", text_or_null texts.license)
    ∷ (codes "title", text_or_null texts.title)
    ∷ []

-- the size of `p`, its clues, and its goal
abbrev pub puzzle_members : Nonogram → List (List ℕ × Data)
puzzle_members p =
    (codes "width", number_data p.width)
    ∷ (codes "height", number_data p.height)
    ∷ (codes "columns", clues_data p.columns)
    ∷ (codes "rows", clues_data p.rows)
    ∷ (codes "goal", string (goal_text (goal_word p)))
    ∷ (codes "goal_rows", goal_data p)
    ∷ []

-- the clues that don't fit their line, and how many cells the clues fill
abbrev pub clue_members : List Misfit → Sums → List (List ℕ × Data)
clue_members misfits sums =
    (codes "misfits", misfits_data misfits) ∷ (codes "sums", sums_data sums) ∷ []

-- what a puzzle took: its verdict and grade, and the counts of its report
abbrev pub report_members : Findings → List (List ℕ × Data)
report_members findings =
    (codes "verdict", string (verdict_word findings.verdict))
    ∷ (codes "grade", string (grade_word findings.grade))
    ∷ (codes "line_cells", number_data findings.line_known)
    ∷ (codes "trial_cells", number_data findings.trial_known)
    ∷ (codes "guesses", number_data findings.spent)
    ∷ []

-- the picture of the cells in which two solutions differ; null if there aren't two
abbrev pub differing_data : Verdict → Data
differing_data Nothing = null
differing_data (One grid) = null
differing_data (Several first second) = differences_data first second
differing_data (Unsettled found) = null

-- the solutions in a verdict, and where two of them differ
abbrev pub solution_members : Verdict → List (List ℕ × Data)
solution_members verdict =
    (codes "solutions", array_of (map grid_data (solutions_of verdict)))
    ∷ (codes "differing", differing_data verdict)
    ∷ []

-- what a graded entry has of its puzzle `p` and of the findings on that
abbrev pub graded_members : Nonogram → Findings → List (List ℕ × Data)
graded_members p findings =
    description_members p.texts ++ puzzle_members p ++ clue_members (misfits_of p) (sums_of p)
    ++ report_members findings ++ solution_members findings.verdict

-- the keys of `graded_members`
abbrev pub graded_keys : List (List ℕ)
graded_keys =
    codes "by" ∷ codes "catalogue" ∷ codes "copyright" ∷ codes "license" ∷ codes "title"
    ∷ codes "width" ∷ codes "height" ∷ codes "columns" ∷ codes "rows" ∷ codes "goal"
    ∷ codes "goal_rows" ∷ codes "misfits" ∷ codes "sums" ∷ codes "verdict" ∷ codes "grade"
    ∷ codes "line_cells" ∷ codes "trial_cells" ∷ codes "guesses" ∷ codes "solutions"
    ∷ codes "differing" ∷ []

-- null for each of some keys
abbrev pub null_members : List (List ℕ) → List (List ℕ × Data)
null_members keys = map (λ key. (key, null)) keys

-- what an entry has of its result; a refused entry has nulls in place of a graded one's values
abbrev pub result_members : Result (Nonogram × Findings) EntryFault → List (List ℕ × Data)
result_members (Ok found) = fault_members None ++ graded_members found.0 found.1
result_members (Err fault) = fault_members (Some fault) ++ null_members graded_keys

-- the object of the entry `name`, the one of this number, with its result and the first sentence on
-- it
abbrev pub entry_object :
    ℕ → List ℕ → Result (Nonogram × Findings) EntryFault → Option (List ℕ) → Data
entry_object number name result message =
    object_with (heading_members number name message ++ result_members result)

-- `bytes`, or nothing if they are empty
abbrev pub if_any : List ℕ → Option (List ℕ)
if_any [] = None
if_any (byte ∷ bytes) = Some (byte ∷ bytes)

-- the object of `entry`, which has this number
abbrev pub object_of : ℕ → FormEntry → Data
object_of number entry =
    entry_object number entry.name (found_in entry.result) (if_any (entry_message entry))
