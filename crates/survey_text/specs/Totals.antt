-- The last line of a survey: its totals.
use Rattle.std.specs.Prelude.{ℕ, Bool, false, List, ◌++◌, length, count_by, decimal, codes, Result, Ok, Err}
use Rattle.std.specs.Str.{bytes_eq}
use Rattle.grid_core.specs.Nonogram.{Nonogram}
use Rattle.solve_core.specs.declared.findings.Findings.{Findings}
use Rattle.puzzle_text.specs.declared.faults.EntryFault.{EntryFault}
use Rattle.survey_text.specs.Entries.{GradedEntry, grade_word, verdict_word}

-- the status of an entry: the word for its verdict, or `refused`
abbrev pub status_word : Result (Nonogram × Findings) EntryFault → List ℕ
status_word (Ok found) = verdict_word found.1.verdict
status_word (Err fault) = codes "refused"

-- whether `word` is the status of `entry`
abbrev pub has_status : List ℕ → GradedEntry → Bool
has_status word entry = bytes_eq (status_word entry.result) word

-- whether the entry is graded and `word` is that of its grade
abbrev pub is_of_grade : List ℕ → Result (Nonogram × Findings) EntryFault → Bool
is_of_grade word (Ok found) = bytes_eq (grade_word found.1.grade) word
is_of_grade word (Err fault) = false

-- whether `entry` is graded and `word` is that of its grade
abbrev pub has_grade : List ℕ → GradedEntry → Bool
has_grade word entry = is_of_grade word entry.result

-- `word` and `count`, each after a space
abbrev pub count_text : List ℕ → ℕ → List ℕ
count_text word count = codes " " ++ word ++ codes " " ++ decimal count

-- `word`, and how many of `entries` have it as their status
abbrev pub status_count : List GradedEntry → List ℕ → List ℕ
status_count entries word = count_text word (count_by (has_status word) entries)

-- `word`, and how many of `entries` have the grade of this word
abbrev pub grade_count : List GradedEntry → List ℕ → List ℕ
grade_count entries word = count_text word (count_by (has_grade word) entries)

-- how many of `entries` are refused, and how many have each verdict, after their words
abbrev pub status_counts : List GradedEntry → List ℕ
status_counts entries =
    status_count entries (codes "refused") ++ status_count entries (codes "none")
    ++ status_count entries (codes "one") ++ status_count entries (codes "several")
    ++ status_count entries (codes "unsettled")

-- how many of `entries` have each grade, after its word
abbrev pub grade_counts : List GradedEntry → List ℕ
grade_counts entries =
    grade_count entries (codes "line") ++ grade_count entries (codes "trials")
    ++ grade_count entries (codes "search")

-- the last line of the survey of `entries`: how many there are, how many are refused, and how many
-- have each verdict and each grade
abbrev pub totals_line : List GradedEntry → List ℕ
totals_line entries =
    codes "entries " ++ decimal (length entries) ++ status_counts entries ++ grade_counts entries
    ++ codes "\n"
