-- The last line of a check, which counts the files by their worst findings.
use Rattle.std.specs.Prelude.{ℕ, List, ◌++◌, length, count_by, Bool, true, false, codes, decimal, Option, Some, None, nat_lt, ◌==◌, if◌then◌else◌}
use Rattle.check_text.specs.declared.heads.Level.{Level}
use Rattle.check_text.specs.declared.heads.Level.TheVariants.{Warning, Error}
use Rattle.check_text.specs.declared.totals.Subject.{Subject}
use Rattle.check_text.specs.declared.totals.Subject.TheVariants.{File, Entry}

-- whether a level is the wanted one
abbrev pub is_level : Option Level → Option Level → Bool
is_level None None = true
is_level None (Some level) = false
is_level (Some wanted) None = false
is_level (Some Warning) (Some Warning) = true
is_level (Some Warning) (Some Error) = false
is_level (Some Error) (Some Warning) = false
is_level (Some Error) (Some Error) = true

-- how many of the levels are the wanted one
abbrev pub level_count : Option Level → List (Option Level) → ℕ
level_count wanted levels = count_by (is_level wanted) levels

-- the worst of the levels: an error if there is one, else a warning if there is one
abbrev pub worst_of : List (Option Level) → Option Level
worst_of levels =
    if nat_lt 0 (level_count (Some Error) levels) then Some Error
    else (if nat_lt 0 (level_count (Some Warning) levels) then Some Warning else None)

-- the word behind the number `n`
abbrev pub subject_word : Subject → ℕ → List ℕ
subject_word File n = if n == 1 then codes " file: " else codes " files: "
subject_word Entry n = if n == 1 then codes " entry: " else codes " entries: "

-- a number and its word: `one` if it is 1, and otherwise `several`
abbrev pub count_text : ℕ → List ℕ → List ℕ → List ℕ
count_text n one several = decimal n ++ codes " " ++ (if n == 1 then one else several)

-- how many files there are, and how many of them have no finding
abbrev pub solved_text : Subject → List (Option Level) → List ℕ
solved_text subject levels =
    decimal (length levels) ++ subject_word subject (length levels)
    ++ decimal (level_count None levels) ++ codes " with one solution, "

-- how many files have an error, and how many of the others a warning
abbrev pub found_text : List (Option Level) → List ℕ
found_text levels =
    count_text (level_count (Some Error) levels) (codes "error") (codes "errors") ++ codes ", "
    ++ count_text (level_count (Some Warning) levels) (codes "warning") (codes "warnings")
    ++ codes "\n"

-- the last line of a check of files with these worst levels
abbrev pub totals_line : Subject → List (Option Level) → List ℕ
totals_line subject levels = solved_text subject levels ++ found_text levels
