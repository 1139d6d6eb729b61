-- The object of a survey's totals.
use Rattle.std.specs.Prelude.{ℕ, List, [], ◌∷◌, ◌++◌, codes}
use Rattle.serde_json.specs.Data.{Data}
use Rattle.survey_json.specs.Values.{number_data, object_with}
use Rattle.survey_json.specs.declared.totals.EntryCounts.{EntryCounts}

-- how many entries there are, how many are refused, and how many have each verdict
abbrev pub status_members : EntryCounts → List (List ℕ × Data)
status_members counts =
    (codes "entries", number_data counts.entries)
    ∷ (codes "refused", number_data counts.refused)
    ∷ (codes "none", number_data counts.none)
    ∷ (codes "one", number_data counts.one)
    ∷ (codes "several", number_data counts.several)
    ∷ (codes "unsettled", number_data counts.unsettled)
    ∷ []

-- how many entries have each grade
abbrev pub grade_members : EntryCounts → List (List ℕ × Data)
grade_members counts =
    (codes "line", number_data counts.line)
    ∷ (codes "trials", number_data counts.trials)
    ∷ (codes "search", number_data counts.search)
    ∷ []

-- the object whose only member, `totals`, has these counts
abbrev pub totals_object : EntryCounts → Data
totals_object counts =
    object_with ((codes "totals", object_with (status_members counts ++ grade_members counts)) ∷ [])
