-- Totals as they are counted: how one grows, when it can, and how they are printed.
use Rattle.std.specs.Prelude.{ℕ, ◌+◌, ◌-◌, ◌^◌, min, ◌<◌, Bool, true, false, List, ◌++◌, codes, decimal}
use Rattle.survey_text.specs.Totals.{count_text}
use Rattle.survey_text.specs.declared.totals.GradeTotals.{GradeTotals}
use Rattle.survey_text.specs.declared.totals.Totals.{Totals}
use Rattle.survey_text.specs.declared.totals.VerdictTotals.{VerdictTotals}

-- the count, and 1 more if the test is true
abbrev pub one_more_where : Bool → ℕ → ℕ
one_more_where true count = count + 1
one_more_where false count = count

-- the sum of `total` and `other`, at most 2 ^ 64 - 1
abbrev pub sum_of : ℕ → ℕ → ℕ
sum_of total other = min (total + other) (2 ^ 64 - 1)

-- each count in `verdicts` can grow by 1
pub record CanCountVerdicts (verdicts : VerdictTotals) : Type 0 where
  pub none : verdicts.none < 2 ^ 63
  pub one : verdicts.one < 2 ^ 63
  pub several : verdicts.several < 2 ^ 63
  pub unsettled : verdicts.unsettled < 2 ^ 63

-- each count in `grades` can grow by 1
pub record CanCountGrades (grades : GradeTotals) : Type 0 where
  pub by_lines : grades.by_lines < 2 ^ 63
  pub by_trials : grades.by_trials < 2 ^ 63
  pub by_search : grades.by_search < 2 ^ 63

-- each of `totals` can grow by 1, and the number of entries fits into a `u32` then
pub record CanCount (totals : Totals) : Type 0 where
  pub all : totals.entries < 2 ^ 31
  pub refused : totals.refused < 2 ^ 63
  pub verdicts : CanCountVerdicts totals.verdicts
  pub grades : CanCountGrades totals.grades

-- the printed counts of the refused entries and of each verdict
abbrev pub statuses_text : Totals → List ℕ
statuses_text totals =
    count_text (codes "refused") totals.refused ++ count_text (codes "none") totals.verdicts.none
    ++ count_text (codes "one") totals.verdicts.one
    ++ count_text (codes "several") totals.verdicts.several
    ++ count_text (codes "unsettled") totals.verdicts.unsettled

-- the printed count of each grade
abbrev pub grades_text : Totals → List ℕ
grades_text totals =
    count_text (codes "line") totals.grades.by_lines
    ++ count_text (codes "trials") totals.grades.by_trials
    ++ count_text (codes "search") totals.grades.by_search

-- the last line of a survey, printed from `totals`
abbrev pub totals_text : Totals → List ℕ
totals_text totals =
    codes "entries " ++ decimal totals.entries ++ statuses_text totals ++ grades_text totals
    ++ codes "\n"
