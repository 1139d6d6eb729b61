-- What the chunks of a survey hold: their texts, and the totals of their entries.
use Rattle.std.specs.Prelude.{◌≡◌, ℕ, List, ◌++◌, length, map, count_by, codes}
use Rattle.survey_text.specs.Entries.{GradedEntry}
use Rattle.survey_text.specs.Forms.{Form, FormEntry, entries_in, without_text}
use Rattle.survey_text.specs.Totals.{has_grade, has_status}
use Rattle.streams.specs.Writing.{joined}
use Rattle.survey_text.specs.declared.texts.ChunkTexts.{ChunkTexts}
use Rattle.survey_text.specs.declared.texts.SurveyText.{SurveyText}
use Rattle.survey_text.specs.declared.totals.Totals.{Totals}

-- `totals` are those of `entries`: each is the number of entries with its status or grade
pub record IsTotals (totals : Totals) (entries : List GradedEntry) : Type 0 where
  pub all : totals.entries ≡ length entries
  pub refused : totals.refused ≡ count_by (has_status (codes "refused")) entries
  pub none : totals.verdicts.none ≡ count_by (has_status (codes "none")) entries
  pub one : totals.verdicts.one ≡ count_by (has_status (codes "one")) entries
  pub several : totals.verdicts.several ≡ count_by (has_status (codes "several")) entries
  pub unsettled : totals.verdicts.unsettled ≡ count_by (has_status (codes "unsettled")) entries
  pub by_lines : totals.grades.by_lines ≡ count_by (has_grade (codes "line")) entries
  pub by_trials : totals.grades.by_trials ≡ count_by (has_grade (codes "trials")) entries
  pub by_search : totals.grades.by_search ≡ count_by (has_grade (codes "search")) entries

-- the texts of all chunks in `chunks`, joined
abbrev pub chunks_text : ChunkTexts → List ℕ
chunks_text chunks = joined chunks.front.items ++ chunks.last.items

-- `chunks` are chunks of `entries`, numbered from `first`: they have their texts in `form`, and
-- their totals
pub record AreChunks (form : Form) (first : ℕ) (chunks : ChunkTexts) (entries : List FormEntry)
    : Type 0 where
  pub text : chunks_text chunks ≡ entries_in form first entries
  pub totals : IsTotals chunks.totals (map without_text entries)

-- the whole text of `survey`
abbrev pub whole_text : SurveyText → List ℕ
whole_text survey = joined survey.front.items ++ survey.last.items
