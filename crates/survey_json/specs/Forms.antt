-- The form of JSON.
use Rattle.std.specs.Prelude.{List, [], length, count_by, codes}
use Rattle.survey_text.specs.Entries.{GradedEntry}
use Rattle.survey_text.specs.Forms.{Form}
use Rattle.survey_text.specs.Totals.{has_grade, has_status}
use Rattle.survey_json.specs.Entries.{object_of}
use Rattle.survey_json.specs.Lines.{line_of}
use Rattle.survey_json.specs.Totals.{totals_object}
use Rattle.survey_json.specs.declared.totals.EntryCounts.{EntryCounts}

-- how many entries a survey has, and how many of them have each status and each grade
abbrev pub counts_of : List GradedEntry → EntryCounts
counts_of graded = record {
  entries = length graded;
  refused = count_by (has_status (codes "refused")) graded;
  none = count_by (has_status (codes "none")) graded;
  one = count_by (has_status (codes "one")) graded;
  several = count_by (has_status (codes "several")) graded;
  unsettled = count_by (has_status (codes "unsettled")) graded;
  line = count_by (has_grade (codes "line")) graded;
  trials = count_by (has_grade (codes "trials")) graded;
  search = count_by (has_grade (codes "search")) graded;
}

-- the form of JSON: a line for each entry, and the line of totals
abbrev pub json_form : Form
json_form = record {
  head = [];
  entry = λ number entry. line_of (object_of number entry);
  tail = λ entries. line_of (totals_object (counts_of entries));
}
