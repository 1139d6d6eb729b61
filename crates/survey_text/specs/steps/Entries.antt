-- An entry with borrowed results, as a graded entry.
use Rattle.survey_text.specs.declared.listed.ListedEntry.{ListedEntry}
use Rattle.survey_text.specs.Entries.{GradedEntry}
use Rattle.survey_text.specs.Forms.{without_text}
use Rattle.survey_text.specs.Listed.{form_entry}

-- `entry` as a graded entry
abbrev pub shown_listed : ListedEntry → GradedEntry
shown_listed entry = without_text (form_entry entry)
