-- The form of csv.
use Rattle.std.specs.Prelude.{[]}
use Rattle.check_text.specs.EntryMessages.{entry_message}
use Rattle.survey_text.specs.Forms.{Form, without_text}
use Rattle.survey_csv.specs.Fields.{csv_header}
use Rattle.survey_csv.specs.Rows.{csv_row}

-- the form of csv: the header line, and for each entry a record with the message on it
abbrev pub csv_form : Form
csv_form = record {
  head = csv_header;
  entry = λ number entry. csv_row number (without_text entry) (entry_message entry);
  tail = λ entries. [];
}
