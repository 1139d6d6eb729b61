-- The record of an entry as text.
use Rattle.std.specs.Prelude.{ℕ, List}
use Rattle.csv.specs.Writing.{default_writer, row_text}
use Rattle.survey_text.specs.Entries.{GradedEntry}
use Rattle.survey_csv.specs.Fields.{csv_fields}

-- the record of `entry`, which has the number `number`, with this message, as the crate `csv` writes
-- it: with commas between fields, quotes where they are needed, and a line feed at the end
abbrev pub csv_row : ℕ → GradedEntry → List ℕ → List ℕ
csv_row number entry message = row_text default_writer (csv_fields number entry message)
