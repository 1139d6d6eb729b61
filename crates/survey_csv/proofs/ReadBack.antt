-- The records of a table of entries are read back as their fields.
use Rattle.std.proofs.Common.{◌≡◌, ◌∙◌, refl, ap, Result, List, ℕ, [], ◌∷◌, ◌++◌, map, Ok, Err, Some}
use Rattle.std.specs.List.{flat_map}
use Rattle.csv.specs.Reading.{default_config, records, strip_bom}
use Rattle.csv.specs.Writing.{default_writer, fields_text, is_blank, read_back, row_text}
use Rattle.csv.specs.declared.parser.State.TheVariants.{StartRecord}
use Rattle.csv.proofs.RoundTrip.{read-write}
use Rattle.grid_core.specs.Nonogram.{Nonogram}
use Rattle.puzzle_text.specs.declared.faults.EntryFault.{EntryFault}
use Rattle.solve_core.specs.declared.findings.Findings.{Findings}
use Rattle.survey_csv.specs.Fields.{column_names, csv_header, result_fields}
use Rattle.survey_csv.specs.Laws.{RowIsReadBack, TableEntry, TableIsReadBack, entry_fields, entry_row}
use Rattle.survey_csv.proofs.TableLemmas.{table_records, table_text}

-- a record of the fields of an entry is read back as these fields
same_result_fields : (number : ℕ) (name : List ℕ) (found : Result (Nonogram × Findings) EntryFault) (message : List ℕ)
    → read_back (result_fields number name found message) ≡ result_fields number name found message
same_result_fields number name (Ok found) message = refl
same_result_fields number name (Err fault) message = refl

-- the same for an entry of a table
same_fields : (listed : TableEntry) → read_back (entry_fields listed) ≡ entry_fields listed
same_fields listed = same_result_fields listed.number listed.entry.name listed.entry.result listed.message

-- the same for records of several entries
all_same_fields : (entries : List TableEntry) → map read_back (map entry_fields entries) ≡ map entry_fields entries
all_same_fields [] = refl
all_same_fields (entry ∷ entries) = rw (same_fields entry, all_same_fields entries) refl

-- the records of entries are the texts of their fields
rows_are_texts : (entries : List TableEntry) → flat_map entry_row entries ≡ table_text (map entry_fields entries)
rows_are_texts [] = refl
rows_are_texts (entry ∷ entries) = ap (λ (rows : List ℕ). entry_row entry ++ rows) (rows_are_texts entries)

-- the header line is the record of the names of the columns
pub header_is_text : csv_header ≡ row_text default_writer column_names
unfolding fields_text is_blank
header_is_text = refl

-- a header line with records of entries behind it is the text of the names and of the fields of these entries
table_is_text : (entries : List TableEntry)
    → csv_header ++ flat_map entry_row entries ≡ table_text (column_names ∷ map entry_fields entries)
table_is_text entries =
    ap (λ (rows : List ℕ). csv_header ++ rows) (rows_are_texts entries)
    ∙ ap (λ (header : List ℕ). header ++ table_text (map entry_fields entries)) header_is_text

-- a header line begins with no byte order mark
no_mark : (behind : List ℕ) → strip_bom (csv_header ++ behind) ≡ csv_header ++ behind
unfolding strip_bom
no_mark behind = refl

pub row_read_back : RowIsReadBack
row_read_back entry behind =
    read-write (entry_fields entry) behind ∙ ap (λ (fields : List (List ℕ)). Some (fields, StartRecord, behind)) (same_fields entry)

pub table_read_back : TableIsReadBack
table_read_back entries =
    ap (λ (text : List ℕ). records default_config text) (no_mark (flat_map entry_row entries) ∙ table_is_text entries)
    ∙ table_records (column_names ∷ map entry_fields entries)
    ∙ ap (λ (rows : List (List (List ℕ))). column_names ∷ rows) (all_same_fields entries)
