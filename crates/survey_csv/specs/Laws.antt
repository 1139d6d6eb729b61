-- What the laws of records state.
use Rattle.std.specs.Prelude.{◌≡◌, ℕ, List, [], ◌∷◌, ◌++◌, length, map, Some}
use Rattle.std.specs.List.{flat_map}
use Rattle.csv.specs.Machine.{next_record}
use Rattle.csv.specs.Reading.{default_config, records, strip_bom}
use Rattle.csv.specs.declared.parser.State.TheVariants.{StartRecord}
use Rattle.survey_text.specs.Entries.{GradedEntry}
use Rattle.survey_csv.specs.Fields.{column_names, csv_fields, csv_header}
use Rattle.survey_csv.specs.Rows.{csv_row}

-- an entry of a table: its number, the graded entry and its message
pub record TableEntry : Type 0 where
  pub number : ℕ
  pub entry : GradedEntry
  pub message : List ℕ

-- the fields of an entry of a table
abbrev pub entry_fields : TableEntry → List (List ℕ)
entry_fields listed = csv_fields listed.number listed.entry listed.message

-- the record of an entry of a table
abbrev pub entry_row : TableEntry → List ℕ
entry_row listed = csv_row listed.number listed.entry listed.message

-- the fields of each entry are as many as the columns
abbrev pub HasFifteenFields : Type 0
HasFifteenFields = (listed : TableEntry)
    → (length (entry_fields listed) ≡ 15) × (length column_names ≡ 15)

-- a reader at the start of the record of an entry reads its fields, and then stands at the start of
-- the bytes behind it
abbrev pub RowIsReadBack : Type 0
RowIsReadBack = (listed : TableEntry) (behind : List ℕ)
    → next_record default_config StartRecord [] [] (entry_row listed ++ behind)
    ≡ Some (entry_fields listed, StartRecord, behind)

-- the records that a reader finds in a header line and the records of entries behind it are the
-- names of the columns and the fields of each entry
abbrev pub TableIsReadBack : Type 0
TableIsReadBack = (entries : List TableEntry)
    → records default_config (strip_bom (csv_header ++ flat_map entry_row entries))
    ≡ column_names ∷ map entry_fields entries
