-- Records one after the other, read back until none is left.
use Rattle.std.proofs.Common.{rules, refl, ap, ◌≡◌, ◌≤◌, ◌+◌, ℕ, zero, suc, List, [], ◌∷◌, length, map, arith}
use Rattle.std.specs.List.{flat_map}
use Rattle.std.proofs.lemmas.List.{length-append}
use Rattle.csv.specs.Reading.{default_config, records, records_from}
use Rattle.csv.specs.Writing.{default_writer, read_back, row_text}
use Rattle.csv.specs.declared.parser.State.TheVariants.{StartRecord}
use Rattle.csv.specs.Machine.{next_record}
use Rattle.csv.proofs.RoundTrip.{read-write}

-- the text of records, one after the other
abbrev pub table_text : List (List (List ℕ)) → List ℕ
table_text rows = flat_map (row_text default_writer) rows

-- a record ends with a line feed, so that its text isn't empty
row_is_long : (fields : List (List ℕ)) → 1 ≤ length (row_text default_writer fields)
row_is_long fields = search (rules, length-append)

-- there are at most as many records as bytes
rows_are_long : (rows : List (List (List ℕ))) → length rows ≤ length (table_text rows)
rows_are_long [] = omega arith
rows_are_long (row ∷ rows) =
    omega (arith, row_is_long row, rows_are_long rows, length-append (row_text default_writer row) (table_text rows))

-- in enough turns all records are read
turns_suffice : (rows : List (List (List ℕ))) (turns : ℕ) → length rows ≤ turns
    → records_from default_config turns StartRecord (table_text rows) ≡ map read_back rows
unfolding records_from next_record
turns_suffice [] zero few = refl
turns_suffice [] (suc turns) few = refl
turns_suffice (row ∷ rows) zero few = absurd (omega (arith, few))
turns_suffice (row ∷ rows) (suc turns) few =
    rw (read-write row (table_text rows))
    (ap (λ (others : List (List (List ℕ))). read_back row ∷ others) (turns_suffice rows turns (omega (arith, few))))

-- the records of the texts of records, one after the other, are these records
pub table_records : (rows : List (List (List ℕ))) → records default_config (table_text rows) ≡ map read_back rows
table_records rows = turns_suffice rows (length (table_text rows) + 1) (omega (arith, rows_are_long rows))
