-- Lookahead tables of lines: the support of a line after one more cell is assigned.
use Rattle.std.specs.Prelude.{◌≡◌, ℕ, Bool, false, List, [], None, slice_index_or}
use Rattle.line_core.specs.Lookahead.{Table, IsTableOf, no_table}

-- each table is one for the clue with the same index
pub record AreTablesOf (clues : List (List ℕ)) (tables : List Table) : Type 0 where
  pub each : (k : ℕ) → IsTableOf (slice_index_or clues k []) (slice_index_or tables k no_table)

-- no table has a line
pub record AreEmpty (tables : List Table) : Type 0 where
  pub each : (k : ℕ) → (slice_index_or tables k no_table).line ≡ None

-- as long as no table was written, none has a line
abbrev pub AreEmptyIfUnused : Bool → List Table → Type 0
AreEmptyIfUnused in_use tables = in_use ≡ false → AreEmpty tables
