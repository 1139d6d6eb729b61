-- Lookahead: the support of a line after one more of its cells is known, and tables of it.
use Rattle.std.specs.Prelude.{◌≡◌, ℕ, ◌<◌, ◌≤◌, Bool, true, false, List, [], length, Option, Some, None, slice_set, slice_index_or}
use Rattle.grid_core.specs.declared.cells.Cell.{Cell}
use Rattle.grid_core.specs.declared.cells.Cell.TheVariants.{Unknown}
use Rattle.grid_core.specs.Cells.{colour}
use Rattle.line_core.specs.Deduction.{deduced}
use Rattle.line_core.specs.Support.{deduced_from}
use Rattle.bit_sets.specs.Masks.{Has}
use Rattle.line_core.specs.declared.lookahead.TheConstants.{MAX_LOOKAHEAD_LEN}

-- the bits of a line's support: the cells filled in some placing, and the cells blank in some
pub record SupportMasks : Type 0 where
  pub fillable : ℕ
  pub blankable : ℕ

-- the empty support
abbrev pub no_support : SupportMasks
no_support = record { fillable = 0; blankable = 0 }

-- the bits of the support of a line after one of its cells is filled, and after it is made blank
pub record LookaheadMasks : Type 0 where
  pub if_filled : SupportMasks
  pub if_blank : SupportMasks

-- the pair of two empty supports
abbrev pub no_lookahead : LookaheadMasks
no_lookahead = record { if_filled = no_support; if_blank = no_support }

-- the support after the cell is filled if the first argument is true, or else after it is made
-- blank
abbrev pub masks_if : Bool → LookaheadMasks → SupportMasks
masks_if true lookahead = lookahead.if_filled
masks_if false lookahead = lookahead.if_blank

-- the line with cell `k` filled if `filled`, or else blank
abbrev pub coloured : List Cell → ℕ → Bool → List Cell
coloured line k filled = slice_set line k (colour filled)

-- a lookahead table: its line, if it has one; for each cell the support after it is filled and
-- after it is made blank; and the bits of the inert cells, those that can be filled, or made blank,
-- without anything else being deduced
pub record Table : Type 0 where
  pub line : Option (List Cell)
  pub lookaheads : List LookaheadMasks
  pub inert_filled : ℕ
  pub inert_blank : ℕ

-- the cells that are inert when filled if the first argument is true, or else when blank
abbrev pub inert_if : Bool → Table → ℕ
inert_if true table = table.inert_filled
inert_if false table = table.inert_blank

-- a table without a line
abbrev pub no_table : Table
no_table = record { line = None; lookaheads = []; inert_filled = 0; inert_blank = 0 }

-- the memory of a table suffices for lines of `width` cells, and there is an entry for each cell of
-- its line
pub record IsTableIn
    (width : ℕ) (its_line : Option (List Cell))
    (lookaheads : List LookaheadMasks) (capacity : ℕ) : Type 0 where
  pub fits : width ≤ capacity
  pub written : (line : List Cell) → its_line ≡ Some line → length line ≤ length lookaheads

-- for each unknown cell of `line` and each colour, `lookaheads` have a support by which the line
-- with that colour there is deduced
pub record AreLookaheadsOf
    (clue : List ℕ) (line : List Cell) (lookaheads : List LookaheadMasks) : Type 0 where
  pub are_deduced : (x : ℕ) (filled : Bool)
      → x < length line → slice_index_or line x Unknown ≡ Unknown
      → (let masks = masks_if filled (slice_index_or lookaheads x no_lookahead) in
      deduced_from (length line) masks.fillable masks.blankable
      ≡ deduced (coloured line x filled) clue)

-- there is an entry in `lookaheads` for each cell of `line`, which is short enough for a table
pub record HasEntries (line : List Cell) (lookaheads : List LookaheadMasks) : Type 0 where
  pub short : length line ≤ MAX_LOOKAHEAD_LEN
  pub entries : length line ≤ length lookaheads

-- `new` is as long as `old`, and has the lookahead of each unknown cell of `line`
pub record WritesLookaheads
    (clue : List ℕ) (line : List Cell) (old new : List LookaheadMasks) : Type 0 where
  pub are : AreLookaheadsOf clue line new
  pub count : length new ≡ length old

-- each unknown cell of `line` that is in `cells` is inert: once it is filled, if `filled`, or else
-- made blank, nothing else is deduced
pub record AreInert (clue : List ℕ) (line : List Cell) (filled : Bool) (cells : ℕ) : Type 0 where
  pub nothing_else : (x : ℕ) → x < length line → slice_index_or line x Unknown ≡ Unknown
      → Has cells x
      → deduced (coloured line x filled) clue ≡ Some (coloured line x filled)

-- the supports and the inert cells of `table` are those of its line and of `clue`
pub record IsTableOf (clue : List ℕ) (table : Table) : Type 0 where
  pub lookaheads : (line : List Cell) → table.line ≡ Some line
      → AreLookaheadsOf clue line table.lookaheads
  pub inert : (line : List Cell) (filled : Bool) → table.line ≡ Some line
      → AreInert clue line filled (inert_if filled table)

-- `line` is the line of `table`, but for cell `x`, which is unknown in that one, and known in
-- `line`
pub record HasOneCellMore (table : Table) (line : List Cell) : Type 0 where
  pub base : List Cell
  pub x : ℕ
  pub filled : Bool
  pub base_is : table.line ≡ Some base
  pub inside : x < length base
  pub unknown : slice_index_or base x Unknown ≡ Unknown
  pub line_is : line ≡ coloured base x filled
