-- Prefix supports, row by row, and cells as they stand on the mirrored line.
use Rattle.std.specs.Prelude.{◌≡◌, Bool, ℕ, ◌+◌, ◌*◌, ◌<◌, ◌≤◌, List, length, slice_index_or}
use Rattle.grid_core.specs.declared.cells.Cell.{Cell}
use Rattle.bit_sets.specs.Masks.{IsMaskOf}
use Rattle.line_core.specs.declared.lookahead.TheConstants.{MAX_LOOKAHEAD_LEN}
use Rattle.line_core.specs.declared.prefix_supports.TheConstants.{ROW_STRIDE}
use Rattle.line_core.specs.steps.Feasibility.{reversed_prefix, IsFeasibleEnd}
use Rattle.line_core.specs.Lookahead.{SupportMasks, no_support}
use Rattle.line_core.specs.steps.Lookahead.{ArePrefixSupports, IsPrefixSupport, IsFeasibleGap, mirror_index}

-- from index `from` on, `table` has the prefix support of each feasible gap after the first `j`
-- runs
abbrev pub IsRow : Bool → List Cell → List ℕ → ℕ → ℕ → List SupportMasks → Type 0
IsRow mirrored line clue j from table =
    (i : ℕ) → IsFeasibleGap line clue j i
    → IsPrefixSupport mirrored line (reversed_prefix 0 clue j) i
    (slice_index_or table (from + i) no_support)

-- the index of cell `k` of a line of `len` cells, counted from the other end if `mirrored`, is in
-- `from..to`
abbrev pub IsMirroredIn : Bool → ℕ → ℕ → ℕ → ℕ → Type 0
IsMirroredIn mirrored len from to k =
    (k < len) × (from ≤ mirror_index mirrored len k) × (mirror_index mirrored len k < to)

-- `i` is the index of a cell of a line of `len` cells, at most `width`
pub record IsCellOf (width len i : ℕ) : Type 0 where
  pub within : len ≤ width
  pub inside : i < len

-- `gaps` are the feasible gaps after run `j`, and `ends` its feasible ends
pub record AreFeasibleAt (line : List Cell) (clue : List ℕ) (j gaps ends : ℕ) : Type 0 where
  pub gaps_are : IsMaskOf (IsFeasibleGap line clue (j + 1)) gaps
  pub ends_are : IsMaskOf (IsFeasibleEnd line clue j) ends

-- `table` has the prefix supports of the gaps after up to `j` runs
abbrev pub AreRowsTo : Bool → List Cell → List ℕ → ℕ → List SupportMasks → Type 0
AreRowsTo mirrored line clue j table =
    (q : ℕ) → q ≤ j → IsRow mirrored line clue q (ROW_STRIDE * q) table

-- `table` has the prefix supports of the gaps after up to `j` runs, and the next row can be written
-- for `line`
pub record HasRows
    (mirrored : Bool) (line : List Cell) (clue : List ℕ) (j : ℕ) (table : List SupportMasks)
    : Type 0 where
  pub short : length line ≤ MAX_LOOKAHEAD_LEN
  pub rows : AreRowsTo mirrored line clue j table
  pub size : ROW_STRIDE * (j + 2) ≤ length table

-- `new` is as long as `old`, and has the prefix supports of the gaps after run `j` too
pub record WritesRow
    (mirrored : Bool) (line : List Cell) (clue : List ℕ) (j : ℕ) (old new : List SupportMasks)
    : Type 0 where
  pub rows : AreRowsTo mirrored line clue (j + 1) new
  pub count : length new ≡ length old

-- `table` has a row for each gap of `clue`, long enough for `line`
pub record HasRowsFor (line : List Cell) (clue : List ℕ) (table : List SupportMasks) : Type 0 where
  pub short : length line ≤ MAX_LOOKAHEAD_LEN
  pub rows : ROW_STRIDE * (length clue + 1) ≤ length table

-- `new` is as long as `old`, and has the prefix support of each feasible gap
pub record WritesPrefixSupports
    (mirrored : Bool) (line : List Cell) (clue : List ℕ) (old new : List SupportMasks)
    : Type 0 where
  pub supports : ArePrefixSupports mirrored line clue new
  pub count : length new ≡ length old
