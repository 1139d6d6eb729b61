-- What the sets of a lookahead table stand for, and feasible gaps and ends.
use Rattle.std.specs.Prelude.{◌≡◌, ℕ, ◌+◌, ◌-◌, ◌*◌, ◌<◌, ◌≤◌, Bool, true, false, ◌||◌, List, length, slice_index_or}
use Rattle.grid_core.specs.declared.cells.Cell.{Cell}
use Rattle.grid_core.specs.declared.cells.Cell.TheVariants.{Unknown}
use Rattle.bit_sets.specs.Masks.{Has, has, IsMaskOf}
use Rattle.line_core.specs.declared.prefix_supports.TheConstants.{ROW_STRIDE}
use Rattle.line_core.specs.Lookahead.{SupportMasks, LookaheadMasks, masks_if, no_support, no_lookahead, coloured}
use Rattle.line_core.specs.steps.Feasibility.{reversed_prefix, MayBe, IsGapAfter, IsPrefixGap, IsSuffixGap, IsFeasibleEnd, IsFillable, IsBlankable}

-- by the support `masks` the line is alive, and each of `cells` stays unknown
pub record LeavesUndecided (masks : SupportMasks) (cells : ℕ) : Type 0 where
  pub alive : (has masks.fillable 0 || has masks.blankable 0) ≡ true
  pub both : (i : ℕ) → Has cells i → Has masks.fillable i × Has masks.blankable i

-- `masks` is the support of the line
pub record IsSupportOf (line : List Cell) (clue : List ℕ) (masks : SupportMasks) : Type 0 where
  pub fillable_is : IsMaskOf (IsFillable line clue) masks.fillable
  pub blankable_is : IsMaskOf (IsBlankable line clue) masks.blankable

-- `lookaheads` have, for each unknown cell of the line and each colour, the support of the line
-- with that colour there
abbrev pub AreLookaheads : List Cell → List ℕ → List LookaheadMasks → Type 0
AreLookaheads line clue lookaheads =
    (x : ℕ) (filled : Bool) → x < length line → slice_index_or line x Unknown ≡ Unknown
    → IsSupportOf (coloured line x filled) clue
    (masks_if filled (slice_index_or lookaheads x no_lookahead))

-- the support `masks` has, for each colour, exactly the cells of which `P` holds
pub record AreMasks (P : Bool → ℕ → Type 0) (masks : SupportMasks) : Type 0 where
  pub fillable_is : IsMaskOf (P true) masks.fillable
  pub blankable_is : IsMaskOf (P false) masks.blankable

-- cell `k`, at or before `i`, can take the colour `filled` while `i` is a prefix gap after `runs`,
-- of which the last one comes first
abbrev pub CanBeBefore : List Cell → List ℕ → ℕ → Bool → ℕ → Type 0
CanBeBefore line runs i filled k =
    (k ≤ i) × MayBe line filled k × IsGapAfter (coloured line k filled) runs i

-- the index of cell `k` of a line of `len` cells, counted from the other end if the first argument
-- is true
abbrev pub mirror_index : Bool → ℕ → ℕ → ℕ
mirror_index true len k = len - 1 - k
mirror_index false len k = k

-- the cell at index `k`, counted from the other end of `line` if `mirrored`, can take the colour
-- `filled` while `i` is a prefix gap after `runs`
abbrev pub CanBeMirrored : Bool → List Cell → List ℕ → ℕ → Bool → ℕ → Type 0
CanBeMirrored mirrored line runs i filled k =
    (k < length line) × CanBeBefore line runs i filled (mirror_index mirrored (length line) k)

-- the prefix support of the gap at `i` after `runs`: for each colour, the cells up to `i` that can
-- take it together with the gap, by their indices counted from the other end of `line` if
-- `mirrored`
abbrev pub IsPrefixSupport : Bool → List Cell → List ℕ → ℕ → SupportMasks → Type 0
IsPrefixSupport mirrored line runs i = AreMasks (CanBeMirrored mirrored line runs i)

-- `i` is a feasible gap after `j` runs: it is blank in some placing, with exactly the first `j`
-- runs before it
abbrev pub IsFeasibleGap : List Cell → List ℕ → ℕ → ℕ → Type 0
IsFeasibleGap line clue j i = IsPrefixGap line clue j i × IsSuffixGap line clue j i

-- `masks` have the feasible gaps before each run and after the last one, by the number of runs
-- before
abbrev pub AreFeasibleGaps : List Cell → List ℕ → List ℕ → Type 0
AreFeasibleGaps line clue masks =
    (j : ℕ) → j ≤ length clue → IsMaskOf (IsFeasibleGap line clue j) (slice_index_or masks j 0)

-- `masks` have the feasible ends of each run
abbrev pub AreFeasibleEnds : List Cell → List ℕ → List ℕ → Type 0
AreFeasibleEnds line clue masks =
    (j : ℕ) → j < length clue → IsMaskOf (IsFeasibleEnd line clue j) (slice_index_or masks j 0)

-- `gaps` have the feasible gaps before each run and after the last one, and `ends` the feasible
-- ends of each run
pub record AreFeasible (line : List Cell) (clue gaps ends : List ℕ) : Type 0 where
  pub gaps_are : AreFeasibleGaps line clue gaps
  pub ends_are : AreFeasibleEnds line clue ends

-- `table` has the prefix support of each feasible gap, in rows of `ROW_STRIDE` by the number of
-- runs before, and in a row by the index of the gap
abbrev pub ArePrefixSupports : Bool → List Cell → List ℕ → List SupportMasks → Type 0
ArePrefixSupports mirrored line clue table =
    (j i : ℕ) → j ≤ length clue → IsFeasibleGap line clue j i
    → IsPrefixSupport mirrored line (reversed_prefix 0 clue j) i
    (slice_index_or table (ROW_STRIDE * j + i) no_support)
