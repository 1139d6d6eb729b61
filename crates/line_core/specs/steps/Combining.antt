-- The support of a line after a cell is filled or made blank, combined from the supports of the
-- cells before and after.
use Rattle.std.specs.Prelude.{◌≡◌, ℕ, ◌+◌, ◌-◌, ◌*◌, ◌<◌, ◌≤◌, ◌⊎◌, Bool, true, false, not, List, length, slice_index_or, reverse}
use Rattle.grid_core.specs.declared.cells.Cell.{Cell}
use Rattle.bit_sets.specs.Masks.{Has}
use Rattle.line_core.specs.declared.lookahead.TheConstants.{MAX_LOOKAHEAD_LEN}
use Rattle.line_core.specs.declared.prefix_supports.TheConstants.{ROW_STRIDE}
use Rattle.line_core.specs.Lookahead.{SupportMasks, LookaheadMasks, coloured, masks_if, no_lookahead}
use Rattle.line_core.specs.steps.Lookahead.{AreMasks, ArePrefixSupports, CanBeBefore, IsFeasibleGap}
use Rattle.line_core.specs.steps.Feasibility.{AreLengths, reversed_prefix, MayBe, IsSuffixGap, IsFeasibleEnd}

-- cell `k` is in the support `masks` as filled if the second argument is true, or else as blank
abbrev pub HasColour : SupportMasks → Bool → ℕ → Type 0
HasColour masks true k = Has masks.fillable k
HasColour masks false k = Has masks.blankable k

-- the support `new` has the cells of `old` and, for each colour, those of which `P` holds, and no
-- others
abbrev pub AreMore : (Bool → ℕ → Type 0) → SupportMasks → SupportMasks → Type 0
AreMore P old new = AreMasks (λ filled k. HasColour old filled k ⊎ P filled k) new

-- `len` is the length of the line, at most `width`, and short enough for lookahead; `before` has
-- the prefix supports of the line, and `after` those of the mirrored line, whose cells keep the
-- indices of the line itself; the numbers of `clue` are at most `width`
pub record AreEndSupports
    (width : ℕ) (line : List Cell) (clue : List ℕ)
    (len : ℕ) (before after : List SupportMasks) : Type 0 where
  pub len_is : len ≡ length line
  pub within : len ≤ width
  pub short : len ≤ MAX_LOOKAHEAD_LEN
  pub lengths : AreLengths width clue
  pub before_is : ArePrefixSupports false line clue before
  pub after_is : ArePrefixSupports true (reverse line) (reverse clue) after
  pub before_fits : ROW_STRIDE * (length clue + 1) ≤ length before
  pub after_fits : ROW_STRIDE * (length clue + 1) ≤ length after

-- cell `k`, at or after `i`, can take the colour `filled` while `i` is a suffix gap after `j` runs
abbrev pub CanBeAfter : List Cell → List ℕ → ℕ → ℕ → Bool → ℕ → Type 0
CanBeAfter line clue j i filled k =
    (i ≤ k) × MayBe line filled k × IsSuffixGap (coloured line k filled) clue j i

-- cell `k` can take the colour `filled` in a placing in which `i` is the gap after `j` runs, if
-- there is such a placing
abbrev pub CanBeBesideGap : List Cell → List ℕ → ℕ → ℕ → Bool → ℕ → Type 0
CanBeBesideGap line clue j i filled k =
    CanBeBefore line (reversed_prefix 0 clue j) i filled k ⊎ CanBeAfter line clue j i filled k

-- cell `k`, at or before `e`, can take the colour `filled` while a run of `number` cells ends at
-- `e`: it is a cell of the run, or can take the colour up to the gap right before the run
abbrev pub CanBeUpTo : List Cell → List ℕ → ℕ → Bool → ℕ → ℕ → Type 0
CanBeUpTo line runs number filled e k =
    ((filled ≡ true) × (e + 1 - number ≤ k) × (k ≤ e))
    ⊎ ((number ≤ e) × CanBeBefore line runs (e - number) filled k)

-- cell `k` can take the colour `filled` in a placing in which run `j` ends at `e`, if there is such
-- a placing
abbrev pub CanBeBesideRun : List Cell → List ℕ → ℕ → ℕ → Bool → ℕ → Type 0
CanBeBesideRun line clue j e filled k =
    CanBeUpTo line (reversed_prefix 0 clue j) (slice_index_or clue j 0) filled e k
    ⊎ ((e + 1 < length line) × CanBeAfter line clue (j + 1) (e + 1) filled k)

-- run `j` ends at `e` in some placing, and then covers cell `x`
abbrev pub IsEndOver : List Cell → List ℕ → ℕ → ℕ → ℕ → Type 0
IsEndOver line clue j x e =
    (x ≤ e) × (e < x + slice_index_or clue j 0) × IsFeasibleEnd line clue j e

-- cell `k` can take the colour `filled` in a placing in which `x` is blank, with exactly the first
-- `j` runs before it
abbrev pub CanBeWithBlank : List Cell → List ℕ → ℕ → ℕ → Bool → ℕ → Type 0
CanBeWithBlank line clue x j filled k =
    IsFeasibleGap line clue j x × CanBeBesideGap line clue j x filled k

-- cell `k` can take the colour `filled` in a placing in which run `j` covers cell `x`
abbrev pub CanBeWithFilled : List Cell → List ℕ → ℕ → ℕ → Bool → ℕ → Type 0
CanBeWithFilled line clue x j filled k =
    (e : ℕ) × IsEndOver line clue j x e × CanBeBesideRun line clue j e filled k

-- for each cell `x`, the support in `new` after it takes the colour `filled` has what it has in
-- `old` and that of which `P x` holds, and the support for the other colour is as in `old`
pub record AreLookaheadsMore
    (filled : Bool) (P : ℕ → Bool → ℕ → Type 0) (old new : List LookaheadMasks) : Type 0 where
  pub more : (x : ℕ) → x < length old
      → AreMore (P x)
      (masks_if filled (slice_index_or old x no_lookahead))
      (masks_if filled (slice_index_or new x no_lookahead))
  pub other : (x : ℕ)
      → masks_if (not filled) (slice_index_or new x no_lookahead)
      ≡ masks_if (not filled) (slice_index_or old x no_lookahead)
  pub count : length new ≡ length old
