-- Prefix gaps, suffix gaps and ends of runs: which parts of a clue fit which parts of a line.
use Rattle.std.specs.Prelude.{◌≡◌, ℕ, zero, suc, ◌+◌, ◌-◌, ◌<◌, ◌≤◌, Bool, true, false, List, [], ◌∷◌, length, reverse, slice_index, slice_index_or, drop, All}
use Rattle.grid_core.specs.declared.cells.Cell.{Cell}
use Rattle.grid_core.specs.declared.cells.Cell.TheVariants.{Unknown}
use Rattle.grid_core.specs.Cells.{allows, agrees}
use Rattle.grid_core.specs.Runs.{runs}
use Rattle.grid_core.specs.declared.limits.TheConstants.{MAX_RUNS}
use Rattle.bit_sets.specs.Masks.{Has, IsMaskOf, AllFrom, SomeFrom}

-- there are at most `MAX_RUNS` numbers, each the length of a run: at least 1, and at most `width`
pub record AreLengths (width : ℕ) (clue : List ℕ) : Type 0 where
  pub few : length clue ≤ MAX_RUNS
  pub positive : All (λ n. 0 < n) clue
  pub short : All (λ n. n ≤ width) clue

-- the first `n` elements of `xs`, where `n` is the last argument, the last of them first; `default`
-- stands for missing ones
abbrev pub reversed_prefix : {A : Type 0} → A → List A → ℕ → List A
reversed_prefix default xs zero = []
reversed_prefix default xs (suc i) = slice_index_or xs i default ∷ reversed_prefix default xs i

-- some full line agrees with `cells`, and its runs are `clue`
abbrev pub HasPlacing : List Cell → List ℕ → Type 0
HasPlacing cells clue = (full : List Bool) × (agrees cells full ≡ true) × (runs full ≡ clue)

-- some full line agrees with `cells`, its runs are `clue`, and it is empty or begins with a blank
-- cell
abbrev pub MayBeginBlank : List Cell → List ℕ → Type 0
MayBeginBlank cells clue =
    (full : List Bool) × (agrees cells full ≡ true) × (runs full ≡ clue)
    × (slice_index_or full 0 false ≡ false)

-- cell `i` of the line can take a colour: it is unknown, or known in that colour
abbrev pub MayBe : List Cell → Bool → ℕ → Type 0
MayBe line filled i = (i < length line) × (allows (slice_index_or line i Unknown) filled ≡ true)

-- `i` is a prefix gap after `runs`, of which the last one comes first: the cell can be blank, and
-- the cells before it can have exactly these runs
abbrev pub IsGapAfter : List Cell → List ℕ → ℕ → Type 0
IsGapAfter line runs i = MayBe line false i × HasPlacing (reversed_prefix Unknown line i) runs

-- the next run after `runs`, of which the last one comes first, may start at `s` in sets of `width`
-- indices, as far as the cells before allow: the last of these has to be blank
abbrev pub IsNextStart : ℕ → List Cell → List ℕ → ℕ → Type 0
IsNextStart width line runs s =
    (s < width) × (s ≤ length line) × MayBeginBlank (reversed_prefix Unknown line s) runs

-- a run of `number` cells can start at `s`: these cells can be filled, and the cells before, of
-- which the last one has to be blank, can have exactly `runs`, of which the last one comes first
abbrev pub IsStartAfter : List Cell → List ℕ → ℕ → ℕ → Type 0
IsStartAfter line runs number s =
    MayBeginBlank (reversed_prefix Unknown line s) runs × AllFrom (MayBe line true) number s

-- a run of `number` cells can end at `e`, with exactly `runs`, of which the last one comes first,
-- before it
abbrev pub IsEndAfter : List Cell → List ℕ → ℕ → ℕ → Type 0
IsEndAfter line runs number e = (number ≤ e + 1) × IsStartAfter line runs number (e + 1 - number)

-- `i` is a prefix gap after `j` runs: it can be blank, with exactly the first `j` runs of the clue
-- in the cells before
abbrev pub IsPrefixGap : List Cell → List ℕ → ℕ → ℕ → Type 0
IsPrefixGap line clue j i = IsGapAfter line (reversed_prefix 0 clue j) i

-- `masks` have the next starts of the mirrored line before each run of the mirrored clue, and the
-- prefix gap after the last one
pub record AreReversedSuffixes (width : ℕ) (line : List Cell) (clue masks : List ℕ) : Type 0 where
  pub starts : (k : ℕ) → k < length clue
      → IsMaskOf (IsNextStart width (reverse line) (reversed_prefix 0 (reverse clue) k))
      (slice_index masks k)
  pub gap : IsMaskOf (IsPrefixGap (reverse line) (reverse clue) (length clue))
      (slice_index masks (length clue))

-- each set of `new` is that of `old`, mirrored within a line of `len` cells
abbrev pub AreReversedMasks : ℕ → List ℕ → List ℕ → Type 0
AreReversedMasks len old new =
    (length new ≡ length old)
    × ((k : ℕ) → k < length old
    → IsMaskOf (λ i. (i < len) × Has (slice_index old k) (len - 1 - i)) (slice_index new k))

-- run `j`, counted from 0, can end at `e`, as far as the cells before allow: these can have exactly
-- the runs before it
abbrev pub IsEnd : List Cell → List ℕ → ℕ → ℕ → Type 0
IsEnd line clue j e = IsEndAfter line (reversed_prefix 0 clue j) (slice_index_or clue j 0) e

-- `i` is a suffix gap after `j` runs: it can be blank, with exactly the other runs of the clue in
-- the cells after
abbrev pub IsSuffixGap : List Cell → List ℕ → ℕ → ℕ → Type 0
IsSuffixGap line clue j i = MayBe line false i × HasPlacing (drop (i + 1) line) (drop j clue)

-- run `j` may end at `e`, as far as the cells after allow: the first of these has to be blank, and
-- they can have exactly the runs after it
abbrev pub IsSuffixEnd : List Cell → List ℕ → ℕ → ℕ → Type 0
IsSuffixEnd line clue j e =
    (e < length line) × MayBeginBlank (drop (e + 1) line) (drop (j + 1) clue)

-- `masks` have the suffix ends of each run, the last run first, and then the suffix gap before the
-- first run
pub record AreSuffixes (line : List Cell) (clue masks : List ℕ) : Type 0 where
  pub ends : (j : ℕ) → j < length clue
      → IsMaskOf (IsSuffixEnd line clue j) (slice_index masks (length clue - 1 - j))
  pub gap : IsMaskOf (IsSuffixGap line clue 0) (slice_index masks (length clue))

-- `e` is a feasible end of run `j`: the run ends there in some placing
abbrev pub IsFeasibleEnd : List Cell → List ℕ → ℕ → ℕ → Type 0
IsFeasibleEnd line clue j e =
    IsEnd line clue j e × MayBeginBlank (drop (e + 1) line) (drop (j + 1) clue)

-- cell `i` is blank in some placing
abbrev pub IsBlankable : List Cell → List ℕ → ℕ → Type 0
IsBlankable line clue i =
    (j : ℕ) × (j ≤ length clue) × IsPrefixGap line clue j i × IsSuffixGap line clue j i

-- cell `i` is filled in some placing
abbrev pub IsFillable : List Cell → List ℕ → ℕ → Type 0
IsFillable line clue i =
    (j : ℕ) × (j < length clue)
    × SomeFrom (IsFeasibleEnd line clue j) (slice_index_or clue j 0) i
