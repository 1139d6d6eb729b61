-- Masks: natural numbers as sets of indices, one bit each.
use Rattle.std.specs.Prelude.{◌≡◌, ◌≢◌, ℕ, zero, suc, ◌+◌, ◌-◌, ◌*◌, ◌<◌, ◌≤◌, ◌⊎◌, Bool, true, nat_eq, List, slice_index_or, ◌^◌, Option, Some, None}
use Rattle.std.specs.Int.{bit_at}
use Rattle.bit_sets.specs.declared.wide.Bits256.{Bits256}

-- index `i` is in `mask`
abbrev pub Has : ℕ → ℕ → Type 0
Has mask i = bit_at mask i ≡ 1

-- `mask` is the set of the indices of which `P` holds
pub record IsMaskOf (P : ℕ → Type 0) (mask : ℕ) : Type 0 where
  pub to : (i : ℕ) → Has mask i → P i
  pub from : (i : ℕ) → P i → Has mask i

-- the last argument is reached from a source by going upwards: a source is at or below it, and all
-- indices above that one up to it are free
abbrev pub IsFlooded : (ℕ → Type 0) → (ℕ → Type 0) → ℕ → Type 0
IsFlooded Source Free zero = Source zero
IsFlooded Source Free (suc i) = Source (suc i) ⊎ (Free (suc i) × IsFlooded Source Free i)

-- `P` holds of all of the `count` indices from `i` on
abbrev pub AllFrom : (ℕ → Type 0) → ℕ → ℕ → Type 0
AllFrom P count i = (z : ℕ) → z < count → P (i + z)

-- `P` holds of some index among the `count` from `i` on
abbrev pub SomeFrom : (ℕ → Type 0) → ℕ → ℕ → Type 0
SomeFrom P count i = (z : ℕ) × (z < count) × P (i + z)

-- index `i` is less than `width`, and is greater by `by` than an index of which `P` holds
abbrev pub IsShifted : ℕ → (ℕ → Type 0) → ℕ → ℕ → Type 0
IsShifted width P by i = (i < width) × (by ≤ i) × P (i - by)

-- index `i` is less than `width`, and `P` holds of the index that it is mirrored to
abbrev pub IsReversed : ℕ → (ℕ → Type 0) → ℕ → Type 0
IsReversed width P i = (i < width) × P (width - 1 - i)

-- whether index `i` is in `mask`, as a Boolean value
abbrev pub has : ℕ → ℕ → Bool
has mask i = nat_eq (bit_at mask i) 1

-- index `i` is in the set of `P` after `index` was added to it, if `value` is true, or removed from
-- it
abbrev pub IsWithBit : (ℕ → Type 0) → ℕ → Bool → ℕ → Type 0
IsWithBit P index value i = (P i × (i ≢ index)) ⊎ ((i ≡ index) × (value ≡ true))

-- `table` is the fit table of `mask` up to level `top`: each level has the indices from which on
-- `2 ^ level` consecutive ones are in the mask
pub record IsFitTable (mask top : ℕ) (table : List ℕ) : Type 0 where
  pub each : (level : ℕ) → level ≤ top
      → IsMaskOf (AllFrom (Has mask) (2 ^ level)) (slice_index_or table level 0)

-- for some level up to `top`, that level's mask has one of the `2 ^ level` indices from `i` on
abbrev pub SomeLevel : ℕ → List ℕ → ℕ → Type 0
SomeLevel top levels i = (level : ℕ) × (level ≤ top)
    × SomeFrom (Has (slice_index_or levels level 0)) (2 ^ level) i

-- the masks `levels` up to level `top`, each extended downwards to `2 ^ level` indices, have
-- together exactly the indices of which `P` holds
pub record AreLevelsOf (P : ℕ → Type 0) (top : ℕ) (levels : List ℕ) : Type 0 where
  pub to : (i : ℕ) → SomeLevel top levels i → P i
  pub from : (i : ℕ) → P i → SomeLevel top levels i

-- the mask whose first 128 bits are `low`, and whose others are `high`
abbrev pub from_halves : ℕ → ℕ → ℕ
from_halves low high = high * 2 ^ 128 + low

-- the bits of a set of 256 indices as one mask
abbrev pub bits_of : Bits256 → ℕ
bits_of set = from_halves set.low set.high

-- the last argument is the first index of `mask` from `from` on and below `width`, or none if there
-- is no such index
abbrev pub IsFirstFrom : ℕ → ℕ → ℕ → Option ℕ → Type 0
IsFirstFrom width mask from None = (i : ℕ) → from ≤ i → i < width → Has mask i → ⊥
IsFirstFrom width mask from (Some first) =
    (from ≤ first) × (first < width) × Has mask first
    × ((i : ℕ) → from ≤ i → i < first → Has mask i → ⊥)
