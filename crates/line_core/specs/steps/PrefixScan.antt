-- The domain of a line as bits, and the state of a prefix scan.
use Rattle.std.specs.Prelude.{◌≡◌, ℕ, ◌-◌, ◌≤◌, true, false, List, ◌++◌, length, replicate}
use Rattle.grid_core.specs.declared.cells.Cell.TheVariants.{Blank}
use Rattle.grid_core.specs.declared.cells.Cell.{Cell}
use Rattle.bit_sets.specs.Masks.{IsMaskOf, IsFitTable}
use Rattle.line_core.specs.steps.Feasibility.{MayBe, IsGapAfter, IsNextStart}

-- `len`, `not_filled` and `not_blank` are the domain of `line`, in sets of `width` indices: its
-- length, its cells that are not known to be filled, and its cells that are not known to be blank
pub record IsDomainOf (width : ℕ) (line : List Cell) (len not_filled not_blank : ℕ) : Type 0 where
  pub some : 1 ≤ length line
  pub short : length line ≤ width
  pub len_is : len ≡ length line
  pub not_filled_is : IsMaskOf (MayBe line false) not_filled
  pub not_blank_is : IsMaskOf (MayBe line true) not_blank

-- the state of a prefix scan of `line` after `runs`, of which the last one comes first: the cells
-- that can be blank, the fit table of those that can be filled, the next starts, and the prefix gap
-- after the runs
pub record IsScanOver
    (width top : ℕ) (line : List Cell) (runs : List ℕ)
    (not_filled : ℕ) (fits : List ℕ) (starts gap : ℕ) : Type 0 where
  pub not_blank : ℕ
  pub short : length line ≤ width
  pub not_filled_is : IsMaskOf (MayBe line false) not_filled
  pub not_blank_is : IsMaskOf (MayBe line true) not_blank
  pub fits_are : IsFitTable not_blank top fits
  pub starts_are : IsMaskOf (IsNextStart width line runs) starts
  pub gap_is : IsMaskOf (IsGapAfter line runs) gap

-- the line with blank cells appended up to `width` cells
abbrev pub padded : ℕ → List Cell → List Cell
padded width line = line ++ replicate (width - length line) Blank
