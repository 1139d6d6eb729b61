-- How many cells the runs of a line have, and how many they need.
use Rattle.std.proofs.Common.{◌≡◌, ℕ, zero, suc, ◌+◌, ◌<◌, ◌≤◌, Bool, true, false, cond, List, [], ◌∷◌, length, refl, arith}
use Rattle.std.specs.List.{count_by, filter, sum}
use Rattle.std.proofs.lemmas.List.Sums.{sum_by-cons}
use Rattle.grid_core.specs.Runs.{first_longer, is_positive, runs, stretches}
use Rattle.diagnosis.specs.Misfits.{cells_needed}

-- how many cells are filled
abbrev pub filled_count : List Bool → ℕ
filled_count cells = count_by (λ b. b) cells

pub sum-cons : (n : ℕ) (ns : List ℕ) → sum (n ∷ ns) ≡ n + sum ns
sum-cons n ns = sum_by-cons (λ (k : ℕ). k) n ns

pub filled_count-cons : (b : Bool) (cells : List Bool) → filled_count (b ∷ cells) ≡ cond b 1 0 + filled_count cells
filled_count-cons b cells = sum_by-cons (λ (c : Bool). cond c 1 0) b cells

longer : (ns : List ℕ) → 0 < length ns → (sum (first_longer ns) ≡ sum ns + 1) × (length (first_longer ns) ≡ length ns)
longer [] h = absurd (omega arith)
longer (n ∷ ns) h = (omega (arith, sum-cons n ns, sum-cons (suc n) ns), refl)

some_stretch : (cells : List Bool) → 0 < length (stretches cells)
some_stretch [] = omega arith
some_stretch (true ∷ cells) = omega (arith, (longer (stretches cells) (some_stretch cells)).1, some_stretch cells)
some_stretch (false ∷ cells) = omega arith

-- the stretches and the blank cells between them are all cells
stretches-size : (cells : List Bool) → sum (stretches cells) + length (stretches cells) ≡ length cells + 1
stretches-size [] = refl
stretches-size (true ∷ cells) =
    let more = longer (stretches cells) (some_stretch cells) in
    omega (arith, more.0, more.1, stretches-size cells)
stretches-size (false ∷ cells) = omega (arith, sum-cons 0 (stretches cells), stretches-size cells)

sum-stretches : (cells : List Bool) → sum (stretches cells) ≡ filled_count cells
sum-stretches [] = refl
sum-stretches (true ∷ cells) = omega (arith, (longer (stretches cells) (some_stretch cells)).0, sum-stretches cells, filled_count-cons true cells)
sum-stretches (false ∷ cells) = omega (arith, sum-cons 0 (stretches cells), sum-stretches cells, filled_count-cons false cells)

positive : (ns : List ℕ) → (sum (filter is_positive ns) ≡ sum ns) × (length (filter is_positive ns) ≤ length ns)
positive [] = (refl, omega arith)
positive (zero ∷ ns) = let rest = positive ns in (omega (arith, rest.0, sum-cons 0 ns), omega (arith, rest.1))
positive (suc n ∷ ns) =
    let rest = positive ns in
    (omega (arith, rest.0, sum-cons (suc n) ns, sum-cons (suc n) (filter is_positive ns)), omega (arith, rest.1))

-- the runs have all filled cells
pub sum-runs : (cells : List Bool) → sum (runs cells) ≡ filled_count cells
sum-runs cells = omega (arith, (positive (stretches cells)).0, sum-stretches cells)

-- a line has the cells that its runs need
pub needed-runs : (cells : List Bool) → cells_needed (runs cells) ≤ length cells
needed-runs cells =
    let p = positive (stretches cells) in
    omega (arith, p.0, p.1, stretches-size cells, some_stretch cells)
