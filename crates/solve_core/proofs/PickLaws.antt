-- The rules for the next guess are lawful, and what the rule of most known neighbours picks.
use Rattle.solve_core.proofs.Names.{◌≡◌, ℕ, zero, suc, ◌+◌, ◌<◌, Bool, true, List, length, get_or, Option, Some, None, ap, arith, true≢false, cases_eq, cases_lt, le-ltb, lt-ltb, Cell, Unknown, is_unknown, first_most, most_known, picked, known_neighbours, rules, IfSome, refl, IsUnknownCell, false_from_ne_true, IsPick}
use Rattle.solve_core.specs.declared.picks.Pick.{Pick}
use Rattle.solve_core.specs.declared.picks.Pick.TheVariants.{First, Most}
use Rattle.solve_core.specs.MostKnown.{IsMostKnown}
use Rattle.solve_core.proofs.SearchLaws.{first_unknown-IsPick, unknown_is}

-- the least score by which an index after the best one would be better
abbrev pub least_after : (ℕ → ℕ) → Option ℕ → ℕ
least_after score None = 0
least_after score (Some k) = score k + 1

-- of the indices below `n` of which `P` holds, `best` is the first one with the highest score; `None` if there is none
abbrev pub IsFirstMost : (ℕ → ℕ) → (ℕ → Type 0) → ℕ → Option ℕ → Type 0
IsFirstMost score P n best =
    ((j : ℕ) → j < n → P j → score j < least_after score best)
    × IfSome best (λ k. (k < n) × P k × ((j : ℕ) → j < k → P j → score j < score k))

-- `first_most` yields that index
first_most-is : (score : ℕ → ℕ) (passes : ℕ → Bool) (n : ℕ) → IsFirstMost score (λ j. passes j ≡ true) n (first_most score passes n)
first_most-is score passes zero = search rules
first_most-is score passes (suc n) = search (rules, cases_eq, true≢false, cases_lt, lt-ltb, le-ltb, (first_most-is score passes n))

-- there is only one such index
pub IsFirstMost-same : (score : ℕ → ℕ) (P : ℕ → Type 0) (n : ℕ) (a b : Option ℕ) → IsFirstMost score P n a →
    IsFirstMost score P n b → a ≡ b
IsFirstMost-same score P n None None h k = refl
IsFirstMost-same score P n None (Some j) h k = absurd (omega (arith, h.0 j k.1.0 k.1.1))
IsFirstMost-same score P n (Some i) None h k = absurd (omega (arith, k.0 i h.1.0 h.1.1))
IsFirstMost-same score P n (Some i) (Some j) h k = grind (arith, cases_lt, cases_eq)

-- the cells that pass the test of the rule are the unknown cells
unknown-first : (width : ℕ) (grid : List Cell) (best : Option ℕ) →
    IsFirstMost (known_neighbours width grid) (λ j. is_unknown (get_or grid j Unknown) ≡ true) (length grid) best →
    IsFirstMost (known_neighbours width grid) (IsUnknownCell grid) (length grid) best
unknown-first width grid None h = search (rules, h)
unknown-first width grid (Some k) h = search (rules, h, unknown_is)

-- the rule of most known neighbours picks the first unknown cell that has the most
pub most_known-first : (width : ℕ) (grid : List Cell) →
    IsFirstMost (known_neighbours width grid) (IsUnknownCell grid) (length grid) (most_known width grid)
most_known-first width grid = unknown-first width grid (most_known width grid)
    (first_most-is (known_neighbours width grid) (λ j. is_unknown (get_or grid j Unknown)) (length grid))

-- the cell that the rule of most known neighbours picks has the properties that `IsMostKnown` states
pub most_known-is : (width : ℕ) (grid : List Cell) (k : ℕ) → most_known width grid ≡ Some k → IsMostKnown width grid k
most_known-is width grid k e = let first = rw e at (most_known-first width grid) in grind arith

-- the rule of most known neighbours is lawful: it picks an unknown cell if there is one
pub most_known-IsPick : (width : ℕ) → IsPick (most_known width)
most_known-IsPick width = record {
  within = λ grid k e. let unknown = (most_known-is width grid k e).unknown in (unknown.0, ap is_unknown unknown.1);
  only_full = λ grid e k l. (let first = rw e at (most_known-first width grid) in
      false_from_ne_true _ (λ u. omega (arith, first.0 k l (l, unknown_is _ u))));
}

-- each rule is lawful
pub picked-IsPick : (pick : Pick) (width : ℕ) → IsPick (picked pick width)
picked-IsPick First width = first_unknown-IsPick
picked-IsPick Most width = most_known-IsPick width
