-- The colours that cells of a line can have, and the lengths of runs.
use Rattle.std.proofs.Common.{◌↔◌, ◌≡◌, ℕ, ◌+◌, ◌<◌, ◌≤◌, true, false, List, length, reverse, get_or, set, sym, subst, arith, rules, inl, inr}
use Rattle.grid_core.specs.declared.cells.Cell.{Cell}
use Rattle.grid_core.specs.declared.cells.Cell.TheVariants.{Unknown}
use Rattle.grid_core.specs.Cells.{allows, is_filled}
use Rattle.grid_core.specs.Clues.{is_clue}
use Rattle.bit_sets.specs.Masks.{Has, has, IsMaskOf}
use Rattle.bit_sets.proofs.HasLemmas.{true_has}
use Rattle.bit_sets.proofs.WordSteps.{none_is as is_none, some_index}
use Rattle.std.proofs.lemmas.Bool.{and_from, false_from_ne_true, cases_lt}
use Rattle.std.proofs.lemmas.List.{get_or-reverse, length-reverse}
use Rattle.std.proofs.lemmas.Nat.Bits.{bit_at-zero}
use Rattle.std.proofs.lemmas.List.Elements.{recursion_from_All}
use Rattle.std.proofs.lemmas.List.Sums.{AllPass-from_list_all, list_all-from_AllPass}
use Rattle.std.specs.List.{All}
use Rattle.line_core.proofs.RunLaws.{ArePositive}
use Rattle.line_core.specs.steps.Feasibility.{MayBe, AreLengths}

not_filled_cell : (c : Cell) → (is_filled c ≡ false) ↔ (allows c false ≡ true)
not_filled_cell c = search rules

-- the cells that can be blank are those that are not in the set of filled cells
pub not_filled_is : (line : List Cell) (filled m : ℕ) → ((i : ℕ) → i < length line → has filled i ≡ is_filled (get_or line i Unknown))
    → IsMaskOf (λ i. (i < length line) × (has filled i ≡ false)) m → IsMaskOf (MayBe line false) m
not_filled_is line filled m same lacking = search (rules, not_filled_cell)

-- the empty mask is the mask of a property that no index has
pub none_is : (P : ℕ → Type 0) (m : ℕ) → m ≡ 0 → ((i : ℕ) → P i → ⊥) → IsMaskOf P m
none_is P m e none = subst (IsMaskOf P) (sym e) (is_none P none)

-- the mask of a property that no index has is empty
pub none_in : (P : ℕ → Type 0) (m : ℕ) → IsMaskOf P m → ((i : ℕ) → P i → ⊥) → m ≡ 0
none_in P m p none =
    elim (cases_lt 0 m) [ inl some ↦ (let x = some_index m some in absurd (none x.0 (p.to x.0 x.1))) | inr e ↦ omega arith ]

pub none_has : (m i : ℕ) → m ≡ 0 → Has m i → ⊥
none_has m i e h = let z : Has 0 i = subst (λ (k : ℕ). Has k i) e h in omega (arith, bit_at-zero i)

pub lacks : (m i : ℕ) → (Has m i → ⊥) → has m i ≡ false
lacks m i none = false_from_ne_true (has m i) (λ e. none (true_has m i e))

-- once element `j` is written too, `P` holds of all elements up to it
pub written_more : (P : ℕ → ℕ → Type 0) (xs : List ℕ) (j v : ℕ) → j < length xs → P j v → ((k : ℕ) → k < j → P k (get_or xs k 0)) → (k : ℕ)
    → k < j + 1 → P k (get_or (set xs j v) k 0)
written_more P xs j v l here below k h = search rules

-- the numbers of a clue are lengths of runs
pub lengths_of : (limit : ℕ) (clue : List ℕ) → is_clue limit clue ≡ true → AreLengths limit clue
lengths_of limit clue is =
    record { few = search rules; positive = search (rules, AllPass-from_list_all); short = search (rules, AllPass-from_list_all) }

-- lengths of runs are a clue
pub clue_of : (limit : ℕ) (clue : List ℕ) → AreLengths limit clue → is_clue limit clue ≡ true
clue_of limit clue are = search (rules, and_from, list_all-from_AllPass, are.positive, are.short)

-- each number of a clue is positive
pub clue_positive : (limit : ℕ) (clue : List ℕ) → is_clue limit clue ≡ true → ArePositive clue
clue_positive limit clue is = recursion_from_All _ clue (lengths_of limit clue is).positive

-- a clue is one for each limit that its numbers don't exceed
pub clue_within : (limit width : ℕ) (clue : List ℕ) → is_clue limit clue ≡ true → All (λ n. n ≤ width) clue → is_clue width clue ≡ true
clue_within limit width clue is within =
    let are = lengths_of limit clue is in clue_of width clue (record { few = are.few; positive = are.positive; short = within })

-- each number of a clue is positive and at most `width`
pub length_at : (width : ℕ) (clue : List ℕ) (j : ℕ) → AreLengths width clue → j < length clue
    → (0 < get_or clue j 0) × (get_or clue j 0 ≤ width)
length_at width clue j are l = (search rules, search rules)

-- the numbers of a reversed clue are in the same range
pub lengths_mirrored : (width : ℕ) (clue : List ℕ) → AreLengths width clue → AreLengths width (reverse clue)
lengths_mirrored width clue are = record {
  few = omega (arith, are.few, length-reverse clue);
  positive = λ k d h. search (rules, get_or-reverse, length-reverse, are.positive);
  short = λ k d h. search (rules, get_or-reverse, length-reverse, are.short);
}
