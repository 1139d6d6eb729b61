-- Numbers of known and of unknown cells.
use Rattle.solve_core.proofs.Names.{take, ◌≤◌, ◌≡◌, ℕ, zero, suc, ◌+◌, ◌<◌, true, false, List, [], ◌∷◌, length, get_or, cond, refl, sym, ap, ◌∙◌, arith, true≢false, list_all, count_by_more_yes, sum_by-cons, Cell, Unknown, is_known, is_unknown, GridLine, unknown_count, HasNoRefutedColour, count_by, AllPass-from_list_all, rules}

-- the known and the unknown cells together are all cells
pub known-and-unknown : (cells : List Cell) → count_by is_known cells + unknown_count cells ≡ length cells
known-and-unknown [] = refl
known-and-unknown (Unknown ∷ cells) = search (rules, sum_by-cons, (known-and-unknown cells))
known-and-unknown (c ∷ cells) = omega (arith, sum_by-cons (λ (c : Cell). cond (is_known c) 1 0) c cells, known-and-unknown cells)

known-if : (c : Cell) → is_unknown c ≡ false → is_known c ≡ true
known-if c h = search (rules, true≢false)

-- the `n` cells from `from` up to `to`, all known, add `n` to the number of known cells
pub count-run : (cells : List Cell) (n from to : ℕ) → from + n ≡ to → to ≤ length cells →
    ((k : ℕ) → from ≤ k → k < to → is_unknown (get_or cells k Unknown) ≡ false) →
    count_by is_known (take to cells) ≡ count_by is_known (take from cells) + n
count-run cells zero from to e l h = search (rules, count_by)
count-run cells (suc n) from to e l h =
    let last : to ≡ (from + n) + 1 = omega (arith, e) in
    let before = count-run cells n from (from + n) refl (omega (arith, l, last)) (λ k a b. h k a (omega (arith, b, last))) in
    let more = count_by_more_yes is_known cells (from + n) Unknown (omega (arith, l, last))
    (known-if (get_or cells (from + n) Unknown) (h (from + n) (omega arith) (omega (arith, last)))) in
    ap (λ (m : ℕ). count_by is_known (take m cells)) last ∙ omega (arith, more, before)

pub none-unknown : (cells : List Cell) → list_all is_known cells ≡ true → unknown_count cells ≡ 0
none-unknown [] h = refl
none-unknown (Unknown ∷ cells) h = absurd (true≢false (sym h))
none-unknown (_ ∷ cells) h = none-unknown cells h

pub all-of-none : (cells : List Cell) → unknown_count cells ≡ 0 → list_all is_known cells ≡ true
all-of-none [] h = refl
all-of-none (Unknown ∷ cells) h = absurd (omega (arith, h))
all-of-none (_ ∷ cells) h = all-of-none cells h

-- in a full grid no unknown cell has a refuted colour
pub full-tried : (lines : List GridLine) (cells : List Cell) → list_all is_known cells ≡ true → (k : ℕ) → k < length cells →
    HasNoRefutedColour lines cells k
full-tried lines cells h k l e = absurd (true≢false (sym (AllPass-from_list_all is_known cells h k Unknown l) ∙ ap is_known e))
