-- How a trail grows, and what undoing its entries yields.
use Rattle.solve_core.proofs.Names.{◌≡◌, drop, ℕ, zero, suc, ◌+◌, ◌<◌, true, List, [], ◌∷◌, ◌++◌, length, get_or, set, refl, sym, ap, ◌∙◌, arith, length-append, append_assoc, true≢false, AllByRecursion, Cell, Unknown, Filled, Blank, is_known, cells_at, CellEntry, TrailedGrid, with_unknown_at, undo_entry, unknown_count, undone, IsTrailed}
use Rattle.solve_core.proofs.ClosureLaws.{length-with_cells}

-- undoing two lists of entries undoes those of the second list first
pub undone-append : (cells : List Cell) (entries more : List CellEntry)
    → undone cells (entries ++ more) ≡ undone (undone cells more) entries
undone-append cells [] more = refl
undone-append cells (s ∷ entries) more = ap (λ (cs : List Cell). undo_entry cs s) (undone-append cells entries more)

-- undoing an entry doesn't change the number of cells
pub length-undo_entry : (cells : List Cell) (s : CellEntry) → length (undo_entry cells s) ≡ length cells
length-undo_entry cells s = length-with_cells cells s.indices (with_unknown_at s.changes (cells_at Unknown cells s.indices))

-- undoing several entries doesn't change the number of cells
pub length-undone : (cells : List Cell) (entries : List CellEntry) → length (undone cells entries) ≡ length cells
length-undone cells [] = refl
length-undone cells (s ∷ entries) = length-undo_entry (undone cells entries) s ∙ length-undone cells entries

-- a property of all items of a list holds of the item at each index
pub all_at : {X : Type 0} (P : X → Type 0) (xs : List X) (k : ℕ) (d : X) → AllByRecursion P xs → k < length xs → P (get_or xs k d)
all_at P [] k d h l = absurd (omega arith)
all_at P (x ∷ xs) zero d h l = h.0
all_at P (x ∷ xs) (suc k) d h l = all_at P xs k d h.1 (omega arith)

-- a property of all items of a list holds of those after the first `n`
pub all_drop : {X : Type 0} (P : X → Type 0) (n : ℕ) (xs : List X) → AllByRecursion P xs → AllByRecursion P (drop n xs)
all_drop P zero xs h = h
all_drop P (suc n) [] h = tt
all_drop P (suc n) (x ∷ xs) h = all_drop P n xs h.1

-- a property of all items of two lists holds of all items of the joined list
pub all_append : {X : Type 0} (P : X → Type 0) (xs ys : List X) → AllByRecursion P xs → AllByRecursion P ys → AllByRecursion P (xs ++ ys)
all_append P [] ys h k = k
all_append P (x ∷ xs) ys h k = (h.0, all_append P xs ys h.1 k)

-- if the trail of `b` extends that of `a`, and the trail of `c` that of `b`, then the trail of `c` extends that of `a`
pub trailed_trans : (a b c : TrailedGrid) → IsTrailed a b → IsTrailed b c → IsTrailed a c
trailed_trans a b c x y = record {
  added = x.added ++ y.added;
  width = y.width ∙ x.width;
  height = y.height ∙ x.height;
  kept = y.kept ∙ ap (λ (entries : List CellEntry). entries ++ y.added) x.kept ∙ append_assoc a.trail x.added y.added;
  undo = undone-append c.cells x.added y.added ∙ ap (λ (r : List Cell). undone r x.added) y.undo ∙ x.undo;
  count = omega (arith, length-append x.added y.added, x.count, y.count);
}

longer : (entries : List CellEntry) (old new : TrailedGrid) → new.trail ≡ old.trail ++ entries → undone new.cells entries ≡ old.cells →
    unknown_count new.cells < unknown_count old.cells → length old.trail < length new.trail
longer [] old new kept undo fewer = absurd (omega (arith, ap unknown_count undo))
longer (s ∷ entries) old new kept undo fewer = omega (arith, ap length kept, length-append old.trail (s ∷ entries))

-- if fewer cells are unknown, the trail is longer
pub trailed-longer : (old new : TrailedGrid) → IsTrailed old new → unknown_count new.cells < unknown_count old.cells →
    length old.trail < length new.trail
trailed-longer old new t fewer = longer t.added old new t.kept t.undo fewer

-- assigning an unknown cell leaves one unknown cell fewer
pub count-settled : (g : List Cell) (k : ℕ) (c : Cell) → k < length g → get_or g k Unknown ≡ Unknown → is_known c ≡ true →
    1 + unknown_count (set g k c) ≡ unknown_count g
count-settled [] k c h e n = absurd (omega arith)
count-settled (x ∷ g) zero Unknown h e n = absurd (true≢false (sym n))
count-settled (x ∷ g) zero Filled h e n = rw e (omega arith)
count-settled (x ∷ g) zero Blank h e n = rw e (omega arith)
count-settled (Unknown ∷ g) (suc k) c h e n = let rest = count-settled g k c (omega arith) e n in omega (arith, rest)
count-settled (Filled ∷ g) (suc k) c h e n = count-settled g k c (omega arith) e n
count-settled (Blank ∷ g) (suc k) c h e n = count-settled g k c (omega arith) e n
