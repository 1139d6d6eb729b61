-- A line that is padded with blank cells at its end has the same support on its own cells.
use Rattle.line_core.proofs.Names.{◌↔◌, common_steps, rules, ◌≡◌, ℕ, zero, suc, ◌<◌, Bool, true, false, List, [], ◌∷◌, ◌++◌, length, replicate, get_or, refl, sym, ap, ◌∙◌, arith, length-append, and_from, and_parts, get_or_append_left, Cell, Blank, allows, agrees, runs, runs_after, Has, IsMaskOf, IsBlankable, IsFillable, ArePositive, runs_after-zero, runs_after-true, runs_after-false, runs_after-close, runs_after-nil}
use Rattle.line_core.proofs.DeducedCells.{CanBe}
use Rattle.line_core.proofs.Joining.{length-agrees}
use Rattle.line_core.proofs.FeasibleEnds.{in_support_is, in_support_mask}

runs_after-blanks : (x : List Bool) (n m : ℕ) → runs_after n (x ++ replicate m false) ≡ runs_after n x
runs_after-blanks [] n zero = refl
runs_after-blanks [] n (suc m) =
    grind (arith, runs_after-close, runs_after-false, runs_after-blanks [] zero m, runs_after-zero, runs_after-nil)
runs_after-blanks (b ∷ x) n m = grind (arith, runs_after-true, runs_after-false, runs_after-close, runs_after-blanks x)

-- blank cells after a full line add no run
runs-blanks : (x : List Bool) (m : ℕ) → runs (x ++ replicate m false) ≡ runs x
runs-blanks x m = sym (runs_after-zero (x ++ replicate m false)) ∙ runs_after-blanks x 0 m ∙ runs_after-zero x

agree_blanks : (m : ℕ) (y : List Bool) → agrees (replicate m Blank) y ≡ true → y ≡ replicate m false
agree_blanks (suc m) (false ∷ y) h = ap (λ (t : List Bool). false ∷ t) (agree_blanks m y h)
agree_blanks m y h = search rules

agrees_more : (l : List Cell) (x : List Bool) (m : ℕ) → agrees l x ≡ true → agrees (l ++ replicate m Blank) (x ++ replicate m false) ≡ true
agrees_more [] [] (suc m) h = agrees_more [] [] m h
agrees_more (c ∷ l) (b ∷ x) m h = search (rules, and_from, and_parts, agrees_more l x m)
agrees_more l x m h = search rules

agrees_cut : (l : List Cell) (y : List Bool) (m : ℕ) → agrees (l ++ replicate m Blank) y ≡ true
    → (x : List Bool) × (y ≡ x ++ replicate m false) × (agrees l x ≡ true)
agrees_cut [] y m h = ([], agree_blanks m y h, refl)
agrees_cut (c ∷ l) [] m h = cc
agrees_cut (c ∷ l) (b ∷ y) m h =
    let parts = and_parts (allows c b) (agrees (l ++ replicate m Blank) y) h in
    let (x, same, agree) = agrees_cut l y m parts.1 in (b ∷ x, cc, search (rules, and_from))

filled_within : (x : List Bool) (m k : ℕ) → get_or (x ++ replicate m false) k false ≡ true → k < length x
filled_within x m k e = grind (arith, common_steps)

module _ (l : List Cell) (clue : List ℕ) (m : ℕ) where
  abbrev longer : List Cell
  longer = l ++ replicate m Blank

  -- a cell of the line has the same colours in placings of the padded line and of the line alone
  alone : (c : Bool) (k : ℕ) → k < length l → CanBe longer clue c k ↔ CanBe l clue c k
  alone c k within = (
    λ (y, agree, is, at). search (rules, agrees_cut, length-agrees, runs-blanks, get_or_append_left),
    λ (x, agree, is, at).
        let long = length-agrees l x agree in search (rules, agrees_more l x m, runs-blanks x m, get_or_append_left),
  )

  -- the padding is blank in each placing, so the same cells are fillable
  pub fillable_alone : (f : ℕ) → ArePositive clue → IsMaskOf (IsFillable longer clue) f → IsMaskOf (IsFillable l clue) f
  fillable_alone f pos are = in_support_mask l clue true _ f pos are (λ i. (
    λ h. let (y, agree, is, at) = ((in_support_is longer clue true i pos).0 h).1 in
        let within : i < length l = search (rules, agrees_cut, filled_within, length-agrees) in
        (within, (alone true i within).0 (y, agree, is, at)),
    λ h. search (rules, in_support_is longer clue true i pos, alone true i, length-append),
  ))

  -- the blankable cells of the padded line that are on the line are the blankable cells of the line
  pub blankable_alone : (b p n : ℕ) → ArePositive clue → IsMaskOf (IsBlankable longer clue) b → IsMaskOf (λ i. i < length l) p
      → IsMaskOf (λ i. Has b i × Has p i) n → IsMaskOf (IsBlankable l clue) n
  blankable_alone b p n pos are first both = in_support_mask l clue false _ n pos both (λ i. (
    λ h. let within = first.to i h.1 in (within, (alone false i within).0 ((in_support_is longer clue false i pos).0 (are.to i h.0)).1),
    λ h. search (rules, in_support_is longer clue false i pos, alone false i, length-append, are.from, first.from),
  ))
