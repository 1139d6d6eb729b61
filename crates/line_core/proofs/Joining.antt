-- A line cut at a cell: placings of both parts make a placing of the whole, and a placing of the whole falls into two.
use Rattle.line_core.proofs.Names.{common_steps, rules, ◌≡◌, ◌↔◌, ℕ, zero, suc, ◌+◌, ◌-◌, ◌<◌, ◌≤◌, Bool, true, false, List, [], ◌∷◌, ◌++◌, length, replicate, refl, sym, ap, ◌∙◌, arith, add-zero, ◌⊎◌, inl, inr, drop, get_or, drop-cons, add-one, drop_of_length-le, length-drop, reverse, runs_after, get_or-reverse, length-reverse, cases_lt, and_from, and_parts, Cell, Unknown, allows, agrees, runs, AllFrom, reversed_prefix, HasPlacing, MayBeginBlank, MayBe, IsGapAfter, IsPrefixGap, IsSuffixGap, IsBlankable, ArePositive, runs_after-zero, runs_after-true, runs_after-close, runs_after-nil}
use Rattle.line_core.proofs.DeducedCells.{CanBe}

-- a full line that agrees with a line is as long as it
pub length-agrees : (l : List Cell) (x : List Bool) → agrees l x ≡ true → length x ≡ length l
length-agrees (c ∷ l) (b ∷ x) h = ap suc (length-agrees l x (and_parts (allows c b) (agrees l x) h).1)
length-agrees l x h = search rules

-- a filled cell is on the line
pub filled_within : (x : List Bool) (i : ℕ) → get_or x i false ≡ true → i < length x
filled_within x i h = grind (arith, common_steps)

pub filled_agrees : (l : List Cell) (x : List Bool) (i : ℕ) → agrees l x ≡ true → get_or x i false ≡ true → i < length l
filled_agrees l x i agree filled = omega (arith, filled_within x i filled, length-agrees l x agree)

-- the first list, reversed, in front of the second
abbrev pub onto : {A : Type 0} → List A → List A → List A
onto [] after = after
onto (x ∷ before) after = onto before (x ∷ after)

-- the reversed prefix up to index `i` has `i` elements
pub length_reversed_prefix : {A : Type 0} (d : A) (xs : List A) (i : ℕ) → length (reversed_prefix d xs i) ≡ i
length_reversed_prefix d xs zero = refl
length_reversed_prefix d xs (suc i) = ap suc (length_reversed_prefix d xs i)

-- a reversed prefix, reversed in front of the rest of the list, is the list
pub onto_reversed_prefix : {A : Type 0} (d : A) (xs : List A) (i : ℕ) → i ≤ length xs → onto (reversed_prefix d xs i) (drop i xs) ≡ xs
onto_reversed_prefix d xs zero h = refl
onto_reversed_prefix d xs (suc i) h =
    ap (onto (reversed_prefix d xs i)) (sym (drop-cons xs i d h)) ∙ onto_reversed_prefix d xs i (omega arith)

-- after the elements of the first list come those of the second
pub get_or-onto : {A : Type 0} (d : A) (a b : List A) (z : ℕ) → get_or (onto a b) (length a + z) d ≡ get_or b z d
get_or-onto d [] b z = let e : 0 + z ≡ z = omega arith in ap (λ (k : ℕ). get_or b k d) e
get_or-onto d (x ∷ a) b z = grind (arith, common_steps)

-- if both parts agree, so does the whole
pub agrees_onto : (s t : List Cell) (a b : List Bool) → agrees s a ≡ true → agrees t b ≡ true → agrees (onto s t) (onto a b) ≡ true
agrees_onto (c ∷ s) t (x ∷ a) b h k = search (rules, and_parts, and_from, agrees_onto s (c ∷ t) a (x ∷ b))
agrees_onto s t a b h k = search rules

-- if the whole agrees, so do both parts
pub onto_agrees : (s t : List Cell) (a b : List Bool) → length s ≡ length a → agrees (onto s t) (onto a b) ≡ true
    → (agrees s a ≡ true) × (agrees t b ≡ true)
onto_agrees [] t [] b e h = (refl, h)
onto_agrees (c ∷ s) t (x ∷ a) b e h = let r = onto_agrees s (c ∷ t) a (x ∷ b) (omega arith) h in search (rules, and_from, and_parts)
onto_agrees s t a b e h = search rules

-- the first of the elements from index `i` on, and what follows it
pub drop_head : (xs : List ℕ) (i r : ℕ) (q : List ℕ) → r ∷ q ≡ drop i xs → (get_or xs i 0 ≡ r) × (q ≡ drop (suc i) xs) × (i < length xs)
drop_head [] zero r q e = cc
drop_head [] (suc i) r q e = cc
drop_head (x ∷ xs) zero r q e = (cc, cc, omega arith)
drop_head (x ∷ xs) (suc i) r q e = let t = drop_head xs i r q e in (t.0, t.1, omega (arith, t.2))

-- a clue of two parts: `p` is its reversed prefix, and `q` the numbers after it
pub onto_split : (p q clue : List ℕ) → onto p q ≡ clue
    → (p ≡ reversed_prefix 0 clue (length p)) × (q ≡ drop (length p) clue) × (length p ≤ length clue)
onto_split [] q clue e = (refl, e, omega arith)
onto_split (r ∷ p) q clue e = search (rules, drop_head, onto_split p (r ∷ q) clue e)

-- ---- the runs of a line that is cut at a blank cell

-- a run that does not continue after its cells
runs_closed : (n c : ℕ) (b : List Bool) → 0 < n + c → get_or b 0 false ≡ false → runs_after n (replicate c true ++ b) ≡ (n + c) ∷ runs b
runs_closed n (suc c) b p k = grind (arith, runs_after-true, runs_closed (suc n) c b)
runs_closed (suc n) zero [] p k = grind (arith, runs_after-nil n)
runs_closed (suc n) zero (false ∷ b) p k = grind (arith, runs_after-close n b, runs_after-zero b)
runs_closed n c b p k = search rules

-- the runs of cells that begin with a run
pub runs_first : (c : ℕ) (b : List Bool) → 0 < c → get_or b 0 false ≡ false → runs (replicate c true ++ b) ≡ c ∷ runs b
runs_first c b p k = grind (arith, runs_after-zero, runs_closed 0 c b)

runs_onto : (a : List Bool) (n : ℕ) (b : List Bool) → runs (onto a (replicate n true ++ (false ∷ b))) ≡ onto (runs_after n a) (runs b)
runs_onto [] n b = search (rules, runs_after-nil, runs_after-zero, runs_first)
runs_onto (true ∷ a) n b = rw (runs_after-true n a) (runs_onto a (suc n) b)
runs_onto (false ∷ a) n b = search (rules, runs_after-zero, runs_after-close, runs_first, runs_onto a 0)

-- the runs of a line that is cut at a blank cell are those of both parts
pub runs_cut : (a b : List Bool) → runs (onto a (false ∷ b)) ≡ onto (runs a) (runs b)
runs_cut a b = runs_onto a 0 b ∙ ap (λ (p : List ℕ). onto p (runs b)) (runs_after-zero a)

-- the runs of a line that is cut around one of its runs
pub runs_about : (a : List Bool) (c : ℕ) (b : List Bool) → 0 < c → get_or a 0 false ≡ false → get_or b 0 false ≡ false
    → runs (onto a (replicate c true ++ b)) ≡ onto (runs a) (c ∷ runs b)
runs_about [] c b p h k = runs_first c b p k
runs_about (x ∷ a) c b p h k = search (rules, runs_cut, runs_first)

-- each number of a clue without zeros is positive
pub positive_at : (clue : List ℕ) → ArePositive clue → (j : ℕ) → j < length clue → 0 < get_or clue j 0
positive_at [] p j h = absurd (omega arith)
positive_at (c ∷ clue) p j h = search (rules, positive_at clue p.1)

-- ---- a run on the line

-- if `y` agrees with the line from `q` on, and the `n` cells before can have the colour `v`, then `n` cells of that
-- colour, followed by `y`, agree with the line from `p` on
pub agrees_span : (l : List Cell) (v : Bool) (n p q : ℕ) (y : List Bool) → p + n ≡ q → AllFrom (MayBe l v) n p
    → agrees (drop q l) y ≡ true → agrees (drop p l) (replicate n v ++ y) ≡ true
agrees_span l v zero p q y e o h = let same : p ≡ q = omega arith in rw same h
agrees_span l v (suc n) p q y e o h =
    let first = rw add-zero at (o 0 (omega arith)) in
    let rest = agrees_span l v n (suc p) q y (omega arith) (λ z b. grind (arith, o (suc z))) h in
    rw (drop-cons l p Unknown first.0) (search (rules, and_from))

-- cells that agree with the line from `s` on: the first can have its colour, and the others agree from `s + 1` on
drop_past : (l : List Cell) (s : ℕ) (b : Bool) (y : List Bool) → agrees (drop s l) (b ∷ y) ≡ true
    → (MayBe l b s) × (agrees (drop (suc s) l) y ≡ true)
drop_past [] zero b y h = cc
drop_past [] (suc s) b y h = cc
drop_past (c ∷ l) zero b y h = search (rules, and_parts)
drop_past (c ∷ l) (suc s) b y h = let r = drop_past l s b y h in ((omega (arith, r.0.0), r.0.1), r.1)

-- if a run agrees with the line from `s` on, each of its cells can be filled
pub run_agrees : (l : List Cell) (n s : ℕ) (y : List Bool) → agrees (drop s l) (replicate n true ++ y) ≡ true
    → AllFrom (MayBe l true) n s × (agrees (drop (s + n) l) y ≡ true)
run_agrees l zero s y h = search rules
run_agrees l (suc n) s y h =
    let first = drop_past l s true (replicate n true ++ y) h in
    let rest = run_agrees l n (suc s) y first.1 in (λ z b. grind (arith, first.0, rest.0 (z - 1)), search rules)

-- `y` begins with a run of `count` cells, or none, that does not continue in `rest`
pub record Begins (y : List Bool) : Type 0 where
  pub count : ℕ
  pub rest : List Bool
  pub whole : y ≡ replicate count true ++ rest
  pub closed : get_or rest 0 false ≡ false

-- each full line begins with a run or none
pub begins : (y : List Bool) → Begins y
begins (true ∷ y) = let b = begins y in record { count = suc b.count; rest = b.rest; whole = cc; closed = b.closed }
begins y = record { count = 0; rest = y; whole = refl; closed = search rules }

-- a full line whose first cell is filled begins with a run
pub begins_some : (y : List Bool) (b : Begins y) → get_or y 0 false ≡ true → 0 < b.count
begins_some y b h = search rules

-- ---- the cells that are blank in some placing

-- a cell that is blankable by the feasible gaps is blank in a placing
pub blankable_to : (l : List Cell) (clue : List ℕ) (i : ℕ) → IsBlankable l clue i → CanBe l clue false i
blankable_to l clue i (j, jl, gap, suffix) =
    let a = gap.1 in
    let b = suffix.1 in
    let at : length a.0 + 0 ≡ i = omega (arith, length-agrees (reversed_prefix Unknown l i) a.0 a.1, length_reversed_prefix Unknown l i) in
    let here : agrees (drop i l) (false ∷ b.0) ≡ true = search (rules, drop-cons, and_from, add-one) in
    let whole = agrees_onto (reversed_prefix Unknown l i) (drop i l) a.0 (false ∷ b.0) a.1 here in (
      onto a.0 (false ∷ b.0),
      search (rules, onto_reversed_prefix),
      search (rules, runs_cut, onto_reversed_prefix),
      search (rules, get_or-onto),
    )

-- a cell that is blank in a placing is blankable by the feasible gaps
pub blankable_from : (l : List Cell) (clue : List ℕ) (i : ℕ) → i < length l → CanBe l clue false i → IsBlankable l clue i
blankable_from l clue i h (x, agree, is, at) =
    let a = reversed_prefix false x i in
    let b = drop (suc i) x in
    let whole : onto a (false ∷ b) ≡ x = grind (arith, common_steps, onto_reversed_prefix, drop-cons, length-agrees l x agree) in
    let parts = onto_split (runs a) (runs b) clue (sym (runs_cut a b) ∙ ap runs whole ∙ is) in
    let cut = onto_agrees (reversed_prefix Unknown l i) (drop i l) a (false ∷ b) in
    grind (arith, common_steps, drop_past, add-one, cut, length_reversed_prefix, onto_reversed_prefix)

-- ---- before an index comes the start of the line or a gap

-- cells of length 0 have only the placing without runs
closed_none : (cs : List ℕ) → MayBeginBlank [] cs ↔ (length cs ≡ 0)
closed_none [] = search rules
closed_none (c ∷ cs) = search rules

-- a placing whose first cell is blank is one of the other cells
pub closed_first : (c : Cell) (cells : List Cell) (cs : List ℕ)
    → MayBeginBlank (c ∷ cells) cs ↔ ((allows c false ≡ true) × HasPlacing cells cs)
closed_first c cells cs =
    (λ x. search rules, λ (a, (y, agree, is)). (false ∷ y, and_from (allows c false) (agrees cells y) a agree, is, refl))

-- no run ends right before index `s`: so it is the start of the line, or follows a gap
pub closed_prefix_to : (l : List Cell) (runs : List ℕ) (s : ℕ) → s ≤ length l → MayBeginBlank (reversed_prefix Unknown l s) runs
    → ((s ≡ 0) × (length runs ≡ 0)) ⊎ ((1 ≤ s) × IsGapAfter l runs (s - 1))
closed_prefix_to l runs s sl h = search rules

-- at the start of the line, and after a gap, no run ends right before
pub closed_prefix_from : (l : List Cell) (runs : List ℕ) (s : ℕ) → ((s ≡ 0) × (length runs ≡ 0)) ⊎ ((1 ≤ s) × IsGapAfter l runs (s - 1))
    → MayBeginBlank (reversed_prefix Unknown l s) runs
closed_prefix_from l runs zero h = search (rules, closed_none)
closed_prefix_from l runs (suc s) h = search (rules, (closed_first (get_or l s Unknown) (reversed_prefix Unknown l s) runs).1)

-- ---- the mirrored line and clue

pub reversed_prefix_of_reverse : {A : Type 0} (d : A) (xs : List A) (p m : ℕ) → p + m ≡ length xs
    → reversed_prefix d (reverse xs) p ≡ drop m xs
reversed_prefix_of_reverse {A = A} d xs zero m e = sym (drop_of_length-le xs {i = m} (omega arith))
reversed_prefix_of_reverse {A = A} d xs (suc p) m e =
    search (rules, get_or-reverse, drop-cons, reversed_prefix_of_reverse d xs p (suc m) (omega arith))

-- the gaps of the mirrored line are the suffix gaps of the line
pub reversed_gap : (l : List Cell) (clue : List ℕ) (j i : ℕ) → j ≤ length clue → i < length l
    → IsPrefixGap (reverse l) (reverse clue) (length clue - j) (length l - 1 - i) ↔ IsSuffixGap l clue j i
reversed_gap l clue j i jl il = search (rules, get_or-reverse, reversed_prefix_of_reverse, length-reverse)

-- no run starts at index `p`: so it is the end of the line, or a suffix gap
pub closed_suffix_to : (l : List Cell) (clue : List ℕ) (j p : ℕ) → j ≤ length clue → p ≤ length l → MayBeginBlank (drop p l) (drop j clue)
    → ((p ≡ length l) × (j ≡ length clue)) ⊎ IsSuffixGap l clue j p
closed_suffix_to l clue j p jl pl h = elim (cases_lt p (length l)) [
  | inr past ↦ (let none = (closed_none (drop j clue)).0 (rw (drop_of_length-le l {i = p} past) at h) in search (rules, length-drop j clue))
  | inl within ↦ inr (let x = (closed_first _ _ _).0 (rw (drop-cons l p Unknown within) at h) in search (rules, add-one))
]

-- at the end of the line, and at a suffix gap, no run starts
pub closed_suffix_from : (l : List Cell) (clue : List ℕ) (j p : ℕ) → ((p ≡ length l) × (j ≡ length clue)) ⊎ IsSuffixGap l clue j p
    → MayBeginBlank (drop p l) (drop j clue)
closed_suffix_from l clue j p (inl h) = search (rules, drop_of_length-le, closed_none)
closed_suffix_from l clue j p (inr g) =
    rw (drop-cons l p Unknown g.0.0) ((closed_first (get_or l p Unknown) (drop (suc p) l) (drop j clue)).1 (g.0.1, rw (add-one p) at g.1))
