-- Known cells at both ends of a line: what is deduced of the line is what is deduced of the cells between them.
use Rattle.line_core.proofs.LineCells.{lengths_of, clue_of}
use Rattle.grid_core.specs.Clues.{is_clue}
use Rattle.line_core.proofs.Names.{mirror_index, has_true, true_has, get_or-take, mask_same, has, common_steps, rules, ◌≡◌, ◌↔◌, ℕ, zero, suc, ◌+◌, ◌-◌, ◌<◌, ◌≤◌, Bool, true, false, List, [], ◌∷◌, ◌++◌, length, map, Option, Some, None, refl, sym, ap, ◌∙◌, arith, take, drop, reverse, append_assoc, get_or, append-nil, length-map, length-drop, length-take-le, map-append, Has, IsMaskOf, get_or-reverse, length-reverse, reverse-reverse, ext_get_or, Cell, Unknown, Extends, colour, is_filled, runs, runs_after, deduced, runs_after-zero, runs_after-true, runs_after-false, runs_after-close, runs_after-nil}
use Rattle.std.specs.Option.{option_map}
use Rattle.std.proofs.lemmas.List.{append_cancel_left, drop-drop, take_rest, map-id, take-append-drop, reverse-append}
use Rattle.std.proofs.lemmas.List.Elements.{All-drop, All-take}
use Rattle.std.proofs.Math.Seq.{take-suc}
use Rattle.grid_core.specs.Cells.{is_known}
use Rattle.line_core.specs.steps.KnownEnds.{IsInnerClue, IsKnownEnd, filled_first}
use Rattle.line_core.specs.steps.CluePrefix.{IsCluePrefix, IsFilled, mirrored_if}
use Rattle.line_core.specs.Order.{AtMost}
use Rattle.line_core.proofs.DeductionLaws.{IsPlacing, deduced-greatest, deduced-below, deduced-above, get_or-map_colour, length-deduced, length-Extends, AtMost-antisym, full_same, Extends-refl}
use Rattle.line_core.proofs.Joining.{filled_within, onto, runs_cut}

-- ---- runs on both sides of a blank cell

runs_after-apart : (n : ℕ) (x y : List Bool) → runs_after n (x ++ (false ∷ y)) ≡ runs_after n x ++ runs y
runs_after-apart n (true ∷ x) y = search (rules, runs_after-true, runs_after-apart (suc n) x y)
runs_after-apart zero [] y = search rules
runs_after-apart zero (false ∷ x) y = search (rules, runs_after-false, runs_after-apart 0 x y)
runs_after-apart (suc n) [] y = search (rules, runs_after-close, runs_after-nil, runs_after-zero)
runs_after-apart (suc n) (false ∷ x) y = search (rules, runs_after-close, runs_after-apart 0 x y)

runs_apart : (x y : List Bool) → runs (x ++ (false ∷ y)) ≡ runs x ++ runs y
runs_apart x y = rw (sym (runs_after-zero (x ++ (false ∷ y))), sym (runs_after-zero x)) (runs_after-apart 0 x y)

onto-reverse : {A : Type 0} (x y : List A) → onto x y ≡ reverse x ++ y
onto-reverse [] y = refl
onto-reverse (b ∷ x) y = grind (arith, append_assoc, onto-reverse x (b ∷ y), onto-reverse x (b ∷ []))

runs-reverse : (x : List Bool) → runs (reverse x) ≡ reverse (runs x)
runs-reverse x = search (rules, onto-reverse, runs_cut x [], runs_apart (reverse x) [], append-nil)

-- ---- placings

-- if the whole extends the whole, the parts extend the parts
split : (a b c d : List Cell) → length a ≡ length b → Extends (a ++ c) (b ++ d) → Extends a b × Extends c d
split [] [] c d e h = (tt, h)
split (x ∷ a) (y ∷ b) c d e h = search (rules, split a b c d)
split a b c d e h = search rules

-- if the parts extend the parts, the whole extends the whole
join : (a b c d : List Cell) → Extends a b → Extends c d → Extends (a ++ c) (b ++ d)
join (x ∷ a) (y ∷ b) c d h k = search (rules, join a b c d)
join a b c d h k = search rules

-- what extends known cells equals them
known_same : {X : Type 0} (h : X → Cell) (f : List Bool) (x : List X) → Extends (map colour f) (map h x) → map h x ≡ map colour f
known_same h (b ∷ f) (c ∷ x) e = search (rules, known_same h f x)
known_same h f x e = search rules

-- a line with the known cells `f` before and `g` after its inner cells
abbrev pub between : List Bool → List Bool → List Cell → List Cell
between f g d = map colour f ++ (d ++ map colour g)

-- what extends a line with known ends has the same known ends, and extends its inner cells
inner : {X : Type 0} (h : X → Cell) (f g : List Bool) (l : List Cell) (x : List X) → Extends (between f g l) (map h x)
    → (y : List X) × (map h x ≡ between f g (map h y)) × Extends l (map h y)
inner h (b ∷ f) g l (c ∷ x) e = let r = inner h f g l x e.1 in let first : h c ≡ colour b = search rules in (r.0, cc, r.2)
inner h [] g (b ∷ l) (c ∷ x) e = let r = inner h [] g l x e.1 in (c ∷ r.0, cc, (e.0, r.2))
inner h [] g [] x e = ([], known_same h g x e, tt)
inner h f g l x e = search rules

-- if the inner cells extend others, so do the lines with the known ends
between_more : (f g : List Bool) (o q : Option (List Cell)) → AtMost o q → AtMost (option_map (between f g) o) (option_map (between f g) q)
between_more f g (Some l) (Some m) h = search (rules, join, Extends-refl)
between_more f g o q h = search rules

module _ (f g : List Bool) (l : List Cell) (clue : List ℕ) where
  whole : (y : List Bool) → map colour (f ++ (y ++ g)) ≡ between f g (map colour y)
  whole y = search (rules, map-append)

  -- each placing of the line is the known ends and a full line that extends the inner cells
  inside : (x : List Bool) → Extends (between f g l) (map colour x)
      → (y : List Bool) × (map colour x ≡ between f g (map colour y)) × Extends l (map colour y) × (runs (f ++ (y ++ g)) ≡ runs x)
  inside x h =
      let r = inner colour f g l x h in
      let same : x ≡ f ++ (r.0 ++ g) = full_same _ _ (rw (whole r.0, sym r.1) (Extends-refl (map colour x))) in
      (r.0, r.1, r.2, ap runs (sym same))

  -- if no inner cells complete the known ends to the clue, the line is dead
  dead_between : ((y : List Bool) → runs (f ++ (y ++ g)) ≡ clue → ⊥) → deduced (between f g l) clue ≡ None
  dead_between none = AtMost-antisym _ None tt (deduced-greatest (between f g l) clue None (λ x p.
      let r = inside x p.extends in none r.0 (r.3 ∙ p.runs_are)))

  module _ (ns : List ℕ) (left : (y : List Bool) → (runs (f ++ (y ++ g)) ≡ clue) ↔ (runs y ≡ ns)) where
    outside : (y : List Bool) → IsPlacing l ns y → IsPlacing (between f g l) clue (f ++ (y ++ g))
    outside y p = record {
      extends = rw (whole y) (between_more f g (Some l) (Some (map colour y)) p.extends);
      runs_are = (left y).1 p.runs_are;
    }

    above : (q : Option (List Cell)) (x : List Bool) → ((y : List Bool) → IsPlacing l ns y → AtMost q (Some (map colour y)))
        → IsPlacing (between f g l) clue x → AtMost (option_map (between f g) q) (Some (map colour x))
    above q x each p =
        let r = inside x p.extends in
        let placing : IsPlacing l ns r.0 = record { extends = r.2; runs_are = (left r.0).0 (r.3 ∙ p.runs_are) } in
        rw r.1 (between_more f g q (Some (map colour r.0)) (each r.0 placing))

    below : (o q : Option (List Cell)) → AtMost (Some (between f g l)) o
        → ((y : List Bool) → IsPlacing l ns y → AtMost o (Some (map colour (f ++ (y ++ g)))))
        → ((m : Option (List Cell)) → ((y : List Bool) → IsPlacing l ns y → AtMost m (Some (map colour y))) → AtMost m q)
        → AtMost o (option_map (between f g) q)
    below None q up each greatest = between_more f g None q (greatest None each)
    below (Some w) q up each greatest =
        let r = inner (λ (c : Cell). c) f g l w (rw (map-id w) up) in
        let m = map (λ (c : Cell). c) r.0 in
        let is : w ≡ between f g m = sym (map-id w) ∙ r.1 in
        rw is (between_more f g (Some m) q (greatest (Some m) (λ y p.
        (split m (map colour y) _ _ (sym (length-Extends l m r.2) ∙ length-Extends l (map colour y) p.extends)
        (split (map colour f) (map colour f) _ _ refl (rw (is, whole y) at (each y p))).1).0)))

    -- what is deduced of the line is what is deduced of the inner cells, with the known ends
    deduced_between : deduced (between f g l) clue ≡ option_map (between f g) (deduced l ns)
    deduced_between =
        let line = between f g l in
        AtMost-antisym _ _ (below _ _ (deduced-above line clue) (λ y p. deduced-below line clue _ (outside y p)) (deduced-greatest l ns))
        (deduced-greatest line clue _ (λ x p. above _ x (deduced-below l ns) p))

-- ---- known ends

-- the mask of a test of the line's cells, on the mirrored line or as it is
pub mirrored_values : (t : Bool) (φ : Cell → Bool) (l : List Cell) (len set m : ℕ) → len ≡ length l
    → ((i : ℕ) → i < length l → has set i ≡ φ (get_or l i Unknown)) → ((i : ℕ) → i < len → has m i ≡ has set (mirror_index t len i))
    → (i : ℕ) → i < len → has m i ≡ φ (get_or (mirrored_if t l) i Unknown)
mirrored_values true φ l len set m e given same i h =
    rw (get_or-reverse l i Unknown (omega arith), sym e) (same i h ∙ given (len - 1 - i) (omega arith))
mirrored_values false φ l len set m e given same i h = same i h ∙ given i (omega arith)

-- which of the first cells are filled
filled_at : (n i : ℕ) (l : List Cell) → i < n → get_or (filled_first n l) i false ≡ is_filled (get_or l i Unknown)
filled_at n i l h = grind (arith, common_steps)

pub filled_is : (l : List Cell) (n set first m : ℕ) → n ≤ length l → ((i : ℕ) → i < n → has set i ≡ is_filled (get_or l i Unknown))
    → IsMaskOf (λ i. i < n) first → IsMaskOf (λ i. Has set i × Has first i) m → IsMaskOf (IsFilled (filled_first n l)) m
filled_is l n set first m within given f b = mask_same _ _ m b (λ i h.
    let inside = f.to i h.1 in filled_at n i l inside ∙ sym (given i inside) ∙ has_true set i h.0) (λ i h.
    let inside : i < n = omega (arith, filled_within (filled_first n l) i h, length-map (take n l) is_filled, length-take-le n l within) in
    (true_has set i (given i inside ∙ sym (filled_at n i l inside) ∙ h), f.from i inside))

-- ---- the numbers of the clue that are left

-- no run continues from a known end into the cells after it
pub known_end_apart : (l : List Cell) (n : ℕ) → IsKnownEnd l n → (y : List Bool)
    → runs (filled_first n l ++ y) ≡ runs (filled_first n l) ++ runs y
known_end_apart l zero known_end y = refl
known_end_apart l (suc n) known_end y =
    let before = map is_filled (take n l) in
    let last : suc n - 1 ≡ n = omega arith in
    let e : filled_first (suc n) l ≡ before ++ (false ∷ []) =
    rw (take-suc l n Unknown known_end.within, rw last at (known_end.closed (omega arith)), map-append is_filled) refl in
    rw (e, append_assoc, runs_apart before y, runs_apart before [], append-nil) refl

-- the runs of cells with a known end after them, which is given from the other end
runs_behind : (b y : List Bool) → ((z : List Bool) → runs (b ++ z) ≡ runs b ++ runs z)
    → runs (y ++ reverse b) ≡ reverse (runs b ++ reverse (runs y))
runs_behind b y apart =
    let e : y ++ reverse b ≡ reverse (b ++ reverse y) = search (rules, reverse-append, reverse-reverse) in
    rw (e, runs-reverse (b ++ reverse y), apart (reverse y), runs-reverse y) refl

-- a list that begins with `xs` has the rest of its elements after it
parts : (xs ys all : List ℕ) (n : ℕ) → xs ≡ take n all → (xs ++ ys ≡ all) ↔ (ys ≡ drop n all)
parts xs ys all n e = (
  λ is. append_cancel_left xs ys (drop n all) (rw (sym (take-append-drop n all), sym e) at is),
  λ is. rw (e, is, take-append-drop n all) refl,
)

mirrored_back : (xs ys : List ℕ) → (reverse xs ≡ ys) ↔ (xs ≡ reverse ys)
mirrored_back xs ys = search (rules, reverse-reverse)

take_mirrored : (n : ℕ) (xs : List ℕ) → reverse (drop n (reverse xs)) ≡ take (length xs - n) xs
take_mirrored n xs = ext_get_or 0 _ _ (grind (arith, common_steps, length-reverse)) (λ k h. grind (arith, common_steps, get_or-reverse))

module _ (l : List Cell) (n m : ℕ) (front : IsKnownEnd l n) (back : IsKnownEnd (reverse l) m) (clue : List ℕ) where
  pub none_front : IsCluePrefix (filled_first n l) clue None → IsInnerClue (filled_first n l) (filled_first m (reverse l)) clue None
  none_front dead y is = dead _ (sym (known_end_apart l n front (y ++ reverse (filled_first m (reverse l)))) ∙ is)

  after_front : (from : ℕ) (y : List Bool) → IsCluePrefix (filled_first n l) clue (Some from)
      → (runs (filled_first n l ++ (y ++ reverse (filled_first m (reverse l)))) ≡ clue)
      ↔ (runs (filled_first m (reverse l)) ++ reverse (runs y) ≡ reverse (drop from clue))
  after_front from y passed =
      let b = filled_first m (reverse l) in
      let here = parts (runs (filled_first n l)) (runs (y ++ reverse b)) clue from passed.1 in
      let apart = known_end_apart l n front (y ++ reverse b) in
      let behind = runs_behind b y (known_end_apart (reverse l) m back) in
      let turn = mirrored_back (runs b ++ reverse (runs y)) (drop from clue) in
      (λ is. turn.0 (sym behind ∙ here.0 (sym apart ∙ is)), λ is. apart ∙ here.1 (behind ∙ turn.1 is))

  pub none_back : (from : ℕ) → IsCluePrefix (filled_first n l) clue (Some from)
      → IsCluePrefix (filled_first m (reverse l)) (reverse (take (length clue - from) (drop from clue))) None
      → IsInnerClue (filled_first n l) (filled_first m (reverse l)) clue None
  none_back from passed dead y is = dead (reverse (runs y)) (rw take_rest ((after_front from y passed).0 is))

  pub some_left : (from count : ℕ) → IsCluePrefix (filled_first n l) clue (Some from)
      → IsCluePrefix (filled_first m (reverse l)) (reverse (take (length clue - from) (drop from clue))) (Some count)
      → IsInnerClue (filled_first n l) (filled_first m (reverse l)) clue (Some (from, length clue - count))
  some_left from count passed last =
      let r = drop from clue in
      let (within, are) = rw take_rest at last in
      let count_is : length r - count ≡ length clue - count - from = omega (arith, length-drop from clue) in
      let left = rw count_is at (take_mirrored count r) in (
        omega (arith, passed.0, within, length-reverse r, length-drop from clue),
        omega arith,
        λ y.
            let first = after_front from y passed in
            let behind = parts (runs (filled_first m (reverse l))) (reverse (runs y)) (reverse r) count are in
            let turn = mirrored_back (runs y) (drop count (reverse r)) in
            (λ is. turn.0 (behind.0 (first.0 is)) ∙ left, λ is. first.1 (behind.1 (turn.1 (is ∙ sym left)))),
      )

-- a part of a clue is a clue
pub clue_part : (limit n m : ℕ) (clue : List ℕ) → is_clue limit clue ≡ true → is_clue limit (take n (drop m clue)) ≡ true
clue_part limit n m clue is = let are = lengths_of limit clue is in clue_of limit (take n (drop m clue)) (record {
  few = grind (arith, common_steps);
  positive = search (rules, All-take, All-drop, are.positive);
  short = search (rules, All-take, All-drop, are.short);
})

-- ---- the deduced line

-- the line with the cells from index `n` on replaced by `p`
abbrev pub with_cells : ℕ → List Cell → List Cell → List Cell
with_cells n p l = take n l ++ (p ++ drop (n + length p) l)

known_colour : (c : Cell) → is_known c ≡ true → colour (is_filled c) ≡ c
known_colour c e = search rules

-- the colours of a known end
known_end_colours : (l : List Cell) (n : ℕ) → IsKnownEnd l n → map colour (filled_first n l) ≡ take n l
known_end_colours l n known_end =
    let long = length-map (filled_first n l) colour ∙ length-map (take n l) is_filled in
    ext_get_or Unknown _ _ long (λ k h.
    let low : k < n = omega (arith, long, length-take-le n l known_end.within) in
    rw (
      get_or-map_colour (filled_first n l) k (omega (arith, length-map (filled_first n l) colour)),
      filled_at n k l low,
      get_or-take n l k Unknown low,
    )
    (known_colour _ (known_end.known k low)))

map_reverse : (x : List Bool) → map colour (reverse x) ≡ reverse (map colour x)
map_reverse [] = refl
map_reverse (b ∷ x) = grind (arith, common_steps, map_reverse x)

drop_mirrored : (n : ℕ) (xs : List Cell) → reverse (take n (reverse xs)) ≡ drop (length xs - n) xs
drop_mirrored n xs =
    ext_get_or Unknown _ _ (grind (arith, common_steps, length-reverse)) (λ k h. grind (arith, common_steps, get_or-reverse))

module _ (l : List Cell) (n m : ℕ) (front : IsKnownEnd l n) (back : IsKnownEnd (reverse l) m) (some : n + m < length l)
    (clue : List ℕ) where
  -- the inner cells, between the known ends
  abbrev middle : List Cell
  middle = take (length l - n - m) (drop n l)

  pub length-middle : length middle ≡ length l - n - m
  length-middle = omega (arith, length-take-le (length l - n - m) (drop n l), length-drop n l)

  -- with other inner cells the line still has its known ends
  with_between : (d : List Cell) → length d ≡ length middle
      → with_cells n d l ≡ between (filled_first n l) (reverse (filled_first m (reverse l))) d
  with_between d long =
      let at : length l - m ≡ n + length d = omega (arith, length-middle) in
      rw (known_end_colours l n front, map_reverse, known_end_colours (reverse l) m back, drop_mirrored, at) refl

  deduced_is : deduced l clue ≡ deduced (between (filled_first n l) (reverse (filled_first m (reverse l))) middle) clue
  deduced_is =
      let itself : with_cells n middle l ≡ l =
      rw (length-middle, ← drop-drop (length l - n - m) n l, take-append-drop, take-append-drop) refl in
      ap (λ (w : List Cell). deduced w clue) (sym itself ∙ with_between middle refl)

  -- if no numbers are left for the inner cells, the line is dead
  pub inner_dead : IsInnerClue (filled_first n l) (filled_first m (reverse l)) clue None → None ≡ deduced l clue
  inner_dead none =
      sym (deduced_is ∙ dead_between (filled_first n l) (reverse (filled_first m (reverse l))) middle clue none)

  module _ (ns : List ℕ) (left : (y : List Bool) → (runs (filled_first n l ++ (y ++ reverse (filled_first m (reverse l)))) ≡ clue)
      ↔ (runs y ≡ ns)) where
    deduced_as : (o : Option (List Cell)) → o ≡ deduced middle ns
        → option_map (between (filled_first n l) (reverse (filled_first m (reverse l)))) o ≡ deduced l clue
    deduced_as o e =
        let f = filled_first n l in
        let g = reverse (filled_first m (reverse l)) in
        ap (option_map (between f g)) e ∙ sym (deduced_is ∙ deduced_between f g middle clue ns left)

    -- if the inner cells are dead, so is the line
    pub inner_none : None ≡ deduced middle ns → None ≡ deduced l clue
    inner_none e = deduced_as None e

    module _ (d : List Cell) (e : Some d ≡ deduced middle ns) where
      pub inner_some : Some (with_cells n d l) ≡ deduced l clue
      inner_some = ap (λ (w : List Cell). Some w) (with_between d (length-deduced middle d ns e)) ∙ deduced_as (Some d) e

      pub inner_within : n + length d ≤ length l
      inner_within = omega (arith, some, length-middle, length-deduced middle d ns e)

      pub inner_more : Extends (take (length d) (drop n l)) d
      inner_more = rw (length-deduced middle d ns e, length-middle) (rw (sym e) at (deduced-above middle ns))
