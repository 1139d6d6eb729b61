-- Laws of placings and of the deduced line that the crates above use.
use Rattle.line_core.proofs.Names.{◌↔◌, common_steps, ◌≡◌, ℕ, zero, suc, ◌<◌, Bool, true, false, not, cond, List, [], ◌∷◌, length, get_or, map, filter, Option, Some, None, refl, sym, ap, ◌∙◌, arith, true≢false, zero-add, rules, All, list_all, and_parts, both_ways, false_from_ne_true, not-true, All-weaker, filter_passes, list_all-from_AllPass, length-map-range_with_len, get_or-map-range_with_len, length-map, Cell, Unknown, Filled, Blank, CellExtends, Extends, agrees, colour, runs, shared, shared_at, deduced, list_all-append, list_all-map, full_lines, is_placing, placings}
use Rattle.std.proofs.lemmas.Slice.Eq.{bytes_eq-Decides}
pub use Rattle.line_core.specs.Order.{AtMost}

-- ---- the order by what is known

-- a line extends itself
pub Extends-refl : (g : List Cell) → Extends g g
Extends-refl [] = tt
Extends-refl (c ∷ g) = (search rules, Extends-refl g)

-- extending is transitive
pub Extends-trans : (a b c : List Cell) → Extends a b → Extends b c → Extends a c
Extends-trans (x ∷ a) (y ∷ b) (z ∷ c) h k = search (rules, Extends-trans a b c)
Extends-trans a b c h k = search rules

-- lines that extend one another have the same length
pub length-Extends : (a b : List Cell) → Extends a b → length a ≡ length b
length-Extends (x ∷ a) (y ∷ b) h = ap suc (length-Extends a b h.1)
length-Extends a b h = search rules

-- `AtMost` is transitive
pub AtMost-trans : (a b c : Option (List Cell)) → AtMost a b → AtMost b c → AtMost a c
AtMost-trans (Some x) (Some y) (Some z) h k = Extends-trans x y z h k
AtMost-trans a b c h k = search rules

-- lines that extend each other are equal
pub Extends-antisym : (a b : List Cell) → Extends a b → Extends b a → a ≡ b
Extends-antisym (x ∷ a) (y ∷ b) h k = search (rules, Extends-antisym a b)
Extends-antisym a b h k = search rules

-- ---- placings

-- a full line agrees with a line exactly if it extends it
pub agrees_is : (l : List Cell) (x : List Bool) → (agrees l x ≡ true) ↔ Extends l (map colour x)
agrees_is (c ∷ l) (b ∷ x) = (λ h. search (rules, agrees_is l x, and_parts), λ h. rw ((agrees_is l x).1 h.1) (search rules))
agrees_is l x = search rules

-- `x` is a placing: a full line whose runs are `clue` and which has the colour of each known cell of `l`
pub record IsPlacing (l : List Cell) (clue : List ℕ) (x : List Bool) : Type 0 where
  pub extends : Extends l (map colour x)
  pub runs_are : runs x ≡ clue

pub length-IsPlacing : (l : List Cell) (clue : List ℕ) (x : List Bool) → IsPlacing l clue x → length x ≡ length l
length-IsPlacing l clue x p = sym (length-map x colour) ∙ sym (length-Extends l (map colour x) p.extends)

-- a full line passes the test `is_placing` exactly if it is a placing
pub test_is : (l : List Cell) (clue : List ℕ) (x : List Bool) → (is_placing l clue x ≡ true) ↔ IsPlacing l clue x
test_is l clue x = (
  λ h. search (rules, agrees_is, and_parts, bytes_eq-Decides),
  λ p. rw ((agrees_is l x).1 p.extends, (bytes_eq-Decides (runs x) clue).1 p.runs_are) refl,
)

-- `ps` lists all placings and nothing else, stated by what tests find in it
pub record ListsPlacings (l : List Cell) (clue : List ℕ) (ps : List (List Bool)) : Type 0 where
  pub each : (q : List Bool → Bool) → list_all q ps ≡ true → (x : List Bool) → IsPlacing l clue x → q x ≡ true
  pub every : (q : List Bool → Bool) → ((x : List Bool) → IsPlacing l clue x → q x ≡ true) → list_all q ps ≡ true
  pub members : All (IsPlacing l clue) ps

-- a test that passes on all listed full lines passes on each full line of that length
each_full : (n : ℕ) (q : List Bool → Bool) → list_all q (full_lines n) ≡ true → (x : List Bool) → length x ≡ n → q x ≡ true
each_full zero q h [] e = (and_parts (q []) true h).0
each_full (suc n) q h (b ∷ x) e = search (rules, list_all-append, and_parts, list_all-map, each_full n)
each_full n q h x e = search rules

list_all-filter : (p q : List Bool → Bool) (xs : List (List Bool)) → list_all q (filter p xs) ≡ list_all (λ x. cond (p x) (q x) true) xs
list_all-filter p q [] = refl
list_all-filter p q (x ∷ xs) = search (rules, list_all-filter p q xs)

-- the list `placings` of the definition has all placings
pub placings_listed : (l : List Cell) (clue : List ℕ) → ListsPlacings l clue (placings l clue)
placings_listed l clue =
    let p = is_placing l clue in
    let members : All (IsPlacing l clue) (placings l clue) = search (rules, All-weaker, test_is, filter_passes) in
    record {
      each = λ q h x placing.
          let all = sym (list_all-filter p q (full_lines (length l))) ∙ h in
          rw ((test_is l clue x).1 placing) at (each_full _ (λ y. cond (p y) (q y) true) all x (length-IsPlacing l clue x placing));
      every = search (rules, list_all-from_AllPass, members);
      members = members;
    }

-- if the list is empty, there is no placing
pub no_placing : (l : List Cell) (clue : List ℕ) → ListsPlacings l clue [] → (x : List Bool) → IsPlacing l clue x → ⊥
no_placing l clue listed x p = true≢false (sym (listed.each (λ _. false) refl x p))

-- if there is no placing, the list is empty
pub none_listed : (l : List Cell) (clue : List ℕ) (ps : List (List Bool)) → ListsPlacings l clue ps
    → ((x : List Bool) → IsPlacing l clue x → ⊥) → ps ≡ []
none_listed l clue [] listed none = refl
none_listed l clue (y ∷ ps) listed none = absurd (none y (listed.members 0 y (omega arith)))

-- a test of all listed placings fails if it fails for one placing
pub not_all : (l : List Cell) (clue : List ℕ) (ps : List (List Bool)) → ListsPlacings l clue ps → (q : List Bool → Bool) (y : List Bool)
    → IsPlacing l clue y → q y ≡ false → list_all q ps ≡ false
not_all l clue ps listed q y p e = false_from_ne_true (list_all q ps) (λ h. both_ways (q y) e (listed.each q h y p))

-- a line extends another of the same length if each of its cells extends the other's
pub Extends-from_places : (a b : List Cell) → length a ≡ length b
    → ((k : ℕ) → k < length a → CellExtends (get_or a k Unknown) (get_or b k Unknown)) → Extends a b
Extends-from_places (c ∷ a) (d ∷ b) e h = (h 0 (omega arith), Extends-from_places a b (omega arith) (λ k l. h (suc k) (omega arith)))
Extends-from_places a b e h = search rules

-- if a line extends another, each of its cells extends the other's
pub Extends-at : (a b : List Cell) (k : ℕ) → Extends a b → CellExtends (get_or a k Unknown) (get_or b k Unknown)
Extends-at (c ∷ a) (d ∷ b) k h = search (rules, Extends-at a b)
Extends-at a b k h = search rules

-- whether a full line is filled at an index
abbrev pub filled_at : ℕ → List Bool → Bool
filled_at k x = get_or x k false

-- whether a full line is blank at an index
abbrev pub blank_at : ℕ → List Bool → Bool
blank_at k x = not (get_or x k false)

-- the colour of a full line at an index
pub get_or-map_colour : (x : List Bool) (k : ℕ) → k < length x → get_or (map colour x) k Unknown ≡ colour (get_or x k false)
get_or-map_colour x k h = grind (arith, common_steps)

below_cell : (c : Cell) (filled blank : Bool) → (filled ≡ true → c ≡ Filled) → (blank ≡ true → c ≡ Blank)
    → CellExtends (cond filled Filled (cond blank Blank Unknown)) c
below_cell c filled blank f b = search rules

-- if every placing extends the cell `c` at index `k`, so does the colour that they share there
greatest_at : (l : List Cell) (clue : List ℕ) (ps : List (List Bool)) (k : ℕ) → ListsPlacings l clue ps → (y : List Bool)
    → IsPlacing l clue y
    → (c : Cell) → ((x : List Bool) → IsPlacing l clue x → CellExtends c (colour (get_or x k false))) → CellExtends c (shared_at ps k)
greatest_at l clue ps k listed y p Filled h = search (rules, listed.every (filled_at k))
greatest_at l clue ps k listed y p c h = search rules

greatest_listed : (l : List Cell) (clue : List ℕ) (ps : List (List Bool)) → ListsPlacings l clue ps → (o : Option (List Cell))
    → ((x : List Bool) → IsPlacing l clue x → AtMost o (Some (map colour x))) → AtMost o (shared (length l) ps)
greatest_listed l clue [] listed o h = tt
greatest_listed l clue (y ∷ ys) listed None h = absurd (h y (listed.members 0 y (omega arith)))
greatest_listed l clue (y ∷ ys) listed (Some d) h =
    let ps = y ∷ ys in
    let p : IsPlacing l clue y = listed.members 0 y (omega arith) in
    let long : length d ≡ length l = length-Extends d (map colour y) (h y p) ∙ length-map y colour ∙ length-IsPlacing l clue y p in
    Extends-from_places d _ (long ∙ sym (length-map-range_with_len (shared_at ps) 0 (length l))) (λ k i.
    rw (get_or-map-range_with_len (shared_at ps) 0 (length l) k k Unknown (omega arith) (zero-add k))
    (greatest_at l clue ps k listed y p (get_or d k Unknown) (λ x q.
    rw (get_or-map_colour x k (omega (arith, length-IsPlacing l clue x q))) at (Extends-at d (map colour x) k (h x q)))))

-- a line that every placing extends is extended by the deduced line too
pub deduced-greatest : (l : List Cell) (clue : List ℕ) (o : Option (List Cell))
    → ((x : List Bool) → IsPlacing l clue x → AtMost o (Some (map colour x))) → AtMost o (deduced l clue)
deduced-greatest l clue = greatest_listed l clue (placings l clue) (placings_listed l clue)

-- the deduced line extends the line, unless it is dead
pub deduced-above : (l : List Cell) (clue : List ℕ) → AtMost (Some l) (deduced l clue)
deduced-above l clue = deduced-greatest l clue (Some l) (λ x p. p.extends)

-- each placing extends the deduced line
pub deduced-below : (l : List Cell) (clue : List ℕ) (x : List Bool) → IsPlacing l clue x → AtMost (deduced l clue) (Some (map colour x))
deduced-below l clue x p = by (placings l clue) (placings_listed l clue)
  where
    by : (ps : List (List Bool)) → ListsPlacings l clue ps → AtMost (shared (length l) ps) (Some (map colour x))
    by [] listed = absurd (no_placing l clue listed x p)
    by (y ∷ ys) listed =
        let long : length x ≡ length l = length-IsPlacing l clue x p in
        let at = get_or-map-range_with_len (shared_at (y ∷ ys)) 0 (length l) in
        search (rules, Extends-from_places, length-map-range_with_len, length-map, at, get_or-map_colour, below_cell, not-true)

-- the more is known of a line, the more is deduced
pub deduced-monotone : (l m : List Cell) (clue : List ℕ) → Extends l m → AtMost (deduced l clue) (deduced m clue)
deduced-monotone l m clue h = deduced-greatest m clue (deduced l clue) (grind (arith, common_steps, deduced-below, Extends-trans))

pub full_same : (x y : List Bool) → Extends (map colour x) (map colour y) → y ≡ x
full_same [] [] h = refl
full_same (a ∷ x) (b ∷ y) h = search (rules, full_same x y)
full_same x y h = search rules

-- a full line that is not dead has the runs of the clue
pub deduced-full : (x : List Bool) (clue : List ℕ) (d : List Cell) → deduced (map colour x) clue ≡ Some d → runs x ≡ clue
deduced-full x clue d e = by (placings (map colour x) clue) (placings_listed (map colour x) clue) e
  where
    by : (ps : List (List Bool)) → ListsPlacings (map colour x) clue ps → shared (length (map colour x)) ps ≡ Some d → runs x ≡ clue
    by [] listed e = cc
    by (y ∷ ys) listed e = let p = listed.members 0 y (omega arith) in ap runs (sym (full_same x y p.extends)) ∙ p.runs_are

-- ---- deducing a deduced line

pub AtMost-antisym : (o q : Option (List Cell)) → AtMost o q → AtMost q o → o ≡ q
AtMost-antisym (Some c) (Some d) h k = ap (λ (cells : List Cell). Some cells) (Extends-antisym c d h k)
AtMost-antisym o q h k = search rules

-- deducing a deduced line changes nothing, since each placing of the line is one of the deduced line
pub deduced-idempotent : (l d : List Cell) (clue : List ℕ) → deduced l clue ≡ Some d → deduced d clue ≡ Some d
deduced-idempotent l d clue e =
    AtMost-antisym (deduced d clue) (Some d) (rw e at (deduced-greatest l clue (deduced d clue) (λ x p.
    deduced-below d clue x (record { extends = rw e at (deduced-below l clue x p); runs_are = p.runs_are })))) (deduced-above d clue)

-- the deduced line is as long as the line
pub length-deduced : (l d : List Cell) (clue : List ℕ) → Some d ≡ deduced l clue → length d ≡ length l
length-deduced l d clue e = sym (length-Extends l d (rw (sym e) at (deduced-above l clue)))

pub ruleset laws = (deduced-above, deduced-below, deduced-monotone, deduced-idempotent, test_is)
