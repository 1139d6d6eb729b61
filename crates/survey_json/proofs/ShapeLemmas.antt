-- The values of entries have no floats, and are not deeper than two levels.
use Rattle.std.proofs.Common.{◌≡◌, ℕ, suc, ◌<◌, ◌≤◌, Bool, false, ◌||◌, List, [], ◌∷◌, ◌++◌, map, Option, Some, None, unwrap_or, Result, Ok, Err, Ordering, Less, Equal, Greater, refl, ap, ◌∙◌, arith}
use Rattle.std.specs.Ordering.{match_ordering, nat_cmp}
use Rattle.std.specs.Cmp.Lexicographic.{slice_cmp}
use Rattle.std.specs.List.{range_with_len}
use Rattle.grid_core.specs.Description.{Description}
use Rattle.grid_core.specs.Nonogram.{Nonogram}
use Rattle.grid_core.specs.PartialGrid.{PartialGrid}
use Rattle.puzzle_text.specs.declared.faults.EntryFault.{EntryFault}
use Rattle.solve_core.specs.declared.findings.Findings.{Findings}
use Rattle.solve_core.specs.declared.findings.Verdict.{Verdict}
use Rattle.solve_core.specs.declared.findings.Verdict.TheVariants.{Nothing, One, Several, Unsettled}
use Rattle.survey_text.specs.Entries.{solutions_of}
use Rattle.survey_text.specs.Faults.{fault_line}
use Rattle.survey_text.specs.Forms.{FormEntry, found_in}
use Rattle.check_text.specs.EntryMessages.{entry_message}
use Rattle.serde_json.specs.Data.{Data, Items, Members, array, depth, item, items_depth, member, members_depth, no_items, no_members, null, put, string}
use Rattle.serde_json.specs.Find.{get_member}
use Rattle.serde_json.specs.Read.{max_depth}
use Rattle.serde_json.specs.View.{items_of}
use Rattle.serde_json.specs.Written.{has_float, items_have_float}
use Rattle.diagnosis.specs.Misfits.{misfits_of}
use Rattle.diagnosis.specs.Sums.{sums_of}
use Rattle.diagnosis.specs.declared.misfits.Misfit.{Misfit}
use Rattle.diagnosis.specs.declared.sums.Sums.{Sums}
use Rattle.survey_json.specs.Entries.{clue_members, description_members, differing_data, graded_keys, graded_members, heading_members, if_any, null_members, object_of, puzzle_members, report_members, result_members, solution_members}
use Rattle.survey_json.specs.Keys.{key_word, value_under}
use Rattle.survey_json.specs.Pictures.{grid_data, picture_or_null}
use Rattle.survey_json.specs.Puzzles.{clue_data, clues_data, misfit_data, sums_data}
use Rattle.survey_json.specs.declared.keys.Key.{Key}
use Rattle.survey_json.specs.Values.{array_of, number_data, number_or_null, text_or_null, with_members}

-- a value without floats that nests at most `n` deep
pub record IsFlat (n : ℕ) (d : Data) : Type 0 where
  pub floats : has_float d ≡ false
  pub depth : depth d ≤ n

-- each of the items is flat
abbrev AreFlatItems : ℕ → Items → Type 0
AreFlatItems n no_items = Unit {0}
AreFlatItems n (item d ds) = IsFlat n d × AreFlatItems n ds

-- each of the members is flat
abbrev AreFlatMembers : ℕ → Members → Type 0
AreFlatMembers n no_members = Unit {0}
AreFlatMembers n (member k d ms) = IsFlat n d × AreFlatMembers n ms

-- each value of a list is flat
abbrev AreFlat : ℕ → List (List ℕ × Data) → Type 0
AreFlat n [] = Unit {0}
AreFlat n (m ∷ ms) = IsFlat n m.1 × AreFlat n ms

both_false : (a b : Bool) → a ≡ false → b ≡ false → (a || b) ≡ false
both_false a b p q = rw (p, q)

item_floats : (n : ℕ) (ds : Items) → AreFlatItems n ds → items_have_float ds ≡ false
item_floats n no_items flat = refl
item_floats n (item d ds) flat = both_false _ _ flat.0.floats (item_floats n ds flat.1)

item_depths : (n : ℕ) (ds : Items) → AreFlatItems n ds → items_depth ds ≤ n
item_depths n no_items flat = omega arith
item_depths n (item d ds) flat = omega (arith, flat.0.depth, item_depths n ds flat.1)

member_depths : (n : ℕ) (ms : Members) → AreFlatMembers n ms → members_depth ms ≤ n
member_depths n no_members flat = omega arith
member_depths n (member k d ms) flat = omega (arith, flat.0.depth, member_depths n ms flat.1)

-- an array is one level deeper than its items
flat_array : (n : ℕ) (ds : Items) → AreFlatItems n ds → IsFlat (suc n) (array ds)
flat_array n ds flat = record { floats = item_floats n ds flat; depth = omega (arith, item_depths n ds flat) }

put_by : (n : ℕ) (order : Ordering) (k l : List ℕ) (d e : Data) (ms : Members) → IsFlat n d → IsFlat n e → AreFlatMembers n ms
    → AreFlatMembers n (put k d ms)
    → AreFlatMembers n (match_ordering order (member k d (member l e ms)) (member l d ms) (member l e (put k d ms)))
put_by n Less k l d e ms here there others later = (here, (there, others))
put_by n Equal k l d e ms here there others later = (here, others)
put_by n Greater k l d e ms here there others later = (there, later)

-- a flat value can be put in
flat_put : (n : ℕ) (k : List ℕ) (d : Data) (ms : Members) → IsFlat n d → AreFlatMembers n ms → AreFlatMembers n (put k d ms)
flat_put n k d no_members here flat = (here, tt)
flat_put n k d (member l e ms) here flat =
    put_by n (slice_cmp nat_cmp k l) k l d e ms here flat.0 flat.1 (flat_put n k d ms here flat.1)

flat_with : (n : ℕ) (members : List (List ℕ × Data)) (old : Members) → AreFlat n members → AreFlatMembers n old
    → AreFlatMembers n (with_members members old)
flat_with n [] old flat others = others
flat_with n (m ∷ ms) old flat others = flat_with n ms (put m.0 m.1 old) flat.1 (flat_put n m.0 m.1 old flat.0 others)

flat_items : {X : Type 0} (n : ℕ) (f : X → Data) (xs : List X) → ((x : X) → IsFlat n (f x)) → AreFlatItems n (items_of (map f xs))
flat_items n f [] each = tt
flat_items n f (x ∷ xs) each = (each x, flat_items n f xs each)

-- an array of flat values
pub flat_map_array : {X : Type 0} (n : ℕ) (f : X → Data) (xs : List X) → ((x : X) → IsFlat n (f x)) → IsFlat (suc n) (array_of (map f xs))
flat_map_array n f xs each = flat_array n _ (flat_items n f xs each)

flat_append : (n : ℕ) (first second : List (List ℕ × Data)) → AreFlat n first → AreFlat n second → AreFlat n (first ++ second)
flat_append n [] second p q = q
flat_append n (m ∷ first) second p q = (p.0, flat_append n first second p.1 q)

-- a value that nests less deep
deeper : (m n : ℕ) (d : Data) → m ≤ n → IsFlat m d → IsFlat n d
deeper m n d within flat = record { floats = flat.floats; depth = omega (arith, flat.depth) }

flat_null : (n : ℕ) → IsFlat n null
flat_null n = record { floats = refl; depth = omega arith }

flat_string : (n : ℕ) (bytes : List ℕ) → IsFlat n (string bytes)
flat_string n bytes = record { floats = refl; depth = omega arith }

flat_number : (n k : ℕ) → IsFlat n (number_data k)
flat_number n k = record { floats = refl; depth = omega arith }

flat_text : (n : ℕ) (text : Option (List ℕ)) → IsFlat n (text_or_null text)
flat_text n None = flat_null n
flat_text n (Some bytes) = flat_string n _

flat_line : (n : ℕ) (line : Option ℕ) → IsFlat n (number_or_null line)
flat_line n None = flat_null n
flat_line n (Some k) = flat_number n k

flat_clues : (clues : List (List ℕ)) → IsFlat 2 (clues_data clues)
flat_clues clues = flat_map_array 1 clue_data clues (λ clue. flat_map_array 0 number_data clue (flat_number 0))

flat_grid : (g : PartialGrid) → IsFlat 1 (grid_data g)
flat_grid g = flat_map_array 0 _ (range_with_len 0 g.height) (λ y. flat_string 0 _)

flat_goal : (p : Nonogram) (goal : Option (List Bool)) → IsFlat 1 (picture_or_null p goal)
flat_goal p None = flat_null 1
flat_goal p (Some values) = flat_map_array 0 _ (range_with_len 0 p.height) (λ y. flat_string 0 _)

flat_differing : (verdict : Verdict) → IsFlat 1 (differing_data verdict)
flat_differing Nothing = flat_null 1
flat_differing (One grid) = flat_null 1
flat_differing (Several first second) = flat_map_array 0 _ (range_with_len 0 first.height) (λ y. flat_string 0 _)
flat_differing (Unsettled found) = flat_null 1

flat_misfit : (misfit : Misfit) → IsFlat 1 (misfit_data misfit)
flat_misfit misfit = record { floats = refl; depth = omega arith }

flat_sums : (sums : Sums) → IsFlat 1 (sums_data sums)
flat_sums sums = record { floats = refl; depth = omega arith }

flat_nulls : (n : ℕ) (keys : List (List ℕ)) → AreFlat n (null_members keys)
flat_nulls n [] = tt
flat_nulls n (key ∷ keys) = (flat_null n, flat_nulls n keys)

flat_heading : (k : ℕ) (name : List ℕ) (message : Option (List ℕ)) → AreFlat 2 (heading_members k name message)
flat_heading k name message = (flat_string 2 _, (flat_number 2 _, (flat_text 2 message, tt)))

flat_description : (texts : Description) → AreFlat 2 (description_members texts)
flat_description texts = (flat_text 2 _, (flat_text 2 _, (flat_text 2 _, (flat_text 2 _, (flat_text 2 _, tt)))))

flat_puzzle : (p : Nonogram) → AreFlat 2 (puzzle_members p)
flat_puzzle p = (
  flat_number 2 _,
  (flat_number 2 _, (flat_clues _, (flat_clues _, (flat_string 2 _, (deeper 1 2 _ (omega arith) (flat_goal p p.goal), tt))))),
)

flat_clue_checks : (misfits : List Misfit) (sums : Sums) → AreFlat 2 (clue_members misfits sums)
flat_clue_checks misfits sums = (
  flat_map_array 1 misfit_data misfits flat_misfit,
  (deeper 1 2 (sums_data sums) (omega arith) (flat_sums sums), tt),
)

flat_report : (findings : Findings) → AreFlat 2 (report_members findings)
flat_report findings = (flat_string 2 _, (flat_string 2 _, (flat_number 2 _, (flat_number 2 _, (flat_number 2 _, tt)))))

flat_solutions : (verdict : Verdict) → AreFlat 2 (solution_members verdict)
flat_solutions verdict = (
  flat_map_array 1 grid_data (solutions_of verdict) flat_grid,
  (deeper 1 2 _ (omega arith) (flat_differing verdict), tt),
)

flat_graded : (p : Nonogram) (findings : Findings) → AreFlat 2 (graded_members p findings)
flat_graded p findings =
    let puzzle = puzzle_members p in
    let clues = clue_members (misfits_of p) (sums_of p) in
    let report = report_members findings in
    let solutions = solution_members findings.verdict in
    flat_append 2 (description_members p.texts) (puzzle ++ (clues ++ (report ++ solutions))) (flat_description p.texts)
    (flat_append 2 puzzle (clues ++ (report ++ solutions)) (flat_puzzle p)
    (flat_append 2 clues (report ++ solutions) (flat_clue_checks (misfits_of p) (sums_of p))
    (flat_append 2 report solutions (flat_report findings) (flat_solutions findings.verdict))))

flat_result : (result : Result (Nonogram × Findings) EntryFault) → AreFlat 2 (result_members result)
flat_result (Ok found) = (flat_null 2, (flat_null 2, flat_graded found.0 found.1))
flat_result (Err fault) = (flat_string 2 _, (flat_line 2 (fault_line fault), flat_nulls 2 graded_keys))

-- the members of an entry's object
abbrev entry_members : ℕ → List ℕ → Result (Nonogram × Findings) EntryFault → Option (List ℕ) → Members
entry_members k name result message = with_members (heading_members k name message ++ result_members result) no_members

flat_entry : (k : ℕ) (name : List ℕ) (result : Result (Nonogram × Findings) EntryFault) (message : Option (List ℕ))
    → AreFlatMembers 2 (entry_members k name result message)
flat_entry k name result message =
    let heading = heading_members k name message in
    let others = result_members result in
    flat_with 2 (heading ++ others) no_members (flat_append 2 heading others (flat_heading k name message) (flat_result result)) tt

-- the object of an entry isn't too deep to be read
pub entry_is_shallow : (k : ℕ) (entry : FormEntry) → depth (object_of k entry) ≤ max_depth
entry_is_shallow k entry =
    let flat = flat_entry k entry.name (found_in entry.result) (if_any (entry_message entry)) in
    let members = entry_members k entry.name (found_in entry.result) (if_any (entry_message entry)) in
    let shallow : members_depth members ≤ 2 = member_depths 2 members flat in
    let deeper : suc (members_depth members) ≤ max_depth = omega (arith, shallow) in
    deeper

found_by : (n : ℕ) (order : Ordering) (d : Data) (others : Option Data) → IsFlat n d → IsFlat n (unwrap_or others null)
    → IsFlat n (unwrap_or (match_ordering order others (Some d) others) null)
found_by n Less d others here there = there
found_by n Equal d others here there = here
found_by n Greater d others here there = there

-- what is found among flat members is flat
flat_found : (n : ℕ) (k : List ℕ) (ms : Members) → AreFlatMembers n ms → IsFlat n (unwrap_or (get_member k ms) null)
flat_found n k no_members flat = flat_null n
flat_found n k (member l d ms) flat = found_by n (slice_cmp nat_cmp k l) d (get_member k ms) flat.0 (flat_found n k ms flat.1)

flat_value : (k : ℕ) (entry : FormEntry) (key : Key) → IsFlat 2 (value_under (object_of k entry) key)
flat_value k entry key =
    let name = entry.name in
    let result = found_in entry.result in
    let message = if_any (entry_message entry) in
    flat_found 2 (key_word key) (entry_members k name result message) (flat_entry k name result message)

-- what an entry's object has under a key has no floats
pub value_has_no_float : (d : Data) (k : ℕ) (entry : FormEntry) (key : Key) → d ≡ value_under (object_of k entry) key → has_float d ≡ false
value_has_no_float d k entry key is = ap has_float is ∙ (flat_value k entry key).floats

-- and nests less deep than what can be read
pub value_is_shallow : (d : Data) (k : ℕ) (entry : FormEntry) (key : Key) → d ≡ value_under (object_of k entry) key → depth d < max_depth
value_is_shallow d k entry key is =
    let shallow : depth (value_under (object_of k entry) key) ≤ 2 = (flat_value k entry key).depth in
    let same : depth d ≡ depth (value_under (object_of k entry) key) = ap depth is in
    omega (arith, shallow, same)
