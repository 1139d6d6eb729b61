-- Lookahead tables of lines when they are created, cleared and written.
use Rattle.solve_core.proofs.Names.{inl, inr, ◌≡◌, ◌≢◌, ℕ, zero, suc, refl, arith, cases_eq, cases_lt, ◌<◌, ◌≤◌, List, length, length-set, set, [], ◌∷◌, ◌++◌, None, get_or, get_or-eq_default, get_or-set_other, get_or-set_same}
use Rattle.line_core.proofs.LookaheadLemmas.{empty_table}
use Rattle.line_core.specs.Lookahead.{IsTableOf, Table, no_table}
use Rattle.solve_core.specs.steps.LookaheadTables.{AreEmpty, AreTablesOf}

-- an empty list of tables has no table with a line
pub none_empty : (xs : List Table) → xs ≡ [] → AreEmpty xs
none_empty xs none = record { each = λ i. rw none refl }

-- tables without lines, with another such table appended, have no line
pub one_more_empty : (xs : List Table) (y : Table) → AreEmpty xs → y.line ≡ None → AreEmpty (xs ++ (y ∷ []))
one_more_empty xs y empty none = record { each = λ i. at xs i empty.each }
  where
    at : (xs : List Table) (i : ℕ) → ((i : ℕ) → (get_or xs i no_table).line ≡ None) → (get_or (xs ++ (y ∷ [])) i no_table).line ≡ None
    at [] zero empty = none
    at [] (suc i) empty = refl
    at (x ∷ xs) zero empty = empty 0
    at (x ∷ xs) (suc i) empty = at xs i (λ k. empty (suc k))

-- no table has a line if none of the first `n` has one, and there are at most `n`
pub all_empty : (xs : List Table) (n : ℕ) → length xs ≤ n → ((k : ℕ) → k < n → (get_or xs k no_table).line ≡ None) → AreEmpty xs
all_empty xs n long none = grind (arith, cases_lt, get_or-eq_default)

-- tables without lines are tables of each list of clues
pub empty_tables : (clues : List (List ℕ)) (tables : List Table) → AreEmpty tables → AreTablesOf clues tables
empty_tables clues tables empty = record { each = λ k. empty_table (get_or clues k []) (get_or tables k no_table) (empty.each k) }

-- the tables stay those of the clues if one of them is written for its clue
pub one_written : (clues : List (List ℕ)) (old : List Table) (k : ℕ) (new : Table) → AreTablesOf clues old
    → IsTableOf (get_or clues k []) new → AreTablesOf clues (set old k new)
one_written clues old k new tables is = record { each = λ i. elim (cases_eq i k) [ inl e ↦ at i e | inr n ↦ other i n ] }
  where
    other : (i : ℕ) → i ≢ k → IsTableOf (get_or clues i []) (get_or (set old k new) i no_table)
    other i n = rw (get_or-set_other old k i new no_table n) (tables.each i)

    at : (i : ℕ) → i ≡ k → IsTableOf (get_or clues i []) (get_or (set old k new) i no_table)
    at i e = elim (cases_lt k (length old)) [
      | inl within ↦ rw (e, get_or-set_same old k new no_table within) is
      | inr past ↦ grind (arith, get_or-eq_default, length-set, empty_table)
    ]
