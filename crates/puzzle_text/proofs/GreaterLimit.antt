-- With a greater limit, each text keeps its puzzle, or its fault unless that was `BadSize` or `BadNumber`.
use Rattle.puzzle_text.proofs.Names.{rules, ◌≡◌, ℕ, ◌≤◌, Bool, true, false, List, [], ◌∷◌, refl, Option, Some, Result, option_and_then, list_all, and_parts, le-leb, leb-true, TextFault, is_run, TextLine, number_within, pieces, ◌>>=◌, each, each_some, clue_of, clues_of, size_of, two_sizes, size_line, both_clues}
use Rattle.puzzle_text.specs.Laws.{GreaterLimitKeeps, KeepsAnswer}

-- if `old` has a value, `new` has the same
abbrev KeepsSome : {A : Type 0} → Option A → Option A → Type 0
KeepsSome {A} old new = (x : A) → old ≡ Some x → new ≡ Some x

some-bind : {A B : Type 0} (old new : Option A) (f g : A → Option B) → KeepsSome old new → ((x : A) → KeepsSome (f x) (g x))
    → KeepsSome (option_and_then f old) (option_and_then g new)
some-bind old new f g kept next = search rules

some-each : {X Y : Type 0} (f g : X → Option Y) (xs : List X) → ((x : X) → KeepsSome (f x) (g x))
    → KeepsSome (each_some f xs) (each_some g xs)
some-each f g [] next = λ x e. e
some-each f g (x ∷ xs) next = search (rules, some-each f g xs next, some-bind)

keeps-same : {A : Type 0} (r : Result A TextFault) → KeepsAnswer r r
keeps-same r = λ _ _. refl

keeps-bind : {A B : Type 0} (old new : Result A TextFault) (f g : A → Result B TextFault) → KeepsAnswer old new
    → ((x : A) → KeepsAnswer (f x) (g x)) → KeepsAnswer (old >>= f) (new >>= g)
keeps-bind {A} old new f g kept next = search rules

keeps-each : {X Y : Type 0} (f g : X → Result Y TextFault) (xs : List X) → ((x : X) → KeepsAnswer (f x) (g x))
    → KeepsAnswer (each f xs) (each g xs)
keeps-each f g [] next = λ _ _. refl
keeps-each f g (x ∷ xs) next = search (keeps-bind, keeps-same, next x, keeps-each f g xs next)

module _ (a b : ℕ) (le : a ≤ b) where
  number_keeps : (piece : List ℕ) → KeepsSome (number_within a piece) (number_within b piece)
  number_keeps piece = search (rules, some-bind, le-leb, leb-true)

  size_keeps : (piece : List ℕ) → KeepsAnswer (size_of a piece) (size_of b piece)
  size_keeps piece = search (rules, some-bind, number_keeps)

  runs_keep : (ns : List ℕ) → list_all (is_run a) ns ≡ true → list_all (is_run b) ns ≡ true
  runs_keep [] h = refl
  runs_keep (n ∷ ns) h = search (rules, runs_keep ns, and_parts, leb-true, le-leb)

  clue_keeps : (text : List ℕ) → KeepsSome (clue_of a text) (clue_of b text)
  clue_keeps text = some-bind _ _ _ _ (some-each _ _ (pieces text) number_keeps) (λ ns. search (rules, and_parts, runs_keep))

  clues_keep : (section : List TextLine) → KeepsAnswer (clues_of a section) (clues_of b section)
  clues_keep section = keeps-each _ _ section (λ line. search (rules, clue_keeps))

  two_keep : (parts : List (List ℕ)) → KeepsAnswer (two_sizes a parts) (two_sizes b parts)
  two_keep (m ∷ n ∷ []) = search (keeps-bind, keeps-same, size_keeps)
  two_keep parts = λ _ _. refl

  line_keeps : (text : List TextLine) → KeepsAnswer (size_line a text) (size_line b text)
  line_keeps text = search (keeps-bind, keeps-same, two_keep)

  both_keep : (order : Bool) (p q : List TextLine) → KeepsAnswer (both_clues a order p q) (both_clues b order p q)
  both_keep true p q = search (keeps-bind, keeps-same, clues_keep)
  both_keep false p q = search (keeps-bind, keeps-same, clues_keep)

  -- The law: with a greater limit, each text keeps its result in each format.
  pub keeps : GreaterLimitKeeps a b
  keeps = λ bytes. (
    search (keeps-bind, keeps-same, size_keeps, both_keep) depth 8,
    search (keeps-bind, keeps-same, line_keeps, clues_keep) depth 8,
    search (keeps-bind, keeps-same, line_keeps, clues_keep),
  )
