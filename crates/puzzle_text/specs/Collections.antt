-- A collection of puzzle texts, and how it is split into entries.
use Rattle.std.specs.Prelude.{◌≡◌, ℕ, ◌+◌, Bool, false, not, ◌&&◌, List, [], ◌∷◌, ◌++◌, length, drop, take, Option, Some, None, Result, Ok, Err, IsOk, nat_lt, ◌==◌, if◌then◌else◌}
use Rattle.std.specs.List.{enumerate_from, find, list_any}
use Rattle.std.specs.Option.{option_map}
use Rattle.puzzle_text.specs.declared.faults.CollectionFault.{CollectionFault}
use Rattle.puzzle_text.specs.declared.faults.CollectionFault.TheVariants.{TooLong, Stray, TooMany, NoMemory}
use Rattle.puzzle_text.specs.declared.limits.TheConstants.{MAX_COLLECTION_LEN, MAX_ENTRIES}
use Rattle.puzzle_text.specs.Lines.{raw_lines, without_ending, trim, is_space_or_tab, is_empty}

-- an entry of a collection: the name and the text of a puzzle
pub record Entry : Type 0 where
  pub name : List ℕ
  pub body : List ℕ

-- a line without its line ending begins an entry: it is `@`, or begins with `@` and a space or a
-- tab
abbrev pub is_marker_text : List ℕ → Bool
is_marker_text [] = false
is_marker_text (first ∷ []) = first == 64
is_marker_text (first ∷ second ∷ others) = first == 64 && is_space_or_tab second

-- `raw`, a line with its line ending, is a marker line and so begins an entry
abbrev pub is_marker : List ℕ → Bool
is_marker raw = is_marker_text (without_ending raw)

-- the name in a marker line
abbrev pub name_of : List ℕ → List ℕ
name_of raw = trim (drop 1 (without_ending raw))

-- the lines before the next marker line, unchanged
abbrev pub body_of : List (List ℕ) → List ℕ
body_of [] = []
body_of (raw ∷ raws) = if is_marker raw then [] else raw ++ body_of raws

-- the entries of a collection's lines, one for each marker line, in order
abbrev pub entries_of : List (List ℕ) → List Entry
entries_of [] = []
entries_of (raw ∷ raws) =
    let others = entries_of raws in
    if is_marker raw then record { name = name_of raw; body = body_of raws } ∷ others else others

-- the line `raw`, which has the lines `above` before it, is stray: it is a marker line without a
-- name, or it is not blank and has no marker line above it
abbrev pub is_stray : List (List ℕ) → List ℕ → Bool
is_stray above raw =
    if is_marker raw then is_empty (name_of raw)
    else not (list_any is_marker above) && not (is_empty (trim (without_ending raw)))

-- the number, from 1, of the first stray line
abbrev pub first_stray : List (List ℕ) → Option ℕ
first_stray raws =
    option_map (λ numbered. numbered.0 + 1)
    (find (λ numbered. is_stray (take numbered.0 raws) numbered.1) (enumerate_from 0 raws))

-- `Stray` if there is a stray line, and otherwise the entries, unless there are too many
abbrev pub checked : Option ℕ → List Entry → Result (List Entry) CollectionFault
checked (Some number) entries = Err (Stray number)
checked None entries = if nat_lt MAX_ENTRIES (length entries) then Err TooMany else Ok entries

-- the entries of a collection, or its first fault
abbrev pub cut : List ℕ → Result (List Entry) CollectionFault
cut bytes = if nat_lt MAX_COLLECTION_LEN (length bytes) then Err TooLong
    else checked (first_stray (raw_lines bytes)) (entries_of (raw_lines bytes))

-- The call's result, its value seen through `view`, is `answer`; or the call returns `NoMemory`,
-- which is allowed in place of entries, but not of a fault.
abbrev pub GivesEntries : {X Y : Type 0} → (X → Y) → Result X CollectionFault
    → Result Y CollectionFault → Type 0
GivesEntries view (Ok x) answer = answer ≡ Ok (view x)
GivesEntries view (Err NoMemory) answer = IsOk answer
GivesEntries view (Err fault) answer = answer ≡ Err fault
