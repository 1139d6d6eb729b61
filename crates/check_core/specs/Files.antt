-- The files of a check.
use Rattle.std.specs.Prelude.{ℕ, List, [], ◌∷◌, Result, Ok, Err}
use Rattle.std.specs.List.{flat_map}
use Rattle.std.specs.Borrow.{Bor}
use Rattle.puzzle_text.specs.Collections.{Entry}
use Rattle.check_text.specs.declared.unread.Unread.{Unread}
use Rattle.check_core.specs.declared.files.CheckFile.{CheckFile}

-- a file: its name, and its bytes or why they can't be read
pub record NamedFile : Type 0 where
  pub name : List ℕ
  pub body : Result (List ℕ) Unread

-- the bytes that are borrowed, if there are any
abbrev pub shown_body : Result (Bor (List ℕ)) Unread → Result (List ℕ) Unread
shown_body (Ok body) = Ok body.now
shown_body (Err unread) = Err unread

-- the name and the bytes of a file
abbrev pub shown_file : CheckFile → NamedFile
shown_file file = record { name = file.name.now; body = shown_body file.body }

-- the file of an entry of a collection
abbrev pub file_of_entry : Entry → NamedFile
file_of_entry entry = record { name = entry.name; body = Ok entry.body }

-- the entry of a file with this name, if it can be read
abbrev pub entry_in : List ℕ → Result (List ℕ) Unread → List Entry
entry_in name (Ok body) = record { name = name; body = body } ∷ []
entry_in name (Err unread) = []

-- the entries of the files that can be read
abbrev pub readable : List NamedFile → List Entry
readable files = flat_map (λ file. entry_in file.name file.body) files
