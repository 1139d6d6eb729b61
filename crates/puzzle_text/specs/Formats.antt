-- The formats: how each is named, read and written, and the puzzle of an entry.
use Rattle.std.specs.Prelude.{ℕ, ◌-◌, Bool, List, [], ◌∷◌, length, drop, codes, Option, Some, None, is_some, Result, Ok, Err, if◌then◌else◌}
use Rattle.std.specs.List.{find}
use Rattle.std.specs.Str.{bytes_eq, str_to_ascii_lowercase}
use Rattle.grid_core.specs.Nonogram.{Nonogram}
use Rattle.puzzle_text.specs.declared.faults.TextFault.{TextFault}
use Rattle.puzzle_text.specs.declared.faults.EntryFault.{EntryFault}
use Rattle.puzzle_text.specs.declared.faults.EntryFault.TheVariants.{UnknownFormat, Text}
use Rattle.puzzle_text.specs.declared.faults.WriteFault.{WriteFault}
use Rattle.puzzle_text.specs.declared.faults.WriteFault.TheVariants.{Ambiguous}
use Rattle.puzzle_text.specs.declared.formats.Format.{Format}
use Rattle.puzzle_text.specs.declared.formats.Format.TheVariants.{Non, Mk, Nin}
use Rattle.puzzle_text.specs.Collections.{Entry}
use Rattle.puzzle_text.specs.Mk.{read_mk}
use Rattle.puzzle_text.specs.Nin.{read_nin}
use Rattle.puzzle_text.specs.Non.{read_non}
use Rattle.puzzle_text.specs.Written.{is_ambiguous, text_mk, text_nin, text_non}

-- all formats
abbrev pub formats : List Format
formats = Non ∷ Mk ∷ Nin ∷ []

-- the ending, in lower case, of the name of a text in `format`
abbrev pub name_ending : Format → List ℕ
name_ending Non = codes ".non"
name_ending Mk = codes ".mk"
name_ending Nin = codes ".nin"

-- the word that names `format`: its ending without the dot
abbrev pub word : Format → List ℕ
word format = drop 1 (name_ending format)

-- the puzzle of a text in a format, or the text's first fault
abbrev pub read_as : Format → ℕ → List ℕ → Result Nonogram TextFault
read_as Non limit bytes = read_non limit bytes
read_as Mk limit bytes = read_mk limit bytes
read_as Nin limit bytes = read_nin limit bytes

-- the text of the puzzle `p` in a format; in `.nin` there is none if it would be read with the
-- sizes exchanged
abbrev pub text_as : Format → Nonogram → Result (List ℕ) WriteFault
text_as Non p = Ok (text_non p)
text_as Mk p = Ok (text_mk p)
text_as Nin p = if is_ambiguous p then Err Ambiguous else Ok (text_nin p)

-- `name` ends in `ending`, which is in lower case, in letters of either case
abbrev pub has_ending : List ℕ → List ℕ → Bool
has_ending ending name =
    bytes_eq (drop (length name - length ending) (str_to_ascii_lowercase name)) ending

-- the format that the ending of `name` determines, if it is the ending of a format
abbrev pub format_of : List ℕ → Option Format
format_of name = find (λ format. has_ending (name_ending format) name) formats

-- `name` ends in the ending of a format
abbrev pub is_format : List ℕ → Bool
is_format name = is_some (format_of name)

-- a reader's result as that of an entry
abbrev pub in_entry : Result Nonogram TextFault → Result Nonogram EntryFault
in_entry (Ok p) = Ok p
in_entry (Err fault) = Err (Text fault)

-- the puzzle of the text `body` in a format, or `UnknownFormat` without a format
abbrev pub read_if_known : ℕ → Option Format → List ℕ → Result Nonogram EntryFault
read_if_known limit None body = Err UnknownFormat
read_if_known limit (Some format) body = in_entry (read_as format limit body)

-- the puzzle of an entry in the format that its name's ending determines, or its fault
abbrev pub read_entry : ℕ → Entry → Result Nonogram EntryFault
read_entry limit entry = read_if_known limit (format_of entry.name) entry.body
