-- The text of a puzzle in another format.
use Rattle.std.specs.Prelude.{ℕ, List, Result, Ok, Err, IsOk, Vec}
use Rattle.std.specs.declared.alloc.Global.{Global}
use Rattle.grid_core.specs.Nonogram.{Nonogram}
use Rattle.puzzle_text.specs.Answers.{Gives}
use Rattle.puzzle_text.specs.Formats.{text_as}
use Rattle.puzzle_text.specs.declared.faults.EntryFault.{EntryFault}
use Rattle.puzzle_text.specs.declared.faults.EntryFault.TheVariants.{Text}
use Rattle.puzzle_text.specs.declared.faults.TextFault.TheVariants as text
use Rattle.puzzle_text.specs.declared.faults.WriteFault.{WriteFault}
use Rattle.puzzle_text.specs.declared.faults.WriteFault.TheVariants as written
use Rattle.puzzle_text.specs.declared.formats.Format.{Format}
use Rattle.reports.specs.declared.converting.ConvertFault.{ConvertFault}
use Rattle.reports.specs.declared.converting.ConvertFault.TheVariants.{Entry, Ambiguous, NoMemory}

-- the result of a writer, as that of a conversion
abbrev pub in_conversion : Result (List ℕ) WriteFault → Result (List ℕ) ConvertFault
in_conversion (Ok text) = Ok text
in_conversion (Err written.Ambiguous) = Err Ambiguous
in_conversion (Err written.NoMemory) = Err NoMemory

-- the text of `p` in `format`, or `Ambiguous` if, in `.nin`, it would be read with width and height
-- exchanged
abbrev pub text_in_format : Format → Nonogram → Result (List ℕ) ConvertFault
text_in_format format p = in_conversion (text_as format p)

-- the text in `format` of the puzzle that was read, or the fault of the text
abbrev pub converted : Format → Result Nonogram EntryFault → Result (List ℕ) ConvertFault
converted format (Ok p) = text_in_format format p
converted format (Err fault) = Err (Entry fault)

-- The call's result is `answer`; or an allocation failed: in reading, which is allowed in place of
-- any answer, or in writing, which is allowed only in place of a text.
abbrev pub GivesConverted :
    Result (Vec ℕ Global) ConvertFault → Result (List ℕ) ConvertFault → Type 0
GivesConverted (Err NoMemory) answer = IsOk answer
GivesConverted result answer = Gives (Entry (Text text.NoMemory)) (λ text. text.items) result answer
