-- What a diagnosis says of a refused text.
use Rattle.std.specs.Prelude.{ℕ, List, [], Option, Some, None, option_and_then, ◌==◌}
use Rattle.std.specs.List.{find}
use Rattle.std.specs.Option.{option_map}
use Rattle.std.specs.Result.{result_unwrap_or}
use Rattle.puzzle_text.specs.declared.faults.TextFault.{TextFault}
use Rattle.puzzle_text.specs.declared.faults.TextFault.TheVariants.{TooLong, NoSize, BadSize, NoSection, BadLine, Twice, BadCount, BadNumber, BadGoal, NoMemory}
use Rattle.puzzle_text.specs.declared.formats.Format.{Format}
use Rattle.puzzle_text.specs.declared.forms.TextForm.{TextForm}
use Rattle.puzzle_text.specs.Forms.{form_of_bytes}
use Rattle.puzzle_text.specs.LineForms.{form_of_lines}
use Rattle.puzzle_text.specs.Lines.{TextLine}
use Rattle.puzzle_text.specs.Mk.{or_else}
use Rattle.puzzle_text.specs.Sizes.{text_lines}

-- the lines of a text; none if it is too long to be read
abbrev pub readable_lines : List ℕ → List TextLine
readable_lines bytes = result_unwrap_or (text_lines bytes) []

-- the number of the line that a fault names, if it names one
abbrev pub line_number : TextFault → Option ℕ
line_number TooLong = None
line_number NoSize = None
line_number BadSize = None
line_number NoSection = None
line_number (BadLine number) = Some number
line_number (Twice number) = Some number
line_number BadCount = None
line_number (BadNumber number) = Some number
line_number (BadGoal number) = Some number
line_number NoMemory = None

-- the text of the line with this number, if there is such a line
abbrev pub text_of_line : ℕ → List TextLine → Option (List ℕ)
text_of_line number lines =
    option_map (λ line. line.text) (find (λ line. line.number == number) lines)

-- the text of the line that a fault names, if it names one
abbrev pub named_line : TextFault → List TextLine → Option (List ℕ)
named_line fault lines =
    option_and_then (λ number. text_of_line number lines) (line_number fault)

-- the form of a text that explains its fault, if one is recognized: that of its bytes, or else of
-- its lines
abbrev pub form_of : ℕ → Format → TextFault → List ℕ → List TextLine → Option TextForm
form_of limit format fault bytes lines =
    or_else (form_of_bytes bytes) (form_of_lines limit format fault lines)
