-- What is wrong with a refused text, as it is printed.
use Rattle.std.specs.Prelude.{ℕ, List, ◌++◌, codes, Option, Some, None}
use Rattle.std.specs.Option.{option_map_or}
use Rattle.grid_core.specs.declared.limits.TheConstants.{MAX_SIDE}
use Rattle.puzzle_text.specs.declared.counts.TextCounts.{TextCounts}
use Rattle.puzzle_text.specs.declared.faults.EntryFault.{EntryFault}
use Rattle.puzzle_text.specs.declared.faults.EntryFault.TheVariants.{UnknownFormat, Text}
use Rattle.puzzle_text.specs.declared.faults.TextFault.{TextFault}
use Rattle.puzzle_text.specs.declared.formats.Format.{Format}
use Rattle.puzzle_text.specs.declared.forms.TextForm.{TextForm}
use Rattle.puzzle_text.specs.Counts.{counts_of}
use Rattle.puzzle_text.specs.Diagnosis.{form_of, line_number, named_line, readable_lines}
use Rattle.puzzle_text.specs.Formats.{format_of}
use Rattle.check_text.specs.declared.heads.Level.TheVariants.{Error}
use Rattle.check_text.specs.Heads.{head}
use Rattle.check_text.specs.TextFaults.{fault_sentence}
use Rattle.check_text.specs.TextForms.{form_line, form_sentence}

-- an error in the text of the file `name`: the line of the text, if it is about one, and a sentence
abbrev pub text_error : List ℕ → Option ℕ → List ℕ → List ℕ
text_error name line sentence = head name line Error ++ sentence ++ codes "\n"

-- that a name has no known ending
abbrev pub unknown_format_sentence : List ℕ
unknown_format_sentence = codes "the name has no known ending (.non, .mk or .nin)"

-- the finding on a text whose name has no known ending
abbrev pub unknown_format : List ℕ → List ℕ
unknown_format name = text_error name None unknown_format_sentence

-- the finding on the form of a text
abbrev pub form_finding : List ℕ → TextForm → List ℕ
form_finding name form = text_error name (Some (form_line form)) (form_sentence form)

-- the finding on the fault of a text in a format, with the line that the fault names, and what
-- there is a wrong number of
abbrev pub fault_finding : List ℕ → Format → TextFault → Option (List ℕ) → Option TextCounts → List ℕ
fault_finding name format fault line counts =
    text_error name (line_number fault) (fault_sentence format fault line counts)

-- the finding on a text that the reader of a format refused: on the form that explains the fault,
-- if one is recognized, and otherwise on the fault
abbrev pub text_finding : List ℕ → Format → List ℕ → TextFault → List ℕ
text_finding name format body fault =
    let lines = readable_lines body in
    option_map_or (λ form. form_finding name form) (form_of MAX_SIDE format fault body lines)
    (fault_finding name format fault (named_line fault lines)
    (counts_of MAX_SIDE format fault lines))

-- what is wrong with the text `body` of the file `name`, which was refused for a fault
abbrev pub refused_text : List ℕ → List ℕ → EntryFault → List ℕ
refused_text name body UnknownFormat = unknown_format name
refused_text name body (Text fault) =
    option_map_or (λ format. text_finding name format body fault) (format_of name)
    (unknown_format name)
