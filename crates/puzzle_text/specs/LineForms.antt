-- What the lines of a refused text explain.
use Rattle.std.specs.Prelude.{ℕ, List, filter, Option, None}
use Rattle.puzzle_text.specs.declared.faults.TextFault.{TextFault}
use Rattle.puzzle_text.specs.declared.faults.TextFault.TheVariants.{BadCount}
use Rattle.puzzle_text.specs.declared.formats.Format.{Format}
use Rattle.puzzle_text.specs.declared.formats.Format.TheVariants.{Non, Mk, Nin}
use Rattle.puzzle_text.specs.declared.forms.TextForm.{TextForm}
use Rattle.puzzle_text.specs.KeywordForms.{form_of_keywords}
use Rattle.puzzle_text.specs.Keywords.{is_keyword_line}
use Rattle.puzzle_text.specs.Lines.{TextLine}
use Rattle.puzzle_text.specs.SecondPuzzles.{second_mk, second_nin}

-- the form by which the lines of a text in a format explain a fault, if they do
abbrev pub form_of_lines : ℕ → Format → TextFault → List TextLine → Option TextForm
form_of_lines limit Non fault lines = form_of_keywords fault (filter is_keyword_line lines)
form_of_lines limit Mk BadCount lines = second_mk limit lines
form_of_lines limit Nin BadCount lines = second_nin limit lines
form_of_lines limit format fault lines = None
