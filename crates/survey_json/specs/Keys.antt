-- The keys of an entry's object, and what stands under them.
use Rattle.std.specs.Prelude.{ℕ, List, codes, unwrap_or}
use Rattle.serde_json.specs.Data.{Data, null}
use Rattle.serde_json.specs.Find.{get}
use Rattle.survey_json.specs.declared.keys.GradedKey.TheVariants.{By, Catalogue, Columns, Copyright, Differing, Goal, GoalRows, Grade, Guesses, Height, License, LineCells, Misfits, Rows, Solutions, Sums, Title, TrialCells, Verdict, Width}
use Rattle.survey_json.specs.declared.keys.Key.{Key}
use Rattle.survey_json.specs.declared.keys.Key.TheVariants.{Fault, FaultLine, Message, Name, Number, Graded}

-- the word for a key
abbrev pub key_word : Key → List ℕ
key_word (Graded By) = codes "by"
key_word (Graded Catalogue) = codes "catalogue"
key_word (Graded Columns) = codes "columns"
key_word (Graded Copyright) = codes "copyright"
key_word (Graded Differing) = codes "differing"
key_word Fault = codes "fault"
key_word FaultLine = codes "fault_line"
key_word (Graded Goal) = codes "goal"
key_word (Graded GoalRows) = codes "goal_rows"
key_word (Graded Grade) = codes "grade"
key_word (Graded Guesses) = codes "guesses"
key_word (Graded Height) = codes "height"
key_word (Graded License) = codes "license"
key_word (Graded LineCells) = codes "line_cells"
key_word Message = codes "message"
key_word (Graded Misfits) = codes "misfits"
key_word Name = codes "name"
key_word Number = codes "number"
key_word (Graded Rows) = codes "rows"
key_word (Graded Solutions) = codes "solutions"
key_word (Graded Sums) = codes "sums"
key_word (Graded Title) = codes "title"
key_word (Graded TrialCells) = codes "trial_cells"
key_word (Graded Verdict) = codes "verdict"
key_word (Graded Width) = codes "width"

-- what the object `d` has under a key; null if it has nothing there
abbrev pub value_under : Data → Key → Data
value_under d key = unwrap_or (get (key_word key) d) null
