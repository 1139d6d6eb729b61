-- The loop of `entry_line`: the members under the first keys are written.
use Rattle.std.proofs.Common.{drop}
use Rattle.survey_text.specs.Listed.{form_entry}
use Rattle.survey_json.specs.Entries.{object_of}
use Rattle.survey_json.proofs.LineLemmas.{IsWritten}
use Rattle.survey_json.proofs.entries.entry_line.Given as goal

abbrev pub invariant-loop-key : goal.invariant-loop-key
invariant-loop-key l = IsWritten l.line.items l.before (object_of l.number (form_entry l.entry)) (drop l.key-index l.key-items)
