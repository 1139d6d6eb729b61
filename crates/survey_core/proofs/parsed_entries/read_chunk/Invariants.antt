-- The invariant of the loop of `read_chunk`: `read` has the jobs and the faults of the first `place` entries.
use Rattle.std.proofs.Common.{take}
use Rattle.survey_core.specs.GuessSettings.{guess_settings}
use Rattle.survey_core.specs.steps.ParsedEntries.{IsParseOf}
use Rattle.survey_core.proofs.parsed_entries.read_chunk.Given as goal

abbrev pub invariant-loop-place : goal.invariant-loop-place
invariant-loop-place l = IsParseOf (guess_settings l.settings) l.first (take l.place l.entries) l.read
