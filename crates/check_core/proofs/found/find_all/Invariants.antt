-- The invariant of the loop of `find_all`: what was found so far, followed by what is found of the files left, is all.
use Rattle.std.proofs.Common.{length, map}
use Rattle.grid_core.specs.declared.limits.TheConstants.{MAX_SIDE}
use Rattle.puzzle_text.specs.Formats.{read_entry}
use Rattle.survey_text.specs.Survey.{GuessSettings}
use Rattle.survey_core.specs.Results.{AreResultsOf}
use Rattle.check_core.specs.Files.{readable, shown_file}
use Rattle.check_core.proofs.FoundLemmas.{IsFoundPart}
use Rattle.check_core.proofs.found.find_all.Given as goal

abbrev pub invariant-loop-files : goal.invariant-loop-files
invariant-loop-files l = (guesses : GuessSettings)
    → AreResultsOf guesses (map (read_entry MAX_SIDE) (readable (map shown_file l.fn.files))) l.fn.results
    → IsFoundPart l.options guesses (map shown_file l.fn.files) (map shown_file l.files) l.results l.found

abbrev pub decreases-loop-files : goal.decreases-loop-files
decreases-loop-files l = length l.files
