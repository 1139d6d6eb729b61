-- `check_all`: the results of the entries are those of the files, so what is found is all that is to be found of these.
use Rattle.std.proofs.Common.{map}
use Rattle.survey_core.specs.GuessSettings.{guess_settings}
use Rattle.check_core.specs.Files.{shown_file}
use Rattle.check_core.proofs.FoundLemmas.{results_of_files}
use Rattle.check_core.proofs.checking.check_all.Goals as goal

pub returns-clause-text : goal.returns-clause-text
returns-clause-text g c =
    let guesses = guess_settings c.args.settings.now in
    let graded = results_of_files guesses (map shown_file c.args.files.now) _ _ _ _ c.deref.ensures.value c.deref-2.ensures.value
    c.in_ok-entries.ensures.entries c.in_ok-results.ensures in
    rw (← c.in_ok-found.ensures.text guesses graded, ← c.in_ok-found.ensures.levels guesses graded, ← c.deref-3.ensures.value)
    c.in_ok-push_totals.ensures

pub returns-clause-worst : goal.returns-clause-worst
returns-clause-worst g c =
    let guesses = guess_settings c.args.settings.now in
    let graded = results_of_files guesses (map shown_file c.args.files.now) _ _ _ _ c.deref.ensures.value c.deref-2.ensures.value
    c.in_ok-entries.ensures.entries c.in_ok-results.ensures in
    rw (← c.in_ok-found.ensures.levels guesses graded, ← c.deref-4.ensures.value) c.worst_of-worst.ensures
