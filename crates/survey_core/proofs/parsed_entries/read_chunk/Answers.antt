-- `read_chunk`: one more entry appends its job, if it is a puzzle, and its fault, or that it has none.
use Rattle.std.proofs.Common.{◌+◌, arith}
use Rattle.std.proofs.lemmas.List.{length-take}
use Rattle.survey_core.specs.GuessSettings.{guess_settings}
use Rattle.survey_core.proofs.ParsingLemmas.{faults-more, jobs_from-more, no_entry}
use Rattle.survey_core.proofs.parsed_entries.read_chunk.Goals as goal

pub loop-place-preserved : goal.loop-place-preserved
loop-place-preserved c =
    let entries = c.args.entries.now in
    let place = c.loop-place.place in
    let within = c.loop-place-test.true in
    let added = c.in_ok-add.ensures in
    let so_far = c.loop-place.invariant in
    record {
      jobs = rw (added.jobs, so_far.jobs, jobs_from-more (guess_settings c.args.settings.now) c.args.first entries place no_entry within);
      few = omega (arith, added.few, so_far.few, length-take place entries, length-take (place + 1) entries);
      faults = rw (added.faults, so_far.faults, faults-more entries place no_entry within);
    }
