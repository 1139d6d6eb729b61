-- `both` of `Reading`: the results of reading two chunks, appended, are the result of reading both.
use Rattle.std.proofs.Common.{◌≡◌, ◌+◌, length, arith}
use Rattle.std.proofs.lemmas.List.{length-append, map-append}
use Rattle.survey_core.specs.GuessSettings.{guess_settings}
use Rattle.survey_core.specs.steps.ParsedEntries.{shown_job}
use Rattle.survey_core.proofs.ParsingLemmas.{faults-append, jobs_from-append}
use Rattle.survey_core.proofs.parsed_entries.EntryParserChunkTaskEntry.merge.Goals as goal

pub returns : goal.returns
returns c = λ first xs ys front behind.
    let guesses = guess_settings c.args.self.now.settings.now in
    let number : first + 1 + length xs ≡ first + length xs + 1 = omega arith in
    let added = c.in_ok-append.ensures in
    record {
      jobs = rw (
        added.jobs,
        map-append shown_job c.args.front.jobs.items c.args.behind.jobs.items,
        jobs_from-append guesses (first + 1) xs ys,
        number,
        front.jobs,
        behind.jobs,
      );
      few = omega (arith, front.few, behind.few, added.few, length-append xs ys);
      faults = rw (added.faults, faults-append xs ys, front.faults, behind.faults);
    }
