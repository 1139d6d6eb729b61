-- `grade_once`: the answers collected are those to the puzzles that were read.
use Rattle.survey_core.specs.GuessSettings.{guess_settings}
use Rattle.survey_core.specs.Results.{parsed_all}
use Rattle.survey_core.proofs.ParsingLemmas.{are_graded}
use Rattle.survey_core.proofs.grading.grade_once.Goals as goal

pub returns : goal.returns
returns g c =
    let read = c.in_ok-jobs.ensures in
    record {
      faults = read.faults;
      answers = are_graded (guess_settings c.args.settings.now) 1 (parsed_all c.args.entries.now) _ _ read.jobs
          c.in_ok-answers.ensures.answers;
    }
