-- `check_of`: the settings, the grade, the flags and the files are those of the command's values.
use Rattle.std.proofs.Common.{codes, false, refl, true}
use Rattle.clap.specs.Words.{found_of}
use Rattle.command_line.proofs.WordLemmas.{flag_of_entry}
use Rattle.command_line.proofs.checks.check_of.Goals as goal

pub returns-clause-asked : goal.returns-clause-asked
returns-clause-asked c = (
  refl,
  record {
    settings = c.in-Some.ensures.asked;
    grade = c.grade_of.ensures;
    all = (
      flag_of_entry (found_of c.args.matches.now) (codes "all") (codes "true") _ true c.get_flag.ensures.value,
      flag_of_entry (found_of c.args.matches.now) (codes "all") (codes "false") _ false c.get_flag.ensures.other,
    );
    strict = (
      flag_of_entry (found_of c.args.matches.now) (codes "strict") (codes "true") _ true c.get_flag-2.ensures.value,
      flag_of_entry (found_of c.args.matches.now) (codes "strict") (codes "false") _ false c.get_flag-2.ensures.other,
    );
    progress = (
      flag_of_entry (found_of c.args.matches.now) (codes "progress") (codes "true") _ true c.get_flag-3.ensures.value,
      flag_of_entry (found_of c.args.matches.now) (codes "progress") (codes "false") _ false c.get_flag-3.ensures.other,
    );
    files = c.in_ok-files_of.ensures;
  },
)
