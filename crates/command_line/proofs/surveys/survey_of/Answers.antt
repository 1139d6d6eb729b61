-- `survey_of`: the settings, the format, the flags and the files are those of the command's values.
use Rattle.std.proofs.Common.{◌∙◌, codes, false, refl, sym, true}
use Rattle.clap.specs.Words.{found_of}
use Rattle.command_line.proofs.WordLemmas.{flag_of_entry, flag_of_text}
use Rattle.command_line.proofs.surveys.survey_of.Goals as goal

pub returns-clause-asked : goal.returns-clause-asked
returns-clause-asked c = (
  refl,
  record {
    settings = c.in-Some-settings_of.ensures.asked;
    format = sym c.format_of.ensures ∙ c.in-Some.is;
    show = rw c.in-Some-settings_of.ensures.show (flag_of_text _ _ c.is_show-show.ensures);
    shown = rw c.in-Some-settings_of.ensures.show c.if-not-goes_with.ensures;
    progress = (
      flag_of_entry (found_of c.args.matches.now) (codes "progress") (codes "true") _ true c.get_flag.ensures.value,
      flag_of_entry (found_of c.args.matches.now) (codes "progress") (codes "false") _ false c.get_flag.ensures.other,
    );
    files = c.in_ok-files_of.ensures;
  },
)
