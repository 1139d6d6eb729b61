-- `parse_words`: what the words give is what `clap` makes of them for the program with all commands.
use Rattle.std.proofs.Common.{ap, map, refl, string_bytes}
use Rattle.command_line.proofs.WordLemmas.{refused_by_clap, refused_without_request}
use Rattle.command_line.proofs.command.parse_words.Goals as goal

pub returns-in-Some-clause-given : goal.returns-in-Some-clause-given
returns-in-Some-clause-given c = (
  _,
  record { forms = _; formats = _; grades = _; picks = _; form_words = refl; format_words = c.words-formats.ensures; grade_words = refl; pick_words = refl; is = refl },
  rw (ap (map string_bytes) c.as_slice.ensures.value) at (rw c.in-Some.is at c.in_ok-request.ensures.parsed _ _ _ _ c.in_ok-program.ensures),
)

pub returns-clause-given : goal.returns-clause-given
returns-clause-given c =
    refused_without_request _ _ _
    (record { forms = _; formats = _; grades = _; picks = _; form_words = refl; format_words = c.words-formats.ensures; grade_words = refl; pick_words = refl; is = refl })
    (rw (ap (map string_bytes) c.as_slice.ensures.value) at (rw c.in-None.is at c.in_ok-request.ensures.parsed _ _ _ _ c.in_ok-program.ensures))

pub returns-in_err-request-clause-given : goal.returns-in_err-request-clause-given
returns-in_err-request-clause-given c =
    refused_by_clap _ _ _ _ _
    (record { forms = _; formats = _; grades = _; picks = _; form_words = refl; format_words = c.words-formats.ensures; grade_words = refl; pick_words = refl; is = refl })
    (ap (map string_bytes) c.as_slice.ensures.value) (c.in_err-request.ensures.parsed _ _ _ _ c.in_ok-program.ensures)
    c.from_residual-in_err-request.ensures.1
