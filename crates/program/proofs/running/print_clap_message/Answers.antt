-- `print_clap_message`: a message for the output is help or the version, and the program ends by the result of printing it.
use Rattle.program.proofs.running.print_clap_message.Goals as goal

pub returns-clause-ends : goal.returns-clause-ends
returns-clause-ends g c = record {
  refused = λ no_help no_version. absurd (let bad = c.use_stderr.ensures.1 (no_help, no_version) in cc);
  shown = λ _. (
    c.print_display-done.ensures.answer.0,
    record {
      done = c.print_display-done.result;
      printed = c.print_display-done.ensures.answer.2;
      unwritten = c.print_display-done.ensures.write;
      ended = c.end_after.ensures;
    },
  );
}
