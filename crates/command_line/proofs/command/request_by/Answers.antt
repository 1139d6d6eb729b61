-- `request_by`: `clap` parses the words as its definition says for the program.
use Rattle.command_line.proofs.WordLemmas.{fault_parses, program_is_simple, request_parses}
use Rattle.command_line.proofs.command.request_by.Goals as goal

pub returns-in_err-matches-clause-parsed : goal.returns-in_err-matches-clause-parsed
returns-in_err-matches-clause-parsed c = λ forms formats grades picks command.
    fault_parses _ _ _ _ _ command (program_is_simple forms formats grades picks).1 c.in_err-matches.ensures.kinds c.from_residual.ensures.1

pub returns-clause-parsed : goal.returns-clause-parsed
returns-clause-parsed c = λ forms formats grades picks command.
    request_parses _ _ _ _ _ command (program_is_simple forms formats grades picks).0 c.in_ok-matches.ensures.ok.2 c.in_ok-request_in.ensures.asked
