-- `push_entry`: what is printed of an answer, or of a fault, is what is found of the entry whose result it is.
use Rattle.std.proofs.Common.{List, ℕ}
use Rattle.grid_core.specs.declared.limits.TheConstants.{MAX_SIDE}
use Rattle.puzzle_text.specs.Collections.{Entry}
use Rattle.puzzle_text.specs.Formats.{read_entry}
use Rattle.check_core.proofs.FoundLemmas.{graded_findings, graded_level, refused_findings, refused_level, with_level, with_text, with_text_at_once}
use Rattle.check_core.proofs.found.push_entry.Goals as goal

-- the entry with this name and this text
abbrev entry : List ℕ → List ℕ → Entry
entry name body = record { name = name; body = body }

pub returns-in-Ok-clause-text : goal.returns-in-Ok-clause-text
returns-in-Ok-clause-text c = λ guesses is.
    with_text _ _ _ _ _
    (graded_findings c.args.options guesses c.args.name.now c.args.body.now (read_entry MAX_SIDE (entry c.args.name.now c.args.body.now))
    c.in-Ok.answer (rw c.in-Ok.is at is))
    c.push_graded.ensures.text

pub returns-in-Ok-clause-level : goal.returns-in-Ok-clause-level
returns-in-Ok-clause-level c = λ guesses is.
    with_level _ _ _
    (graded_level c.args.options guesses (read_entry MAX_SIDE (entry c.args.name.now c.args.body.now)) c.in-Ok.answer
    (rw c.in-Ok.is at is))
    c.push_graded.ensures.level

pub returns-in_ok-push_refused-in-Err-clause-text : goal.returns-in_ok-push_refused-in-Err-clause-text
returns-in_ok-push_refused-in-Err-clause-text c = λ guesses is.
    with_text_at_once _ _ _ _
    (refused_findings c.args.options guesses c.args.name.now c.args.body.now (read_entry MAX_SIDE (entry c.args.name.now c.args.body.now))
    c.in-Err.fault (rw c.in-Err.is at is))
    c.in_ok-push_refused-in-Err.ensures.text

pub returns-in_ok-push_refused-in-Err-clause-level : goal.returns-in_ok-push_refused-in-Err-clause-level
returns-in_ok-push_refused-in-Err-clause-level c = λ guesses is.
    refused_level c.args.options guesses (read_entry MAX_SIDE (entry c.args.name.now c.args.body.now)) c.in-Err.fault
    (rw c.in-Err.is at is)
