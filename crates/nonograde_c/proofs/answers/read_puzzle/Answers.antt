-- `read_puzzle`: the format with the number is the one whose reader is called.
use Rattle.std.proofs.Common.{◌≡◌, ◌≢◌, ◌∙◌, Option, Some, Ok, Err, ap, sym, subst}
use Rattle.puzzle_text.specs.declared.faults.TextFault.{TextFault}
use Rattle.puzzle_text.specs.declared.formats.Format.{Format}
use Rattle.nonograde_c.specs.Calls.{format_from_number, no_memory, of_reader, read_in}
use Rattle.nonograde_c.specs.declared.faults.Fault.TheVariants.{Text}
use Rattle.nonograde_c.proofs.answers.read_puzzle.Goals as goal

pub returns-in-Ok-clause-answer : goal.returns-in-Ok-clause-answer
returns-in-Ok-clause-answer c =
    let numbered : Some c.in-Some.format ≡ format_from_number c.args.format = sym c.in-Some.is ∙ c.format_from_number.ensures in
    subst (λ (o : Option Format). read_in o c.args.text.now ≡ Ok c.in-Ok.puzzle) numbered (ap of_reader c.in-Ok.ensures.answer)

pub returns-in-Err-clause-answer : goal.returns-in-Err-clause-answer
returns-in-Err-clause-answer c =
    let numbered : Some c.in-Some.format ≡ format_from_number c.args.format = sym c.in-Some.is ∙ c.format_from_number.ensures in
    subst (λ (o : Option Format). Text c.in-Err.fault ≢ no_memory → read_in o c.args.text.now ≡ Err (Text c.in-Err.fault)) numbered
    (λ differs. ap of_reader (c.in-Err.ensures.answer (λ e. differs (ap (λ (fault : TextFault). Text fault) e))))
