-- `Fault::recall_length`: a word has 9 letters at most before a number, which has 10 digits at most.
use Rattle.std.proofs.Common.{◌≡◌, ◌∙◌, ◌<◌, ◌^◌, ℕ, Option, Some, None, sym, subst}
use Rattle.std.specs.Prelude.{IfSome}
use Rattle.nonograde_c.specs.Calls.{line_of}
use Rattle.nonograde_c.proofs.LengthLemmas.{fault_word-le}
use Rattle.nonograde_c.proofs.faults.Fault.recall_length.Goals as goal

pub returns-in-Some : goal.returns-in-Some
returns-in-Some c =
    let line : Some c.in-Some.number ≡ line_of c.args.self = sym c.in-Some.is ∙ c.line.ensures in
    fault_word-le c.args.self (subst (λ (o : Option ℕ). IfSome o (λ number. number < 2 ^ 32)) line c.recall_range.ensures)

pub returns-in-None : goal.returns-in-None
returns-in-None c =
    let line : None ≡ line_of c.args.self = sym c.in-None.is ∙ c.line.ensures in
    fault_word-le c.args.self (subst (λ (o : Option ℕ). IfSome o (λ number. number < 2 ^ 32)) line tt)
