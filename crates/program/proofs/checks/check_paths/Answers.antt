-- `check_paths`: the files that are checked are those that are named, with the bodies that were read.
use Rattle.std.proofs.Common.{◌∙◌, ap, length, map}
use Rattle.std.proofs.lemmas.List.{length-map}
use Rattle.check_core.specs.Files.{shown_file}
use Rattle.program.specs.Checking.{shown_bytes}
use Rattle.program.proofs.CheckingLemmas.{files_unchecked}
use Rattle.program.proofs.checks.check_paths.Goals as goal

pub returns-clause-answer : goal.returns-clause-answer
returns-clause-answer g c =
    files_unchecked c.args.check.now (map shown_bytes c.in_ok-bodies.bodies.items) (map shown_file c.deref-4.result.now) _ _ _
    (length-map _ _ ∙ c.in_ok-bodies.ensures ∙ ap length c.deref.ensures.value)
    (ap (map shown_file) c.deref-4.ensures.value ∙ (rw (c.deref-2.ensures.value, c.deref-3.ensures.value) at c.in_ok-files.ensures))
    c.in-Err.ensures.answer
