-- `survey_files`: the survey of the entries is that of the files.
use Rattle.std.proofs.Common.{◌∙◌, Vec, ℕ, ap, length, map, string_bytes, sym}
use Rattle.std.specs.declared.alloc.Global.{Global}
use Rattle.std.proofs.lemmas.List.{length-map}
use Rattle.puzzle_text.specs.Shown.{shown_entry}
use Rattle.program.specs.Forms.{form_in}
use Rattle.program.proofs.PrintingLemmas.{files_left, files_written}
use Rattle.program.proofs.performing.survey_files.Goals as goal

pub returns-in-Ok-clause-answer : goal.returns-in-Ok-clause-answer
returns-in-Ok-clause-answer g c =
    files_written (form_in c.args.form.now) c.args.settings.now (map string_bytes c.args.paths.now) (map (λ (body : Vec ℕ Global). body.items) c.deref.result.now)
    (map shown_entry c.deref-2.result.now) _ _
    (length-map _ _ ∙ ap length c.deref.ensures.value ∙ c.in_ok-bodies.ensures.each ∙ sym (length-map _ _))
    (ap (map shown_entry) c.deref-2.ensures.value ∙ c.in_ok-entries.ensures) c.in-Ok.ensures.answer

pub returns-clause-answer : goal.returns-clause-answer
returns-clause-answer g c =
    files_left (form_in c.args.form.now) c.args.settings.now (map string_bytes c.args.paths.now) (map (λ (body : Vec ℕ Global). body.items) c.deref.result.now)
    (map shown_entry c.deref-2.result.now) _ _ _
    (length-map _ _ ∙ ap length c.deref.ensures.value ∙ c.in_ok-bodies.ensures.each ∙ sym (length-map _ _))
    (ap (map shown_entry) c.deref-2.ensures.value ∙ c.in_ok-entries.ensures) c.in-Err.ensures.answer
