-- `with_record`: the writer has appended the record to the text.
use Rattle.std.proofs.Common.{◌≢◌, ◌∙◌}
use Rattle.std.proofs.lemmas.List.{append-nil}
use Rattle.csv.specs.declared.writer.QuoteStyle.TheVariants as style
use Rattle.survey_csv.proofs.records.with_record.Goals as goal

pub returns-in-Ok : goal.returns-in-Ok
returns-in-Ok c =
    let from = c.from_writer-writer.ensures in
    let plain : c.from_writer-writer.result.cfg.style ≢ style.NonNumeric = rw from.cfg (λ e. cc e) in
    let h = c.in_default.ensures.bytes from.fields from.wrote plain in
    let text = rw (from.cfg, from.wtr, from.empty, append-nil c.args.text.items) at h in
    c.in-Ok.ensures.ok ∙ text
