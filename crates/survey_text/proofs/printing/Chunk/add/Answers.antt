-- `Chunk::add`: the text of the entry is appended, and the entry is counted under its status and its grade.
use Rattle.std.proofs.Common.{◌≡◌, length, map, length-append, arith}
use Rattle.std.proofs.lemmas.List.{length-map, map_push}
use Rattle.survey_text.specs.Entries.{GradedEntry}
use Rattle.survey_text.specs.Forms.{without_text}
use Rattle.survey_text.specs.Listed.{form_entry}
use Rattle.survey_text.proofs.PrintedLemmas.{entries_in-push}
use Rattle.survey_text.proofs.TotalsLemmas.{count_push}
use Rattle.survey_text.proofs.printing.Chunk.add.Goals as goal

pub returns : goal.returns
returns g c = λ entries so_far.
    let entry = form_entry c.args.entry.now in
    let count : length (map without_text entries) ≡ length entries = length-map entries without_text in
    record {
      text = rw (
        c.in_ok-push_entry.ensures,
        entries_in-push (g.F.SurveyForm.form c.args.form.now) c.args.first entries entry,
        so_far.text,
        so_far.totals.all,
        count,
      );
      totals = rw (map_push without_text entries entry)
          (grind (arith, count_push, length-append {A = GradedEntry}, so_far.totals, c.count.ensures));
    }
