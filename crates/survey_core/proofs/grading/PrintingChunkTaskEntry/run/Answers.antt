-- `run` of `Printing`: the entries listed are those of the chunk, surveyed.
use Rattle.std.proofs.Common.{rules, arith}
use Rattle.std.proofs.lemmas.Grind.{common_steps}
use Rattle.std.proofs.lemmas.Result.{IfOk-weaker}
use Rattle.survey_text.proofs.ListingLemmas.{few_answered}
use Rattle.survey_core.specs.GuessSettings.{guess_settings}
use Rattle.survey_core.proofs.ParsingLemmas.{chunk_surveyed}
use Rattle.survey_core.proofs.grading.PrintingChunkTaskEntry.run.Goals as goal

pub of-requires : goal.of-requires
of-requires g c =
    let few = few_answered c.args.entries.now c.split_at.result.1.now c.split_at-2.result.1.now in
    record { numbers = omega (arith, few, c.requires); few = omega (arith, few, c.requires) }

pub returns : goal.returns
returns g c =
    let printing = c.args.self.now in
    IfOk-weaker c.of.result _ _ (λ chunks listed are.
    rw (← chunk_surveyed (guess_settings printing.settings.now) printing.faults.now printing.answers.now c.args.first c.args.entries.now
    c.split_at.result.0.now c.split_at.result.1.now c.split_at-2.result.1.now listed.0 are
    (first_of (search rules, grind (arith, common_steps))) (first_of (search rules, grind (arith, common_steps)))
    (first_of (search rules, grind (arith, common_steps))) listed.1) listed.2) c.of.ensures
