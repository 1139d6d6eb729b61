-- `solve_text`: the text printed of the answer to the job is that of its puzzle.
use Rattle.reports.proofs.FoundLemmas.{answer_printed}
use Rattle.reports.proofs.reports.solve_text.Goals as goal

pub returns : goal.returns
returns c = answer_printed c.args.name.now c.args.puzzle c.args.guesses c.args.pick _ _ c.print_graded.result c.new.ensures.puzzle
    c.new.ensures.guesses c.new.ensures.pick c.grade-answer.ensures c.print_graded.ensures.text c.print_graded.ensures.report
