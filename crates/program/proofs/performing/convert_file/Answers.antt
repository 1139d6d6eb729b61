-- `convert_file`: the answer was printed, or the file's text was refused.
use Rattle.program.proofs.PrintingLemmas.{conversion_printed, unconverted_of}
use Rattle.program.proofs.performing.convert_file.Goals as goal

pub returns-in_err-text-clause-answer : goal.returns-in_err-text-clause-answer
returns-in_err-text-clause-answer g c =
    unconverted_of c.args.format c.args.path.now c.as_bytes.result.now c.deref.result.now _ _ _ c.as_bytes.ensures.value
    c.in_err-text.ensures.answer
    c.from_residual-in_err-text.ensures.1

pub returns-clause-answer : goal.returns-clause-answer
returns-clause-answer g c =
    conversion_printed c.args.format c.args.path.now c.as_bytes.result.now c.deref.result.now c.in_ok-text.text.items c.deref-2.result.now
    c.print_text.result _ _
    c.as_bytes.ensures.value c.deref-2.ensures.value c.in_ok-text.ensures.answer
    c.print_text.ensures.ok c.print_text.ensures.front c.print_text.ensures.write
