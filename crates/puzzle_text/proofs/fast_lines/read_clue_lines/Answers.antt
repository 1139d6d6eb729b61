-- `read_clue_lines`: one more line is read as one more clue.
use Rattle.puzzle_text.proofs.Names.{ap, arith, length, rules, length-append}
use Rattle.puzzle_text.proofs.FastLines.{one_parsed}
use Rattle.puzzle_text.proofs.fast_lines.read_clue_lines.Goals as goal

pub lines-preserved : goal.lines-preserved
lines-preserved c = record {
  parsed =
      one_parsed c.args.text.now c.lines.rest.now c.in_ok-rest.rest.now _ _ _ c.lines.invariant.parsed c.in_ok-rest.ensures.clue
      c.push_reserved.ensures.items;
  capacity = search rules;
  within = omega (arith, ap length c.push_reserved.ensures.items, length-append c.lines.clues.items, c.in_ok-rest.ensures.shorter);
}
