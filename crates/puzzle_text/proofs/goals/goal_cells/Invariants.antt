-- The loop of `goal_cells`: the cells so far, followed by those of the bytes to come, are those of the text.
use Rattle.puzzle_text.proofs.Names.{◌≡◌, None, cond, drop, vec_len, each_some, cell_of, some_with_front}
use Rattle.puzzle_text.proofs.goals.goal_cells.Given as goal

abbrev pub invariant-loop-byte : goal.invariant-loop-byte
invariant-loop-byte l = record {
  count : vec_len l.cells ≡ l.byte-index;
  so_far : cond l.all (some_with_front l.cells.items (each_some cell_of (drop l.byte-index l.text))) None ≡ each_some cell_of l.text;
}
