-- `unknown_line_support`: each cell but the overlaps can be blank, and each cell can be filled if some run can move.
use Rattle.line_core.proofs.Names.{true, false, rules, ◌≡◌, ◌+◌, ◌-◌, ◌<◌, ◌⊎◌, length, replicate, arith, sym, true≢false, eqb-true, eqb-false, eq-eqb, length-replicate, recursion_from_All, Unknown, needed, ArePositive}
use Rattle.line_core.proofs.Packing.{unknown_any, unfit, blankable_is, all_fillable, overlaps_fillable}
use Rattle.line_core.proofs.overlaps.unknown_line_support.Goals as goal
use Rattle.line_core.proofs.overlaps.unknown_line_support.Goals.{then-is_empty, else-is_empty, then-slack-eq0, else-slack-eq0}

pub returns-then-len-needed-clause-filled : goal.returns-then-len-needed-clause-filled
returns-then-len-needed-clause-filled g c =
    search (rules, length-replicate, unfit (replicate c.args.len Unknown) _ (recursion_from_All _ _ c.requires.clue.positive) true)

pub returns-then-len-needed-clause-blank : goal.returns-then-len-needed-clause-blank
returns-then-len-needed-clause-blank g c =
    search (rules, length-replicate, unfit (replicate c.args.len Unknown) _ (recursion_from_All _ _ c.requires.clue.positive) false)

pub returns-clause-filled : goal.returns-clause-filled
returns-clause-filled g c =
    let len = c.args.len in
    let line = replicate len Unknown in
    let clue = c.args.clue.now in
    let long = length-replicate len Unknown in
    let slack = len + 1 - c.cells_needed-needed.result in
    let pos : ArePositive clue = recursion_from_All _ clue c.requires.clue.positive in
    let fits : needed clue + slack ≡ length line + 1 = omega (arith, c.cells_needed-needed.ensures) in
    elim c.if-is_empty.branch [
      | then-is_empty w ↦
          (let still : (slack ≡ 0) ⊎ (length clue ≡ 0) =
          elim c.if-slack-eq0.branch [ then-slack-eq0 v ↦ search rules | else-slack-eq0 v ↦ search (rules, eqb-true) ] in
          rw w.fillable-is (overlaps_fillable line clue slack (unknown_any len) pos fits _ still c.overlaps-overlap.ensures))
      | else-is_empty w ↦
          (let moves : (0 < slack) × (0 < length clue) =
          elim c.if-slack-eq0.branch [
            | then-slack-eq0 v ↦ search (rules, true≢false, eq-eqb)
            | else-slack-eq0 v ↦ search (rules, eqb-false)
          ] in
          rw w.fillable-is (all_fillable line clue slack (unknown_any len) pos fits _ moves.0 moves.1
          (rw (sym long) at c.prefix-line.ensures)))
    ]

pub returns-clause-blank : goal.returns-clause-blank
returns-clause-blank g c =
    let cells = rw (sym (length-replicate c.args.len Unknown)) at c.prefix-line.ensures in
    blankable_is (replicate c.args.len Unknown) c.args.clue.now (c.args.len + 1 - c.cells_needed-needed.result) (unknown_any c.args.len)
    (recursion_from_All _ _ c.requires.clue.positive) (omega (arith, c.cells_needed-needed.ensures, length-replicate c.args.len Unknown))
    _ _ _ c.overlaps-overlap.ensures cells c.difference.ensures
