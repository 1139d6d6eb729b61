-- `joined_rows`: after each row, the rows so far are those before the line ends.
use Rattle.std.proofs.Common.{◌≡◌, ◌∙◌, ℕ, suc, ◌+◌, ◌-◌, ◌++◌, Bor, List, None, Some, ap, arith, drop, option_map, refl, sym, take}
use Rattle.std.proofs.lemmas.Iterator.Adapters.{option_map_id}
use Rattle.std.proofs.lemmas.List.{drop_min, take_min}
use Rattle.nonograde_c.specs.GivenCells.{after_line_end, joined_rows}
use Rattle.nonograde_c.proofs.GivenLemmas.{joined_end, joined_more, joined_next}
use Rattle.nonograde_c.proofs.given_cells.joined_rows.Goals as goal

pub loop-y-init : goal.loop-y-init
loop-y-init c =
    let all : c.args.height - 0 ≡ c.args.height = omega arith in
    ap (λ (rows : List ℕ). option_map (λ more. rows ++ more) (joined_rows c.args.width (c.args.height - 0) c.args.bytes.now))
    c.new-rows.ensures.items
    ∙ option_map_id (joined_rows c.args.width (c.args.height - 0) c.args.bytes.now)
    ∙ ap (λ (n : ℕ). joined_rows c.args.width n c.args.bytes.now) all

pub returns-in_default : goal.returns-in_default
returns-in_default c =
    let rest = c.loop-y.rest.now in
    let left : suc (c.args.height - (c.loop-y._y + 1)) ≡ c.args.height - c.loop-y._y = omega (arith, c.loop-y-test.true) in
    let is_next : None ≡ after_line_end (drop c.args.width rest) =
    ap (option_map (λ (below : Bor (List ℕ)). below.now)) (sym c.in_default.is)
    ∙ c.after_line_end.ensures
    ∙ ap after_line_end (c.split_at.ensures.back ∙ ap (λ (n : ℕ). drop n rest) c.min.ensures ∙ drop_min c.args.width rest) in
    joined_next c.loop-y.rows.items rest (take c.args.width rest) c.args.width (c.args.height - (c.loop-y._y + 1)) None refl is_next
    ∙ ap (λ (n : ℕ). option_map (λ more. c.loop-y.rows.items ++ more) (joined_rows c.args.width n rest)) left
    ∙ c.loop-y.invariant

pub loop-y-preserved : goal.loop-y-preserved
loop-y-preserved c =
    let rest = c.loop-y.rest.now in
    let n = c.args.height - (c.loop-y._y + 1) in
    let left : suc n ≡ c.args.height - c.loop-y._y = omega (arith, c.loop-y-test.true) in
    let is_row : c.split_at.result.0.now ≡ take c.args.width rest =
    c.split_at.ensures.front ∙ ap (λ (n : ℕ). take n rest) c.min.ensures ∙ take_min c.args.width rest in
    let is_next : Some c.in-Some.next.now ≡ after_line_end (drop c.args.width rest) =
    ap (option_map (λ (below : Bor (List ℕ)). below.now)) (sym c.in-Some.is)
    ∙ c.after_line_end.ensures
    ∙ ap after_line_end (c.split_at.ensures.back ∙ ap (λ (n : ℕ). drop n rest) c.min.ensures ∙ drop_min c.args.width rest) in
    ap (λ (rows : List ℕ). option_map (λ more. rows ++ more) (joined_rows c.args.width n c.in-Some.next.now))
    c.in_ok-extend_from_slice.ensures.items
    ∙ joined_next c.loop-y.rows.items rest c.split_at.result.0.now c.args.width n (Some c.in-Some.next.now) is_row is_next
    ∙ ap (λ (n : ℕ). option_map (λ more. c.loop-y.rows.items ++ more) (joined_rows c.args.width n rest)) left
    ∙ c.loop-y.invariant

pub returns-then-is_empty : goal.returns-then-is_empty
returns-then-is_empty c =
    joined_end c.loop-y.rows.items c.loop-y.rest.now c.args.width (c.args.height - c.loop-y._y) (omega (arith, c.loop-y-test.false))
    c.if-is_empty.ensures
    ∙ c.loop-y.invariant

pub returns-else-is_empty : goal.returns-else-is_empty
returns-else-is_empty c =
    joined_more c.loop-y.rows.items c.loop-y.rest.now c.args.width (c.args.height - c.loop-y._y) (omega (arith, c.loop-y-test.false))
    c.if-is_empty.ensures
    ∙ c.loop-y.invariant
