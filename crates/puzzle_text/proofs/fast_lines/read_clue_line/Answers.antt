-- `read_clue_line`: a number, and then a separator or the end of the line; or a single 0.
use Rattle.puzzle_text.proofs.Names.{◌≡◌, [], ◌∷◌, ◌++◌, ◌∙◌, ap, arith, inl, length, rules, length_push, nil_from_length, IfSome_then}
use Rattle.puzzle_text.proofs.FastLines.{clue_ends, headed, number_and_more, zero_ends}
use Rattle.puzzle_text.proofs.fast_lines.read_clue_line.Goals as goal

pub returns-then-end-eq10-clause-clue : goal.returns-then-end-eq10-clause-clue
returns-then-end-eq10-clause-clue c =
    clue_ends _ _ (c.in-Some.end ∷ c.in-Some.after.now) c.in-Some.after.now _ c.push.new.self _ c.numbers.invariant.parsed
    c.in-Some.ensures.number (inl (search rules)) (search rules) (search rules)

pub returns-in_default-after-clause-clue : goal.returns-in_default-after-clause-clue
returns-in_default-after-clause-clue c =
    IfSome_then c.after_line_end.result c.after_line_end.ensures.ends
    (λ _ ends. clue_ends _ _ _ _ _ _ _ c.numbers.invariant.parsed c.in-Some.ensures.number ends (search rules) (search rules))

pub numbers-preserved : goal.numbers-preserved
numbers-preserved c =
    let pushed : c.push.new.self ≡ c.numbers.clue ++ c.in-Some.number ∷ [] = search rules in
    record {
      parsed = number_and_more _ _ _ _ _ _ _ c.numbers.invariant.parsed c.in-Some.ensures.number (search rules) pushed;
      start = λ none. absurd (omega (arith, ap length pushed, ap length none, length_push c.numbers.clue c.in-Some.number));
      within = omega (arith, c.in-Some.ensures.shorter, c.numbers.invariant.within);
    }

pub returns-in-48-clause-clue : goal.returns-in-48-clause-clue
returns-in-48-clause-clue c =
    let none = nil_from_length c.numbers.clue (search rules) in
    let whole = c.numbers.invariant.start none ∙ headed c.numbers.rest.now 48 c.in-48.len_at_least (search rules) in
    IfSome_then c.after_line_end-in-48.result c.after_line_end-in-48.ensures.ends
    (λ below ends. zero_ends c.args.text.now _ below.now _ whole ends none)
