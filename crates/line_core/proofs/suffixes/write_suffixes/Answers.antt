-- `write_suffixes`: the sets of the mirrored line, mirrored back, are the suffix sets.
use Rattle.line_core.proofs.Names.{◌≡◌, ◌+◌, ◌∙◌, ◌++◌, length, map, take, drop, get_or, sym, arith, length-map, get_or_append_left, get_or-take, map-append, take-map}
use Rattle.line_core.proofs.Composing.{suffixes_of}
use Rattle.line_core.proofs.suffixes.write_suffixes.Goals as goal

pub returns : goal.returns
returns g c =
    let bits = g.W.BitSet.stored_bits in
    let clue = c.args.clue.now in
    let sets = c.write_reversed_suffixes.new.suffixes in
    let reversed = c.reverse_all.new.masks in
    let first = take (length clue + 1) sets in
    let rest = drop (length clue + 1) sets in
    let same = sym (length-map reversed bits) ∙ c.reverse_all.ensures.0 ∙ length-map first bits in
    let domain = c.requires.1.1.1.0 in
    suffixes_of g.line clue _ _ (map bits sets) _ (sym domain.len_is) (omega (arith, domain.len_is, domain.short))
    c.write_reversed_suffixes.ensures.suffixes (λ p h.
    let old : get_or (map bits first) p 0 ≡ get_or (map bits sets) p 0 =
    rw (sym (take-map bits (length clue + 1) sets)) (get_or-take (length clue + 1) (map bits sets) p 0 (omega arith)) in
    let new : get_or (map bits reversed) p 0 ≡ get_or (map bits (reversed ++ rest)) p 0 =
    rw map-append (sym (get_or_append_left (map bits reversed) (map bits rest) 0 p
    (omega (arith, length-map reversed bits, same)))) in
    rw (old, new) at (c.reverse_all.ensures.1 p (omega (arith, length-map first bits))))
