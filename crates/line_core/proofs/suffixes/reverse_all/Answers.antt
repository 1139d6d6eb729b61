-- `reverse_all`: each turn reverses one more mask.
use Rattle.line_core.proofs.Names.{◌-◌, ◌∙◌, ◌<◌, length, get_or, map, ap, arith, length-set, map-set, length-map, Has, IsMaskOf, written_more, get_or-set_other, bits_at}
use Rattle.line_core.proofs.suffixes.reverse_all.Goals as goal

pub loop-i-preserved : goal.loop-i-preserved
loop-i-preserved g c =
    let bits = g.W.BitSet.stored_bits in
    let old = map bits c.args.masks.now in
    let masks = c.loop-i.masks in
    let i = c.loop-i.i in
    let before = c.loop-i.invariant in
    let there : i < length masks = omega (arith, before.size) in
    let e = ap bits c.index-masks-i.is ∙ bits_at bits masks i _ there ∙ before.left i (omega arith) in
    record {
      size = length-set masks i _ ∙ before.size;
      reversed = λ k h. rw map-set (written_more (λ k m. IsMaskOf (λ z. (z < c.args.len) × Has (get_or old k 0) (c.args.len - 1 - z)) m)
          (map bits masks) i _ (omega (arith, length-map masks bits)) (rw e at c.reverse_stored.ensures) before.reversed k h);
      left = λ k h. rw map-set (get_or-set_other (map bits masks) i k _ 0 (omega arith) ∙ before.left k (omega arith));
    }
