-- `only_index`: a set of a single index is empty without its first index.
use Rattle.line_core.proofs.Names.{refl, sym, ◌∙◌, inl, inr, none_has, none_in, eqb-true, rules}
use Rattle.line_core.proofs.lookahead_tables.only_index.Goals as goal

pub returns-then-is_empty-clause-found : goal.returns-then-is_empty-clause-found
returns-then-is_empty-clause-found g c = λ x only none.
    none_has _ x (eqb-true _ 0 (sym c.is_empty.ensures ∙ c.if-is_empty.true)) (only.from x refl)

pub returns-else-is_empty-2-clause-found : goal.returns-else-is_empty-2-clause-found
returns-else-is_empty-2-clause-found g c = λ x only none.
    let empty = none_in _ _ c.with_bit.ensures (λ i h. elim h [
      | inl other ↦ other.1 (only.to i other.0 ∙ sym (only.to _ c.first_index-index.ensures.in_mask))
      | inr own ↦ (let wrong = own.1 in cc)
    ]) in
    search (rules, empty)
