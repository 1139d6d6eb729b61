-- A line with one more known cell than the line of a lookahead table, and what the table holds for it.
use Rattle.line_core.proofs.Names.{◌||◌, CellExtends, Extends, Has, ◌≢◌, ◌≤◌, get_or-map-range_with_len, has, has_true, map, range_with_len, deduced_cell, rules, false, true, ArePositive, ◌≡◌, ℕ, ◌<◌, ◌∙◌, Bool, inl, inr, List, None, Some, deduced, length, get_or, set, sym, arith, refl, ap, ext_get_or, length-set, Cell, Unknown, IsMaskOf}
use Rattle.std.proofs.lemmas.List.{get_or-set_same, get_or-set_other, get_or_default}
use Rattle.std.proofs.lemmas.Bool.{cases_eq}
use Rattle.grid_core.proofs.Changing.{same_cells}
use Rattle.grid_core.specs.Cells.{colour, is_known}
use Rattle.grid_core.specs.Lines.{IsChanged}
use Rattle.line_core.specs.Lookahead.{AreInert, SupportMasks, LookaheadMasks, Table, HasOneCellMore, IsTableOf, AreLookaheadsOf, coloured, masks_if, no_lookahead}
use Rattle.line_core.proofs.DeductionLaws.{Extends-at, deduced-above, length-Extends}
use Rattle.line_core.proofs.SupportLaws.{support-deduced}
use Rattle.line_core.specs.steps.Lookahead.{AreLookaheads}
use Rattle.line_core.specs.Support.{deduced_from}

-- if only cell `x` differs from another line, the line is the other one with that colour there
pub one_cell_more : (base line : List Cell) (x m : ℕ) (filled : Bool) → length line ≡ length base → IsMaskOf (IsChanged base line) m
    → IsMaskOf (λ i. i ≡ x) m → get_or line x Unknown ≡ colour filled → line ≡ coloured base x filled
one_cell_more base line x m filled long changed only at =
    ext_get_or Unknown line (set base x (colour filled)) (long ∙ sym (length-set base x (colour filled))) each
  where
    each : (i : ℕ) → i < length line → get_or line i Unknown ≡ get_or (set base x (colour filled)) i Unknown
    each i h = elim (cases_eq i x) [
      | inl e ↦ rw e (at ∙ sym (get_or-set_same base x (colour filled) Unknown (omega (arith, h, e, long))))
      | inr n ↦
          same_cells _ _ (λ d. n (only.to i (changed.from i (omega arith, d)))) ∙ sym (get_or-set_other base x i (colour filled) Unknown n)
    ]

-- a line has one more known cell than a table's line if only an unknown cell differs, and has a colour now
pub has_one_cell_more : (t u : Table) (base line : List Cell) (x m : ℕ) (filled : Bool) → u ≡ t → u.line ≡ Some base
    → length line ≡ length base
    → IsMaskOf (IsChanged base line) m → IsMaskOf (λ i. i ≡ x) m → get_or base x Unknown ≡ Unknown → get_or line x Unknown ≡ colour filled
    → HasOneCellMore t line
has_one_cell_more t u base line x m filled same is long changed only unknown known =
    let line_is = one_cell_more base line x m filled long changed only known in
    let inside = (changed.to x (only.from x refl)).0 in search rules

-- the table's support for the line with one more known cell determines what is deduced of that line
pub lookahead_as : (t u : Table) (clue : List ℕ) (base line : List Cell) (x m : ℕ) (filled : Bool) (lookahead : LookaheadMasks)
    (masks : SupportMasks)
    → IsTableOf clue t → u ≡ t → u.line ≡ Some base → get_or u.lookaheads x lookahead ≡ lookahead → x < length u.lookaheads
    → masks ≡ masks_if filled lookahead
    → length line ≡ length base → IsMaskOf (IsChanged base line) m → IsMaskOf (λ i. i ≡ x) m → get_or base x Unknown ≡ Unknown
    → get_or line x Unknown ≡ colour filled → deduced_from (length line) masks.fillable masks.blankable ≡ deduced line clue
lookahead_as t u clue base line x m filled lookahead masks table same is at inside given long changed only unknown known =
    let are_deduced = ((rw (sym same) at table).lookaheads base is).are_deduced x filled (changed.to x (only.from x refl)).0 unknown in
    ap (λ (n : ℕ). deduced_from n masks.fillable masks.blankable) long
    ∙ rw (given, one_cell_more base line x m filled long changed only known)
    (rw (get_or_default u.lookaheads x no_lookahead lookahead inside ∙ at) at are_deduced)

-- a cell with a colour is not unknown
colour_known : (filled : Bool) → colour filled ≡ Unknown → ⊥
colour_known filled e = search rules

-- only the cell that was given a colour differs
pub only_changed : (t u : Table) (base line : List Cell) (m : ℕ) → u ≡ t → u.line ≡ Some base → (one : HasOneCellMore t line)
    → IsMaskOf (IsChanged base line) m → IsMaskOf (λ i. i ≡ one.x) m
only_changed t u base line m same is one changed = (let b = base_is in record {
  to = λ i h. elim (cases_eq i one.x) [
    | inl e ↦ e
    | inr n ↦ absurd ((changed.to i h).1 (rw (one.line_is, b) (get_or-set_other one.base one.x i (colour one.filled) Unknown n)))
  ];
  from = λ i e. changed.from i (
    rw (e, b) one.inside,
    λ alike. colour_known one.filled
        (sym (get_or-set_same one.base one.x (colour one.filled) Unknown one.inside) ∙ (rw (e, one.line_is, b) at alike) ∙ one.unknown),
  );
})
  where
    base_is : base ≡ one.base
    base_is = (let e = ap (λ (t : Table). t.line) same ∙ one.base_is in cc)

-- a cell that is not known is unknown
pub not_known : (c : Cell) → false ≡ is_known c → c ≡ Unknown
not_known c h = search rules

-- a table without a line is correct for every clue
pub empty_table : (clue : List ℕ) (t : Table) → t.line ≡ None → IsTableOf clue t
empty_table clue t none = record { lookaheads = λ line is. cc; inert = λ line filled is. cc }

-- lookaheads of a line determine what is deduced of it with each colour at each unknown cell
pub lookaheads_are : (line : List Cell) (clue : List ℕ) (lookaheads : List LookaheadMasks) → ArePositive clue → 0 < length line
    → AreLookaheads line clue lookaheads → AreLookaheadsOf clue line lookaheads
lookaheads_are line clue lookaheads pos some is = record {
  are_deduced = λ x filled within unknown.
      let p = is x filled within unknown in
      let long = length-set line x (colour filled) in
      support-deduced (coloured line x filled) clue (length line) _ _ pos some long p.fillable_is p.blankable_is;
}

-- what is deduced with a colour at cell `x` is determined by the masks that are read from the lookahead there
pub lookahead_at : (line : List Cell) (clue : List ℕ) (filled : Bool) (lookaheads : List LookaheadMasks) (x i : ℕ)
    (lookahead : LookaheadMasks) (masks : SupportMasks)
    → AreLookaheadsOf clue line lookaheads → x < length line → get_or line x Unknown ≡ Unknown → i ≡ x
    → get_or lookaheads i lookahead ≡ lookahead
    → length line ≤ length lookaheads → masks ≡ masks_if filled lookahead
    → deduced_from (length line) masks.fillable masks.blankable ≡ deduced (coloured line x filled) clue
lookahead_at line clue filled lookaheads x i lookahead masks tell inside unknown same at long is =
    rw (is, sym (rw same at at)) (rw (get_or_default lookaheads x no_lookahead lookahead (omega (arith, inside, long))) at
    (tell.are_deduced x filled inside unknown))

-- a colour deduces nothing else if the support with it allows both colours at each other unknown cell
pub nothing_else : (line : List Cell) (clue : List ℕ) (x f b : ℕ) (filled : Bool)
    → deduced_from (length line) f b ≡ deduced (coloured line x filled) clue → (has f 0 || has b 0) ≡ true
    → ((i : ℕ) → i < length line → i ≢ x → get_or line i Unknown ≡ Unknown → Has f i × Has b i)
    → deduced (coloured line x filled) clue ≡ Some (coloured line x filled)
nothing_else line clue x f b filled given alive both = is ∙ ap (λ (cells : List Cell). Some cells) (ext_get_or Unknown _ _
    (sym (length-Extends _ _ above)) (λ i h. at i (rw (sym (length-Extends _ _ above), length-set line x (colour filled)) at h)))
  where
    all : List Cell
    all = map (λ i. deduced_cell (has f i) (has b i)) (range_with_len 0 (length line))

    is : deduced (coloured line x filled) clue ≡ Some all
    is = rw alive at (sym given)

    above : Extends (coloured line x filled) all
    above = rw is at (deduced-above (coloured line x filled) clue)

    known : (old new : Cell) → CellExtends old new → (old ≡ Unknown → new ≡ Unknown) → new ≡ old
    known old new more unknown = search rules

    at : (i : ℕ) → i < length line → get_or all i Unknown ≡ get_or (coloured line x filled) i Unknown
    at i h = known _ _ (Extends-at _ _ i above) (λ unknown. elim (cases_eq i x) [
      | inl same ↦ absurd (colour_known filled (sym (get_or-set_same line x (colour filled) Unknown (rw same at h)) ∙ rw same at unknown))
      | inr other ↦
          let two = both i h other (sym (get_or-set_other line x i (colour filled) Unknown other) ∙ unknown) in
          search (rules, get_or-map-range_with_len, has_true, two)
    ])

-- a table is correct that holds a line, its lookaheads and its inert cells
pub table_made : (clue : List ℕ) (line : List Cell) (lookaheads : List LookaheadMasks) (f b : ℕ) → AreLookaheadsOf clue line lookaheads
    → AreInert clue line true f → AreInert clue line false b
    → IsTableOf clue (record { line = Some line; lookaheads = lookaheads; inert_filled = f; inert_blank = b })
table_made clue line lookaheads f b tell filled blank = record {
  lookaheads = λ l is. let e : l ≡ line = cc in rw e tell;
  inert = λ l colour is. let e : l ≡ line = cc in rw e (search rules);
}
