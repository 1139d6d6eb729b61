-- Deducing lines one at a time stays below the closure, and reaches it.
use Rattle.solve_core.proofs.Names.{◌≡◌, ◌⊎◌, inl, inr, List, [], ◌∷◌, map, Option, Some, subst, AllByRecursion, Cell, Extends, GridLine, deduce_line, round, closure, AtMost, AtMost-trans, Extends-refl}
use Rattle.solve_core.proofs.Order.{join_all-least, below_each}
use Rattle.solve_core.proofs.ClosureLaws.{closure-IsLeastClosed, deduce_line-monotone, round-above, same_at_most, round-above_each}

-- the line is one of a list
abbrev pub IsOneOf : GridLine → List GridLine → Type 0
IsOneOf line [] = ⊥
IsOneOf line (x ∷ lines) = (x ≡ line) ⊎ IsOneOf line lines

at_one : (P : Option (List Cell) → Type 0) (g : List Cell) (lines : List GridLine) (line : GridLine) →
    AllByRecursion P (map (deduce_line g) lines) → IsOneOf line lines → P (deduce_line g line)
at_one P g [] line h m = absurd m
at_one P g (x ∷ lines) line h (inl e) = subst (λ (l : GridLine). P (deduce_line g l)) e h.0
at_one P g (x ∷ lines) line h (inr m) = at_one P g lines line h.1 m

-- a line-closed grid stays unchanged when one of its lines is deduced
pub closed_line : (lines : List GridLine) (c : List Cell) (line : GridLine) → round lines c ≡ Some c → IsOneOf line lines →
    AtMost (deduce_line c line) (Some c)
closed_line lines c line e m = at_one (λ o. AtMost o (Some c)) c lines line (rw e at (round-above_each lines c)) m

-- whichever line is deduced next, the grid stays below the closure of the first grid
pub step_within : (lines : List GridLine) (first g : List Cell) (line : GridLine) → IsOneOf line lines →
    AtMost (Some g) (closure lines first) → AtMost (deduce_line g line) (closure lines first)
step_within lines first g line m h = below_each (deduce_line g line) (closure lines first) (λ c e.
    AtMost-trans (deduce_line g line) (deduce_line c line) (Some c) (deduce_line-monotone line g c (rw e at h))
    (closed_line lines c line ((closure-IsLeastClosed lines first).closed c e) m))

each_same : (g : List Cell) (lines : List GridLine) → AllByRecursion (λ line. deduce_line g line ≡ Some g) lines →
    AllByRecursion (λ o. AtMost o (Some g)) (map (deduce_line g) lines)
each_same g [] h = tt
each_same g (line ∷ lines) h = (rw (h.0) (Extends-refl g), each_same g lines h.1)

-- if no line of a grid between the first one and its closure deduces more, the grid is the closure
pub done_within : (lines : List GridLine) (first g : List Cell) → Extends first g → AtMost (Some g) (closure lines first) →
    AllByRecursion (λ line. deduce_line g line ≡ Some g) lines → closure lines first ≡ Some g
done_within lines first g h below each =
    let closed : round lines g ≡ Some g =
    same_at_most g (round lines g) (round-above lines g)
    (join_all-least g g (map (deduce_line g) lines) (Extends-refl g) (each_same g lines each)) in
    same_at_most g (closure lines first) below ((closure-IsLeastClosed lines first).least g closed h)
