-- Support masks: one mask for each colour, and what they contain once cells are added.
use Rattle.line_core.proofs.Names.{rules, ◌≡◌, ◌↔◌, ℕ, ◌+◌, ◌<◌, Bool, true, false, List, length, get_or, ◌⊎◌, cases_lt, get_or_read, SupportMasks, no_support, AreMasks, AreMore, HasColour}

-- what the masks contain, colour by colour
pub masks_are : (P : Bool → ℕ → Type 0) (m : SupportMasks) → AreMasks P m → (d : Bool) (k : ℕ) → HasColour m d k ↔ P d k
masks_are P m a true k = (a.fillable_is.to k, a.fillable_is.from k)
masks_are P m a false k = (a.blankable_is.to k, a.blankable_is.from k)

pub masks_of : (P : Bool → ℕ → Type 0) (m : SupportMasks) → ((d : Bool) (k : ℕ) → HasColour m d k ↔ P d k) → AreMasks P m
masks_of P m are = search rules

-- masks of `P` are masks of each equivalent `Q`
pub masks_same : (P Q : Bool → ℕ → Type 0) (m : SupportMasks) → AreMasks P m → ((d : Bool) (k : ℕ) → P d k ↔ Q d k) → AreMasks Q m
masks_same P Q m a same = masks_of Q m (λ d k. search (rules, masks_are P m a d k, same d k))

-- in `AreMore` a property may be replaced by an equivalent one
pub more_same : (P Q : Bool → ℕ → Type 0) (old new : SupportMasks) → AreMore P old new → ((d : Bool) (k : ℕ) → P d k ↔ Q d k)
    → AreMore Q old new
more_same P Q old new a same = masks_same _ _ new a (λ d k. search (rules, same d k))

-- adding `P` and then `Q` adds what satisfies either
pub more_more : (P Q : Bool → ℕ → Type 0) (old mid new : SupportMasks) → AreMore P old mid → AreMore Q mid new
    → AreMore (λ d k. P d k ⊎ Q d k) old new
more_more P Q old mid new a b = masks_same _ _ new b (λ d k. search (rules, masks_are _ mid a d k))

-- masks that are read from a table at an index are those of the table there
pub read_at : (table : List SupportMasks) (i p : ℕ) (read : SupportMasks) → i ≡ p → i < length table → read ≡ get_or table i read
    → read ≡ get_or table p no_support
read_at table i p read same there is = rw same at (get_or_read table i read there is no_support)

-- ---- properties of the first numbers

-- `P` holds of cell `k` and a colour for one of the first `count` numbers
abbrev pub Below : ℕ → (ℕ → Bool → ℕ → Type 0) → Bool → ℕ → Type 0
Below count P filled k = (j : ℕ) × (j < count) × P j filled k

pub one_below : (P : ℕ → Bool → ℕ → Type 0) (j : ℕ) (old new : SupportMasks) → AreMasks (Below j P) old → AreMore (P j) old new
    → AreMasks (Below (j + 1) P) new
one_below P j old new a b = search (rules, masks_same, masks_are, cases_lt)
