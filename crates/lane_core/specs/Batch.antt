-- The parts of a batch lane that contracts speak of.
use Rattle.std.specs.Prelude.{◌≡◌, ℕ}
use Rattle.std.proofs.Common.{refl, ◌∙◌}
use Rattle.lane_core.specs.Lane.{FrontLists, BackLists}
use Rattle.lane_core.specs.Ends.{front_lists, back_lists, front_capacity, SameFront, SameBack, SameFront-refl, SameFront-trans, SameFront-capacity, SameBack-refl, SameBack-trans}
use Rattle.lane_core.specs.declared.batches.BatchLane.{BatchLane}

-- the messages sent and the answers received at the front of `lane`
abbrev pub batch_front : BatchLane → FrontLists
batch_front lane = front_lists lane.front

-- the messages taken, the answer held and the answers put at the back of `lane`
abbrev pub batch_back : BatchLane → BackLists
batch_back lane = back_lists lane.back

-- how many items each ring of `lane` holds
abbrev pub batch_capacity : BatchLane → ℕ
batch_capacity lane = front_capacity lane.front

-- `old` and `new` are the same lane
pub record SameEnds (old new : BatchLane) : Type 0 where
  pub front : SameFront old.front new.front
  pub back : SameBack old.back new.back

-- `old` and `new` are the same lane, and its worker did nothing in between
pub record SameWork (old new : BatchLane) : Type 0 where
  pub ends : SameEnds old new
  pub back : batch_back new ≡ batch_back old

pub SameWork-refl : (a : BatchLane) → SameWork a a
SameWork-refl a = record {
  ends = record { front = SameFront-refl a.front; back = SameBack-refl a.back };
  back = refl;
}

pub SameWork-trans : (a b c : BatchLane) → SameWork a b → SameWork b c → SameWork a c
SameWork-trans a b c h k = record {
  ends = record {
    front = SameFront-trans _ _ _ h.ends.front k.ends.front;
    back = SameBack-trans _ _ _ h.ends.back k.ends.back;
  };
  back = k.back ∙ h.back;
}

pub SameWork-capacity : (a b : BatchLane) → SameWork a b → batch_capacity b ≡ batch_capacity a
SameWork-capacity a b h = SameFront-capacity _ _ h.ends.front
