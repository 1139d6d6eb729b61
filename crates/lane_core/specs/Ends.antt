-- The parts of a lane's two ends that contracts speak of, and when two ends are of one lane.
use Rattle.std.specs.Prelude.{◌≡◌, ℕ, List}
use Rattle.lane_core.specs.declared.messages.Message.{Message}
use Rattle.std.proofs.Common.{refl, ◌∙◌}
use Rattle.rtrb.specs.Ring.{sent, received, producer_capacity, known_items, IsPair, SameProducer, SameConsumer}
use Rattle.lane_core.specs.Lane.{FrontLists, BackLists}
use Rattle.lane_core.specs.declared.fronts.LaneFront.{LaneFront}
use Rattle.lane_core.specs.declared.backs.LaneBack.{LaneBack}

-- the messages sent and the answers received at `front`
abbrev pub front_lists : LaneFront → FrontLists
front_lists front = record { sent = sent front.messages; received = received front.answers }

-- the messages taken, the answer held and the answers put at `back`
abbrev pub back_lists : LaneBack → BackLists
back_lists back = record {
  taken = received back.messages;
  held = back.held;
  put = sent back.answers;
}

-- the messages that `back` has seen and not taken
abbrev pub known_messages : LaneBack → List Message
known_messages back = known_items back.messages

-- how many items each ring of the lane of `front` holds
abbrev pub front_capacity : LaneFront → ℕ
front_capacity front = producer_capacity front.messages

-- how many items each ring of the lane of `back` holds
abbrev pub back_capacity : LaneBack → ℕ
back_capacity back = producer_capacity back.answers

-- `front` and `back` are the two ends of one lane
pub record AreOneLane (front : LaneFront) (back : LaneBack) : Type 0 where
  pub messages : IsPair front.messages back.messages
  pub answers : IsPair back.answers front.answers
  pub capacity : back_capacity back ≡ front_capacity front

-- `old` and `new` are fronts of the same lane
pub record SameFront (old new : LaneFront) : Type 0 where
  pub messages : SameProducer old.messages new.messages
  pub answers : SameConsumer old.answers new.answers

-- `old` and `new` are backs of the same lane
pub record SameBack (old new : LaneBack) : Type 0 where
  pub messages : SameConsumer old.messages new.messages
  pub answers : SameProducer old.answers new.answers

pub SameFront-refl : (a : LaneFront) → SameFront a a
SameFront-refl a = record {
  messages = ((refl, refl, refl, refl), refl);
  answers = ((refl, refl, refl, refl), refl);
}

pub SameFront-trans : (a b c : LaneFront) → SameFront a b → SameFront b c → SameFront a c
SameFront-trans a b c h k = record {
  messages = (
    (
      k.messages.0.0 ∙ h.messages.0.0,
      k.messages.0.1 ∙ h.messages.0.1,
      k.messages.0.2 ∙ h.messages.0.2,
      k.messages.0.3 ∙ h.messages.0.3,
    ),
    k.messages.1 ∙ h.messages.1,
  );
  answers = (
    (
      k.answers.0.0 ∙ h.answers.0.0,
      k.answers.0.1 ∙ h.answers.0.1,
      k.answers.0.2 ∙ h.answers.0.2,
      k.answers.0.3 ∙ h.answers.0.3,
    ),
    k.answers.1 ∙ h.answers.1,
  );
}

pub SameFront-capacity : (a b : LaneFront) → SameFront a b → front_capacity b ≡ front_capacity a
SameFront-capacity a b h = h.messages.1

pub SameBack-refl : (a : LaneBack) → SameBack a a
SameBack-refl a = record {
  messages = ((refl, refl, refl, refl), refl);
  answers = ((refl, refl, refl, refl), refl);
}

pub SameBack-trans : (a b c : LaneBack) → SameBack a b → SameBack b c → SameBack a c
SameBack-trans a b c h k = record {
  messages = (
    (
      k.messages.0.0 ∙ h.messages.0.0,
      k.messages.0.1 ∙ h.messages.0.1,
      k.messages.0.2 ∙ h.messages.0.2,
      k.messages.0.3 ∙ h.messages.0.3,
    ),
    k.messages.1 ∙ h.messages.1,
  );
  answers = (
    (
      k.answers.0.0 ∙ h.answers.0.0,
      k.answers.0.1 ∙ h.answers.0.1,
      k.answers.0.2 ∙ h.answers.0.2,
      k.answers.0.3 ∙ h.answers.0.3,
    ),
    k.answers.1 ∙ h.answers.1,
  );
}
