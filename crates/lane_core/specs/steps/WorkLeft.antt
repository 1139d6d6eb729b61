-- How much work is left for the back of a lane: less after each step that puts an answer.
use Rattle.std.specs.Prelude.{ℕ, ◌+◌, ◌-◌, ◌*◌, option_to_list, length}
use Rattle.lane_core.specs.Lane.{FrontLists, BackLists}

-- twice the number of messages that wait, plus one if an answer is held
abbrev pub work_left : FrontLists → BackLists → ℕ
work_left front back =
    2 * (length front.sent - length back.taken) + length (option_to_list back.held)
