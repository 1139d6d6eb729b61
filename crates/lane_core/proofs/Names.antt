-- Re-exports the names that most proofs of this crate use. Declares nothing.
pub use Rattle.std.proofs.Common.{Err, IsTrue, List, Ok, Result, [], ap, append-nil, append_assoc, arith, false, inl, inr, length, length-append, refl, rules, sym, take, true, ℕ, ◌++◌, ◌<◌, ◌↔◌, ◌∙◌, ◌∷◌, ◌≡◌, ◌≢◌, ◌⊎◌}
pub use Rattle.std.proofs.Math.Logic.{∥∥₁_elim, ∥∥₁_map}
pub use Rattle.std.proofs.lemmas.List.{nil_from_length}
pub use Rattle.std.specs.Prelude.{None, Option, Some, is_none, option_to_list}
pub use Rattle.rtrb.specs.Ring.{known_items, received}
pub use mathlib.Core.List.{IsPrefix}
pub use Rattle.lane_core.specs.Answers.{AreAnswersTo, IsAnswerTo}
pub use Rattle.lane_core.specs.Dealing.{Deals, Grows, MayRefuse}
pub use Rattle.lane_core.specs.Ends.{SameBack-trans, SameFront-trans, back_capacity, back_lists, front_lists}
pub use Rattle.lane_core.specs.Lane.{BackLists, FrontLists, Happens, IsAnswered, IsDrained, IsFinished, IsHeldFor, Lane, LaneEvent, Put_answer, Put_message, PutsMessage, Receive_answer, Run, Take_message, TakesMessage, initial_lane}
pub use Rattle.lane_core.specs.Messages.{finish_is_last, has_finish, jobs_of}
pub use Rattle.lane_core.specs.Stepping.{IsWorkDone, StepRun, Steps, StepsBeforeFinish, Works}
pub use Rattle.lane_core.specs.declared.answers.Answer.{Answer}
pub use Rattle.lane_core.specs.declared.jobs.Job.{Job}
pub use Rattle.lane_core.specs.declared.messages.Message.{Message}
pub use Rattle.lane_core.specs.declared.messages.Message.TheVariants.{Finish, NewJob}
pub use Rattle.lane_core.specs.declared.steps.Step.{Step}
pub use Rattle.lane_core.specs.declared.steps.Step.TheVariants.{Done, Graded, Idle, Waiting}
pub use Rattle.lane_core.specs.steps.WorkLeft.{work_left}
