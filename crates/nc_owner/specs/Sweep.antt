-- Polls of all retired slots.
use Rattle.std.specs.Prelude.{◌≡◌, ℕ, Bool, List}
use Rattle.nc_types.specs.Message.{Message}
use Rattle.nc_journal.specs.declared.event.Event.{Event}
use Rattle.nc_slots.specs.declared.slot.Slot.{Slot}
use Rattle.nc_owner.specs.declared.poll.PollAnswer.{PollAnswer}
use Rattle.nc_owner.specs.State.{OwnerAt}
use Rattle.nc_owner.specs.Poll.{PollsOf, AnswersFit}
use Rattle.nc_owner.specs.OtherSteps.{polled_events, polled_after, polled_row}

-- the retired slots were polled in ascending order, with these answers, which fit the slots: those that nobody holds are unused
pub record IsPolled (exact : Bool) (counts : List ℕ) (answers : List PollAnswer) (row : List (Slot Message)) (s : OwnerAt) (events : List Event)
    (new_row : List (Slot Message)) (new : OwnerAt) : Type 0 where
  pub polls : PollsOf exact counts s.desk.retired answers
  pub fit : AnswersFit row answers
  pub happened : events ≡ polled_events answers s
  pub owner : new ≡ polled_after answers s
  pub slots : new_row ≡ polled_row answers row
