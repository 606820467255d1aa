-- A reap: each channel is touched, and goes where it keeps nothing and nobody; then all retired slots are polled.
-- It is a list of steps, since what is told of a channel's removal stands directly behind it.
use Rattle.std.specs.Prelude.{◌≡◌, ℕ, Bool, List, [], ◌∷◌, ◌++◌, fold, map}
use Rattle.nc_types.specs.Message.{Message}
use Rattle.nc_journal.specs.declared.event.Event.{Event}
use Rattle.nc_slots.specs.declared.slot.Slot.{Slot}
use Rattle.nc_owner.specs.declared.done.Done.{Done}
use Rattle.nc_owner.specs.declared.poll.PollAnswer.{PollAnswer}
use Rattle.nc_owner.specs.State.{OwnerAt}
use Rattle.nc_owner.specs.AlertLines.{OutLine, out_lines}
use Rattle.nc_owner.specs.Poll.{PollsOf, AnswersFit, freed_events}
use Rattle.nc_owner.specs.OtherSteps.{polled_after, polled_row, names_of}
use Rattle.nc_owner.specs.Remove.{sweep_events, sweep_alerts, sweep_row, sweep_after}

-- what a step tells: its events, and behind them its alerts
pub record Step : Type 0 where
  pub events : List Event
  pub alerts : List OutLine

abbrev pub step : List Event → List OutLine → Step
step events alerts = record { events = events; alerts = alerts }

-- what an owner did
module _ {H : Type 0} where
  abbrev pub step_of : Done H → Step
  step_of done = step done.events.events (out_lines done.alerts)

  abbrev pub steps_of : List (Done H) → List Step
  steps_of dones = map step_of dones

-- the events of some steps
abbrev pub events_of : List Step → List Event
events_of [] = []
events_of (s ∷ steps) = s.events ++ events_of steps

-- how far a reap has come: the owner, its slots, and the steps
pub record Swept : Type 0 where
  pub owner : OwnerAt
  pub row : List (Slot Message)
  pub steps : List Step

abbrev pub state : OwnerAt → List (Slot Message) → List Step → Swept
state owner row steps = record { owner = owner; row = row; steps = steps }

-- one channel is swept
abbrev pub sweep_step : List ℕ → List (Slot Message) → OwnerAt → Step
sweep_step c row s = step (sweep_events c row s) (sweep_alerts c row s)

abbrev pub swept : Swept → List ℕ → Swept
swept s c = record { owner = sweep_after c s.row s.owner; row = sweep_row c s.row s.owner; steps = s.steps ++ sweep_step c s.row s.owner ∷ [] }

-- all channels are swept, in ascending order of name
abbrev pub swept_all : List (Slot Message) → OwnerAt → Swept
swept_all row s = fold swept (state s row []) (names_of s)

-- the last step: what the polls free
abbrev pub polled_step : ℕ → List PollAnswer → Step
polled_step me answers = step (freed_events me answers) []

-- a reap, by the answers of the polls, which fit the slots once all channels were swept
pub record IsReaped (exact : Bool) (counts : List ℕ) (answers : List PollAnswer) (row : List (Slot Message)) (s : OwnerAt) (steps : List Step)
    (new_row : List (Slot Message)) (new : OwnerAt) : Type 0 where
  pub polls : PollsOf exact counts (swept_all row s).owner.desk.retired answers
  pub fit : AnswersFit (swept_all row s).row answers
  pub happened : steps ≡ (swept_all row s).steps ++ polled_step s.desk.me answers ∷ []
  pub owner : new ≡ polled_after answers (swept_all row s).owner
  pub slots : new_row ≡ polled_row answers (swept_all row s).row
