-- A reap over histories: what each step of an owner keeps, a reap keeps too.
use Rattle.std.specs.Prelude.{ℕ, Bool, true, List, [], ◌∷◌, ◌++◌}
use Rattle.nc_types.specs.Message.{Message}
use Rattle.nc_journal.specs.History.{onto, Along}
use Rattle.nc_journal.specs.declared.event.Event.{Event}
use Rattle.nc_slots.specs.declared.slot.Slot.{Slot}
use Rattle.nc_owner.specs.declared.poll.PollAnswer.{PollAnswer}
use Rattle.nc_owner.specs.State.{OwnerAt}
use Rattle.nc_reaper.specs.Reap.{Step, events_of, IsReaped}
use Rattle.nc_owner_laws.specs.OwnerStanding.{Stands}
use Rattle.nc_owner_laws.specs.InOrder.{InOrder}
use Rattle.nc_owner_laws.specs.AnsweredOnce.{AnswersNew}
use Rattle.nc_owner_laws.specs.HoldsKept.{HoldsFit}
use Rattle.nc_owner_laws.specs.Kinds.{AreOfOwner}
use Rattle.nc_owner_laws.specs.OwnChannels.{OwnsChannels}
use Rattle.nc_owner_laws.specs.Weave.{weave, numbered_by}

-- an owner stands for its history, in which all is in order and each look is answered once
pub record Keeps (me workers slots first : ℕ) (row : List (Slot Message)) (h : List Event) (s : OwnerAt) : Type 0 where
  pub stands : Stands me workers slots first row h s
  pub ordered : InOrder first h
  pub new_answers : Along AnswersNew h

-- steps one after the other, each with its alerts woven in
abbrev pub steps_woven : ℕ → (ℕ → ℕ) → List Step → List Event
steps_woven w next [] = []
steps_woven w next (x ∷ steps) = weave w next x.events x.alerts ++ steps_woven w (numbered_by next x.alerts) steps

-- the numbers of the next packets behind some steps
abbrev pub next_behind : (ℕ → ℕ) → List Step → ℕ → ℕ
next_behind next [] = next
next_behind next (x ∷ steps) = next_behind (numbered_by next x.alerts) steps

-- a reap keeps it where the owner's channels are its own, and so are its events
pub record ReapKept (me workers slots first : ℕ) (next : ℕ → ℕ) (row : List (Slot Message)) (h : List Event) (steps : List Step)
    (s : OwnerAt) : Type 0 where
  pub keeps : Keeps me workers slots first row (onto (steps_woven me next steps) h) s
  pub of_owner : AreOfOwner me (events_of steps)

abbrev pub ReapKeeps : Type 0
ReapKeeps = (me workers slots first : ℕ) (next : ℕ → ℕ) (exact : Bool) (counts : List ℕ) (answers : List PollAnswer)
    (row new_row : List (Slot Message)) (h : List Event) (steps : List Step) (s new : OwnerAt) → OwnsChannels workers me s
    → IsReaped exact counts answers row s steps new_row new
    → Keeps me workers slots first row h s → ReapKept me workers slots first next new_row h steps new

-- and no slot has more holds than it can have after it, where their numbers are told
abbrev pub ReapHoldsFit : Type 0
ReapHoldsFit = (counts : List ℕ) (answers : List PollAnswer) (row new_row : List (Slot Message)) (steps : List Step) (s new : OwnerAt)
    → IsReaped true counts answers row s steps new_row new → HoldsFit row counts → HoldsFit new_row counts
