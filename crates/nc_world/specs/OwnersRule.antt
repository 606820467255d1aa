-- The rule of the owner's steps: behind an alert that was taken stands what the owner that the history tells does with it.
use Rattle.std.specs.Prelude.{◌≡◌, ℕ, ◌+◌, ◌<◌, List, [], ◌∷◌, None, Some, slice_index}
use Rattle.std.specs.List.{AllByRecursion}
use Rattle.nc_journal.specs.History.{own}
use Rattle.nc_journal.specs.Holding.{holds}
use Rattle.nc_journal.specs.declared.event.Event.{Event}
use Rattle.nc_journal.specs.declared.event.Event.TheVariants.{Clock, Asked, Subscribed, Joined, Parted, Raised, Stored, Left, Looked, Edged, Granted, Freed, Removed, Took, Pending, Quiet}
use Rattle.nc_journal.specs.declared.alert.AlertLine.{AlertLine}
use Rattle.nc_owner_laws.specs.OwnerTold.{HistoryTells}
use Rattle.nc_owner_laws.specs.OwnerFits.{OwnerFits}
use Rattle.nc_owner_laws.specs.Filters.{new_desk}
use Rattle.nc_journal.specs.declared.alert.AlertLine.TheVariants as lines
use Rattle.nc_history.specs.Packets.{Packet, packet, pending, made_count}
use Rattle.nc_history.specs.Steps.{AtEachStepOf}
use Rattle.nc_worker_state.specs.Setup.{Setup}
use Rattle.nc_worker_state.specs.Incoming.{Incoming, TakesPacket, Reaps}
use Rattle.nc_worker_state.specs.Owned.{Holding, owned}
use Rattle.nc_worker_state.specs.Worker.{part_woven}

-- the numbers of a worker's next packets
abbrev pub next_numbers : Setup → ℕ → List Event → ℕ → ℕ
next_numbers setup w h to = setup.first + made_count w to h

-- the owner of a worker as the history tells it: what it keeps of its channels; its slots, which are those of its entries and its retired ones;
-- and how many holds each has
pub record IsToldOwner (setup : Setup) (w : ℕ) (h : List Event) (s : Holding) : Type 0 where
  pub tells : HistoryTells (new_desk w setup.workers setup.slots setup.first) (own w h) s.owner
  pub fits : OwnerFits s.row s.owner
  pub counts : (slot : ℕ) → slot < setup.slots → slice_index s.counts slot ≡ holds w slot h

-- some events are what the owner that the history tells does with what comes, with the alerts that it makes
pub record IsOwnersStep (setup : Setup) (w : ℕ) (incoming : Incoming) (h events : List Event) : Type 0 where
  pub owner : Holding
  pub told : IsToldOwner setup w h owner
  pub same : events ≡ part_woven w (next_numbers setup w h) (owned incoming owner)

-- an event that is none of an owner
abbrev pub IsNoOwners : Event → Type 0
IsNoOwners (Joined w c from k) = ⊥
IsNoOwners (Parted w c from k) = ⊥
IsNoOwners (Raised w t) = ⊥
IsNoOwners (Stored w c id slot len exp kept members from r ct body) = ⊥
IsNoOwners (Left w c id slot cause) = ⊥
IsNoOwners (Looked w q from number c after floor found) = ⊥
IsNoOwners (Edged w q from number k c floor last) = ⊥
IsNoOwners (Granted w g slot to) = ⊥
IsNoOwners (Freed w slot) = ⊥
IsNoOwners (Removed w c last cause) = ⊥
IsNoOwners _ = Unit {0}

abbrev pub AreNoOwners : List Event → Type 0
AreNoOwners events = AllByRecursion IsNoOwners events

-- the events behind an alert that was taken as this packet: an owner's step, or nothing of an owner
abbrev pub IsStepOf : Setup → ℕ → ℕ → ℕ → AlertLine → List Event → List Event → Type 0
IsStepOf setup w from n (lines.Publish r c len timeout ct body) h events =
    IsOwnersStep setup w (TakesPacket from (packet n (lines.Publish r c len timeout ct body))) h events
IsStepOf setup w from n (lines.Look number c after fence) h events =
    IsOwnersStep setup w (TakesPacket from (packet n (lines.Look number c after fence))) h events
IsStepOf setup w from n (lines.Edge number k c fence) h events = IsOwnersStep setup w (TakesPacket from (packet n (lines.Edge number k c fence))) h events
IsStepOf setup w from n (lines.Join c k) h events = IsOwnersStep setup w (TakesPacket from (packet n (lines.Join c k))) h events
IsStepOf setup w from n (lines.Part c k) h events = IsOwnersStep setup w (TakesPacket from (packet n (lines.Part c k))) h events
IsStepOf setup w from n (lines.Delete r c) h events = IsOwnersStep setup w (TakesPacket from (packet n (lines.Delete r c))) h events
IsStepOf setup w from n (lines.Info r c) h events = IsOwnersStep setup w (TakesPacket from (packet n (lines.Info r c))) h events
IsStepOf setup w from n line h events = AreNoOwners events

-- so of the first of some packets
abbrev pub IsStepOfFirst : Setup → ℕ → ℕ → List Packet → List Event → List Event → Type 0
IsStepOfFirst setup w from [] h events = ⊥
IsStepOfFirst setup w from (p ∷ ps) h events = IsStepOf setup w from p.number p.line h events

-- what stands behind the event with which a step begins; a taken alert is the first that was pending
abbrev pub StepAt : Setup → List Event → Event → List Event → Type 0
StepAt setup h (Took w from n kind) events = IsStepOfFirst setup w from (pending from w h) h events
StepAt setup h (Clock w t) events = AreNoOwners events
StepAt setup h (Asked w r None act list status rule) events = AreNoOwners events
StepAt setup h (Subscribed w k None list mode start timeout close) events = AreNoOwners events
StepAt setup h (Pending n) events = events ≡ []
StepAt setup h Quiet events = events ≡ []
StepAt setup h e events = Unit {0}

-- the rule of the owner's steps
abbrev pub IsOwnersRule : Setup → List (List Event) → Type 0
IsOwnersRule setup lines = AtEachStepOf (StepAt setup) lines

-- a reap: the steps of an owner that nobody asks for
abbrev pub IsReapOf : Setup → ℕ → List Event → List Event → Type 0
IsReapOf setup w h events = IsOwnersStep setup w Reaps h events
