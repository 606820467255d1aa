-- The parts of a worker, between its steps and within one.
use Rattle.std.specs.Prelude.{◌≡◌, ℕ, Bool, List, ◌++◌}
use Rattle.nc_types.specs.Message.{Message}
use Rattle.nc_journal.specs.declared.event.Event.{Event}
use Rattle.nc_slots.specs.declared.slot.Slot.{Slot}
use Rattle.nc_slots.specs.Slots.{HoldAt}
use Rattle.nc_worker_state.specs.Incoming.{Incoming}
use Rattle.nc_worker_state.specs.Deed.{told, next_after}
use Rattle.nc_worker_state.specs.Owned.{OwnersPart, StepPolls, StepPollsFit, owned_in}
use Rattle.nc_worker_state.specs.Desk.{Served}
use Rattle.nc_worker_state.specs.Worker.{WorkerAt, Seat, part_woven}
use Rattle.nc_outbox.specs.Outboxes.{next_of, outbox_of}
use Rattle.nc_scribe.specs.Scribe.{TellsMore, IsOwnScribe}
use Rattle.nc_desk.specs.Desk.{told_desk, AreHeld}
use Rattle.nc_owned.specs.Owns.{holding_at, Leaves}
use Rattle.nc_worker.specs.declared.parts.Parts.{Parts}

module _ {H : Type 0} where
  abbrev pub me_of : Parts H → ℕ
  me_of p = p.owner.desk.me

  -- the worker that they are, where holds are forgotten
  abbrev pub worker_of : Parts H → WorkerAt
  worker_of p = record { owner = p.owner; desk = told_desk p.desk; next = next_of p.scribe.outboxes; outbox = outbox_of p.scribe.outboxes }

  -- the same with the slots of its owner and the holds of all
  abbrev pub seat_of : (ℕ → List (Slot Message)) → (ℕ → List ℕ) → Parts H → Seat
  seat_of slots holds p = record { worker = worker_of p; row = slots (me_of p); counts = holds }

-- the parts are of one worker: its packets are its own, and each kept hold is of the slot that its grant names
pub record AreSound {H : Type 0} (held : H → HoldAt) (p : Parts H) : Type 0 where
  pub me : p.scribe.me ≡ p.owner.desk.me
  pub own : IsOwnScribe held p.scribe
  pub kept : AreHeld held p.desk.spools.kept

-- the events of a step up to the releases: some before, the owner's part, and what the desk did
abbrev pub acted_events : ℕ → (ℕ → ℕ) → List Event → OwnersPart → Served → List Event
acted_events me next before p r = before ++ part_woven me next p ++ told me (next_after next (part_woven me next p)) r.deeds

-- a step up to the releases
pub record Acts {H : Type 0} (held : H → HoldAt) (exact : Bool) (incoming : Incoming) (before : List Event) (r : Served)
    (slots new_slots : ℕ → List (Slot Message)) (holds new_holds : ℕ → List ℕ) (old new : Parts H) : Type 0 where
  pub polls : StepPolls
  pub fit : StepPollsFit exact incoming (holding_at slots holds old.owner) polls
  pub leaves : Leaves exact (owned_in polls incoming (holding_at slots holds old.owner)).last.after slots new_slots holds new_holds old.owner new.owner
  pub desk : told_desk new.desk ≡ r.after
  pub tells : TellsMore old.scribe new.scribe (acted_events (me_of old) (next_of old.scribe.outboxes) before
      (owned_in polls incoming (holding_at slots holds old.owner)) r)
  pub sound : AreSound held new
