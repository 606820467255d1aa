-- The owner's part of a step, told.
use Rattle.std.specs.Prelude.{◌≡◌, ℕ, Bool, true, List}
use Rattle.nc_types.specs.Message.{Message}
use Rattle.nc_slots.specs.declared.slot.Slot.{Slot}
use Rattle.nc_slots.specs.Slots.{HoldAt}
use Rattle.nc_owner.specs.State.{OwnerAt}
use Rattle.nc_owner.specs.Pool.{SameOthers}
use Rattle.nc_owner_laws.specs.OwnerFits.{OwnerFits}
use Rattle.nc_worker_state.specs.Incoming.{Incoming}
use Rattle.nc_worker_state.specs.Owned.{Holding, StepPolls, StepPollsFit, owned_in}
use Rattle.nc_worker_state.specs.Worker.{with_at, part_woven}
use Rattle.nc_outbox.specs.Outboxes.{next_of}
use Rattle.nc_scribe.specs.Scribe.{ScribeAt, TellsMore, KeepsOwn}

-- an owner with its slots and the numbers of its holds
abbrev pub holding_at : (ℕ → List (Slot Message)) → (ℕ → List ℕ) → OwnerAt → Holding
holding_at slots holds s = record { owner = s; row = slots s.desk.me; counts = holds s.desk.me }

-- an owner is left so by a step, with its slots and their holds, and it still fits them
pub record Leaves (exact : Bool) (after : Holding) (slots new_slots : ℕ → List (Slot Message)) (holds new_holds : ℕ → List ℕ)
    (s new : OwnerAt) : Type 0 where
  pub owner : new ≡ after.owner
  pub row : new_slots s.desk.me ≡ after.row
  pub counts : exact ≡ true → new_holds ≡ with_at holds s.desk.me after.counts
  pub others : SameOthers s.desk.me slots new_slots
  pub fits : OwnerFits (new_slots s.desk.me) new
  pub me : new.desk.me ≡ s.desk.me

-- by some answers of its polls it does its part of a step, which is told with the alerts that it makes
pub record Owns {H : Type 0} (held : H → HoldAt) (exact : Bool) (incoming : Incoming) (slots new_slots : ℕ → List (Slot Message))
    (holds new_holds : ℕ → List ℕ) (s new : OwnerAt) (scribe later : ScribeAt H) : Type 0 where
  pub polls : StepPolls
  pub fit : StepPollsFit exact incoming (holding_at slots holds s) polls
  pub leaves : Leaves exact (owned_in polls incoming (holding_at slots holds s)).last.after slots new_slots holds new_holds s new
  pub tells : TellsMore scribe later (part_woven s.desk.me (next_of scribe.outboxes) (owned_in polls incoming (holding_at slots holds s)))
  pub own : KeepsOwn held scribe later
