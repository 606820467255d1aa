-- A look at a channel that was touched, and the hold that its answer carries.
use Rattle.std.specs.Prelude.{◌≡◌, ℕ, List, ◌++◌, Option, Some, IfSome}
use Rattle.nc_types.specs.Id.{Id}
use Rattle.nc_types.specs.Message.{Message}
use Rattle.nc_journal.specs.declared.event.Event.{Event}
use Rattle.nc_alert.specs.declared.packet.Outgoing.{Outgoing}
use Rattle.nc_buffer.specs.declared.entry.Entry.{Entry}
use Rattle.nc_slots.specs.declared.slot.Slot.{Slot}
use Rattle.nc_slots.specs.Slot.{slot_at, message_of}
use Rattle.nc_slots.specs.Slots.{HoldAt}
use Rattle.nc_owner.specs.State.{Bench}
use Rattle.nc_owner.specs.AlertLines.{OutLine}
use Rattle.nc_owner.specs.Leave.{spend_events, without_spent}
use Rattle.nc_owner.specs.Look.{found_on, found_line, found_holds, answered, answered_events}
use Rattle.nc_owner.specs.Holds.{Carries}

-- what can't be granted once more leaves, then the look is answered
abbrev pub seen_events : ℕ → ℕ → List ℕ → Id → Bench → List Event
seen_events from number c id b = spend_events c b ++ answered_events from number c id (without_spent b)

abbrev pub seen_line : ℕ → ℕ → Id → Bench → OutLine
seen_line from number id b = found_line from number (found_on id (without_spent b)) (without_spent b).desk

abbrev pub seen : ℕ → Id → Bench → Bench
seen from id b = answered from id (without_spent b)

abbrev pub seen_holds : ℕ → Id → Bench → List ℕ → List ℕ
seen_holds from id b counts = found_holds from (found_on id (without_spent b)) counts

-- the hold is of the owner's slot in which the entry lies that was found, and carries the message there
abbrev pub CarriesFound : {H : Type 0} → (H → HoldAt) → ℕ → List (Slot Message) → Option Entry → Outgoing H → Type 0
CarriesFound held me row entry out = IfSome entry (λ e. (m : Message) → message_of (slot_at row e.slot) ≡ Some m → Carries held me m out)

abbrev pub CarriesSeen : {H : Type 0} → (H → HoldAt) → Id → Bench → Outgoing H → Type 0
CarriesSeen held id b out = CarriesFound held b.desk.me (without_spent b).row (found_on id (without_spent b)) out
