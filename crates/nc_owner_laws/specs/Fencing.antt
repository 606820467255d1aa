-- What the small steps of fences and edges keep: the floor rises, and an edge is told and answered.
use Rattle.std.specs.Prelude.{ℕ, ◌<◌, List, ◌∷◌}
use Rattle.nc_types.specs.Message.{Message}
use Rattle.nc_journal.specs.declared.event.Event.{Event}
use Rattle.nc_journal.specs.declared.event.Event.TheVariants.{Raised, Edged, Made}
use Rattle.nc_journal.specs.declared.alert.AlertLine.TheVariants.{EdgeAnswer}
use Rattle.nc_slots.specs.declared.slot.Slot.{Slot}
use Rattle.nc_owner.specs.State.{OwnerAt}
use Rattle.nc_owner.specs.Fence.{with_floor}
use Rattle.nc_owner.specs.Edge.{last_in, edged}
use Rattle.nc_owner_laws.specs.Reaping.{Keeps}

-- an owner stands for its history when its floor has risen
abbrev pub RaiseKeeps : Type 0
RaiseKeeps = (me workers slots first fence : ℕ) (row : List (Slot Message)) (h : List Event) (s : OwnerAt) → s.desk.floor < fence
    → Keeps me workers slots first row h s
    → Keeps me workers slots first row (Raised me fence ∷ h) (with_floor fence s)

-- and when an edge was told and answered, where the answer has some number
abbrev pub EdgeKeeps : Type 0
EdgeKeeps = (me workers slots first from number k n : ℕ) (c : List ℕ) (row : List (Slot Message)) (h : List Event) (s : OwnerAt)
    → Keeps me workers slots first row h s
    → Keeps me workers slots first row (Made me from n (EdgeAnswer number s.desk.looks s.desk.floor (last_in c s))
    ∷ Edged me s.desk.looks from number k c s.desk.floor (last_in c s) ∷ h) (edged s)
