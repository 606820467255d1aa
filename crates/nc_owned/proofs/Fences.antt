-- An owner fits its slots behind a fence, and once an edge was told.
use Rattle.std.proofs.Common.{ℕ, List, ◌++◌}
use Rattle.nc_types.specs.Id.{Id}
use Rattle.nc_types.specs.Message.{Message}
use Rattle.nc_slots.specs.declared.slot.Slot.{Slot}
use Rattle.nc_owner.specs.State.{OwnerAt}
use Rattle.nc_owner.specs.Fence.{with_floor, raise_events}
use Rattle.nc_owner.specs.Edge.{edged, edge_events, edge_after}
use Rattle.nc_owner.specs.Look.{look_events}
use Rattle.nc_owner.specs.OtherSteps.{touched_row}
use Rattle.nc_owner_laws.specs.OwnerFits.{OwnerFits}
use Rattle.nc_owner_laws.specs.Kinds.{IsOfOwner, AreOfOwner}
use Rattle.nc_owner_laws.proofs.Kept.{all_append}
use Rattle.nc_owner_laws.proofs.Steps.{touch_fits}
use Rattle.nc_owner_laws.proofs.EventKinds.{owners_kinds}

pub fenced_fits : (fence : ℕ) (row : List (Slot Message)) (s : OwnerAt) → OwnerFits row s → OwnerFits row (with_floor fence s)
fenced_fits fence row s f = record { names = f.names; slots = f.slots; apart = f.apart; number = f.number; kept = f.kept; regular = f.regular }

edged_fits : (row : List (Slot Message)) (s : OwnerAt) → OwnerFits row s → OwnerFits row (edged s)
edged_fits row s f = record { names = f.names; slots = f.slots; apart = f.apart; number = f.number; kept = f.kept; regular = f.regular }

pub edge_fits : (fence : ℕ) (c : List ℕ) (row : List (Slot Message)) (s : OwnerAt) → OwnerFits row s → OwnerFits (touched_row c row (with_floor fence s)) (edge_after c row (with_floor fence s))
edge_fits fence c row s f = edged_fits _ _ (touch_fits c row (with_floor fence s) (fenced_fits fence row s f))

-- the events of a look and of an edge with a fence are the owner's
pub fenced_look_kinds : (fence from number : ℕ) (c : List ℕ) (id : Id) (row : List (Slot Message)) (s : OwnerAt) → AreOfOwner s.desk.me (raise_events fence s ++ look_events from number c id row (with_floor fence s))
fenced_look_kinds fence from number c id row s =
    all_append (IsOfOwner s.desk.me) (raise_events fence s) (look_events from number c id row (with_floor fence s)) ((owners_kinds row s).raise fence) ((owners_kinds row (with_floor fence s)).look from number c id)

pub fenced_edge_kinds : (fence from number k : ℕ) (c : List ℕ) (row : List (Slot Message)) (s : OwnerAt) → AreOfOwner s.desk.me (raise_events fence s ++ edge_events from number k c row (with_floor fence s))
fenced_edge_kinds fence from number k c row s =
    all_append (IsOfOwner s.desk.me) (raise_events fence s) (edge_events from number k c row (with_floor fence s)) ((owners_kinds row s).raise fence) ((owners_kinds row (with_floor fence s)).edge from number k c)
