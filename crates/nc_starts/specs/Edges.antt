-- What keeps the edges of a subscriber at a channel, and where they stand.
use Rattle.std.specs.Prelude.{◌≡◌, ℕ, Bool, false, ◌&&◌, ◌==◌, List, ◌∷◌, bytes_eq}
use Rattle.std.specs.List.{AllByRecursion}
use Rattle.nc_types.specs.Id.{Id}
use Rattle.nc_types.specs.Channel.{owner_of}
use Rattle.nc_journal.specs.History.{own}
use Rattle.nc_journal.specs.Edges.{edge_told, edges_of}
use Rattle.nc_journal.specs.declared.event.Event.{Event}
use Rattle.nc_journal.specs.declared.event.Event.TheVariants.{Edged}
use Rattle.nc_rests.specs.Owners.{IsByOwner}

-- whether an event is an edge of subscriber k of a worker at a channel
abbrev pub is_edge_for : (w k : ℕ) → List ℕ → Event → Bool
is_edge_for w k c (Edged v q from number n d floor last) = (from == w) && ((n == k) && bytes_eq d c)
is_edge_for w k c e = false

-- an event that is no such edge keeps which there are; and one that is adds it
abbrev pub EdgesStay : Type 0
EdgesStay = (w k : ℕ) (c : List ℕ) (e : Event) (h : List Event) → is_edge_for w k c e ≡ false → edges_of w k c (e ∷ h) ≡ edges_of w k c h

abbrev pub EdgeAdds : Type 0
EdgeAdds = (o q w number k : ℕ) (c : List ℕ) (floor : ℕ) (last : Id) (h : List Event)
    → edges_of w k c (Edged o q w number k c floor last ∷ h) ≡ edge_told number floor last ∷ edges_of w k c h

-- the edges of a channel stand in its owner's history
abbrev pub EdgesOwn : Type 0
EdgesOwn = (workers w k : ℕ) (c : List ℕ) (h : List Event) → AllByRecursion (IsByOwner workers) h
    → edges_of w k c (own (owner_of workers c) h) ≡ edges_of w k c h
