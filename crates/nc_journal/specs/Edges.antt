-- Edges: where an owner told a worker how far a channel has come, for a subscriber that begins behind the newest message.
use Rattle.std.specs.Prelude.{◌≡◌, ℕ, ◌<◌, ◌≤◌, if◌then◌else◌, ◌&&◌, ◌==◌, List, [], ◌∷◌, ◌++◌, bytes_eq}
use Rattle.nc_types.specs.Id.{Id}
use Rattle.nc_types.specs.Channel.{owner_of}
use Rattle.nc_journal.specs.declared.event.Event.{Event}
use Rattle.nc_journal.specs.declared.event.Event.TheVariants.{Edged}

-- an edge that an owner told a worker for its subscriber k at a channel, with the floor and the last id
abbrev pub IsEdge : (owner w k : ℕ) → List ℕ → ℕ → Id → Event → Type 0
IsEdge owner w k c floor last (Edged v q from number n d f l) = (v ≡ owner) × (from ≡ w) × (n ≡ k) × (d ≡ c) × (f ≡ floor) × (l ≡ last)
IsEdge owner w k c floor last _ = ⊥

-- what an edge told, and the number that it was asked by
pub record EdgeTold : Type 0 where
  pub number : ℕ
  pub floor : ℕ
  pub last : Id

abbrev pub edge_told : ℕ → ℕ → Id → EdgeTold
edge_told number floor last = record { number = number; floor = floor; last = last }

-- what the edges of subscriber k of a worker at a channel told, the newest one first
abbrev pub edges_of : (w k : ℕ) → List ℕ → List Event → List EdgeTold
edges_of w k c [] = []
edges_of w k c (Edged v q from number n d floor last ∷ h) =
    if (from == w) && ((n == k) && bytes_eq d c) then edge_told number floor last ∷ edges_of w k c h else edges_of w k c h
edges_of w k c (e ∷ h) = edges_of w k c h

-- one edge whose floor isn't below a time, or one whose floor is below it and a second one whose floor isn't; and no other
pub data Edges (workers w k : ℕ) (c : List ℕ) (time : ℕ) (last : Id) (older : List Event) : Type 0 where
  One : (since : List Event) (edge : Event) (seen : List Event) (floor : ℕ) → older ≡ since ++ edge ∷ seen
      → IsEdge (owner_of workers c) w k c floor last edge → time ≤ floor
      → edges_of w k c since ≡ [] → edges_of w k c seen ≡ [] → Edges workers w k c time last older
  Two : (since : List Event) (second : Event) (between : List Event) (edge : Event) (seen : List Event) (floor floor_later : ℕ) (last_later : Id)
      → older ≡ since ++ second ∷ (between ++ edge ∷ seen)
      → IsEdge (owner_of workers c) w k c floor last edge → IsEdge (owner_of workers c) w k c floor_later last_later second → floor < time
      → time ≤ floor_later
      → edges_of w k c since ≡ [] → edges_of w k c between ≡ [] → edges_of w k c seen ≡ [] → Edges workers w k c time last older

-- what stands before the first edge, and what stands behind the last one
abbrev pub seen_first : {workers w k : ℕ} {c : List ℕ} {time : ℕ} {last : Id} {older : List Event} → Edges workers w k c time last older → List Event
seen_first (One since edge seen floor place is fence a b) = seen
seen_first (Two since second between edge seen floor floor_later last_later place is is_later below fence a b d) = seen

abbrev pub since_last : {workers w k : ℕ} {c : List ℕ} {time : ℕ} {last : Id} {older : List Event} → Edges workers w k c time last older → List Event
since_last (One since edge seen floor place is fence a b) = since
since_last (Two since second between edge seen floor floor_later last_later place is is_later below fence a b d) = since
