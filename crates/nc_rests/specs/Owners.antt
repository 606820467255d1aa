-- Histories of owners that keep their rules.
use Rattle.std.specs.Prelude.{◌≡◌, ℕ, List}
use Rattle.std.specs.List.{AllByRecursion}
use Rattle.nc_types.specs.Channel.{owner_of}
use Rattle.nc_journal.specs.History.{Along, own}
use Rattle.nc_journal.specs.Stamp.{IsStamped}
use Rattle.nc_journal.specs.declared.event.Event.{Event}
use Rattle.nc_journal.specs.declared.event.Event.TheVariants.{Stored, Left, Looked, Edged}
use Rattle.nc_owner_laws.specs.InOrder.{LooksAt}

-- a message is stored and leaves, and a look or an edge is made, by the owner of the channel
abbrev pub IsByOwner : ℕ → Event → Type 0
IsByOwner workers (Stored w c id slot len exp kept members from r ct body) = w ≡ owner_of workers c
IsByOwner workers (Left w c id slot cause) = w ≡ owner_of workers c
IsByOwner workers (Looked w q from number c after floor found) = w ≡ owner_of workers c
IsByOwner workers (Edged w q from number k c floor last) = w ≡ owner_of workers c
IsByOwner workers _ = Unit {0}

-- the local history of one owner
pub record OwnerKeeps (workers : ℕ) (l : List Event) : Type 0 where
  pub stamped : IsStamped workers l
  pub by_owner : AllByRecursion (IsByOwner workers) l
  pub looks : Along LooksAt l

-- a whole history
pub record Owners (workers : ℕ) (h : List Event) : Type 0 where
  pub stamped : IsStamped workers h
  pub by_owner : AllByRecursion (IsByOwner workers) h
  pub looks : (o : ℕ) → Along LooksAt (own o h)

-- the whole history keeps the owners' rules where each local one does
abbrev pub OwnersKeep : Type 0
OwnersKeep = (workers : ℕ) (h : List Event) → ((o : ℕ) → OwnerKeeps workers (own o h)) → Owners workers h
