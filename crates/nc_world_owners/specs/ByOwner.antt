-- What is done on a channel is done by its owner, and only workers that are there look.
use Rattle.std.specs.Prelude.{◌≡◌, ℕ, ◌<◌, List}
use Rattle.std.specs.List.{AllByRecursion}
use Rattle.nc_types.specs.Channel.{owner_of}
use Rattle.nc_journal.specs.declared.event.Event.{Event}
use Rattle.nc_journal.specs.declared.event.Event.TheVariants.{Joined, Parted, Stored, Left, Looked, Edged, Removed}

-- an event of an owner is by the owner of its channel
abbrev pub IsByChannelOwner : ℕ → Event → Type 0
IsByChannelOwner workers (Joined w c from k) = w ≡ owner_of workers c
IsByChannelOwner workers (Parted w c from k) = w ≡ owner_of workers c
IsByChannelOwner workers (Stored w c id slot len exp kept members from r ct body) = w ≡ owner_of workers c
IsByChannelOwner workers (Left w c id slot cause) = w ≡ owner_of workers c
IsByChannelOwner workers (Looked w q from number c after floor found) = w ≡ owner_of workers c
IsByChannelOwner workers (Edged w q from number k c floor last) = w ≡ owner_of workers c
IsByChannelOwner workers (Removed w c last cause) = w ≡ owner_of workers c
IsByChannelOwner workers _ = Unit {0}

abbrev pub AreByChannelOwners : ℕ → List Event → Type 0
AreByChannelOwners workers h = AllByRecursion (IsByChannelOwner workers) h

-- who asks an owner is one of the workers
abbrev pub IsAskedFrom : ℕ → Event → Type 0
IsAskedFrom workers (Joined w c from k) = from < workers
IsAskedFrom workers (Parted w c from k) = from < workers
IsAskedFrom workers (Looked w q from number c after floor found) = from < workers
IsAskedFrom workers (Edged w q from number k c floor last) = from < workers
IsAskedFrom workers _ = Unit {0}

abbrev pub AreAskedFrom : ℕ → List Event → Type 0
AreAskedFrom workers h = AllByRecursion (IsAskedFrom workers) h
