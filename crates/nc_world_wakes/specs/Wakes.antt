-- No wake is lost: where a worker knows of nothing at a channel, a signal is on its way to it, or its owner will send one.
use Rattle.std.specs.Prelude.{◌≡◌, ◌⊎◌, ℕ, ◌<◌, true, List, length, Option, None, Some}
use Rattle.std.specs.List.{AllByRecursion, list_any}
use Rattle.nc_types.specs.Id.{Id}
use Rattle.nc_types.specs.Channel.{owner_of}
use Rattle.nc_journal.specs.History.{own}
use Rattle.nc_journal.specs.Message.{buffer}
use Rattle.nc_journal.specs.declared.event.Event.{Event}
use Rattle.nc_owner_laws.specs.Behind.{NothingIsPast}
use Rattle.nc_owner_laws.specs.Filters.{is_marked}
use Rattle.nc_spool_state.specs.declared.place.Quiet.{Quiet}
use Rattle.nc_spool_state.specs.declared.place.Place.{Place}
use Rattle.nc_spool_state.specs.declared.place.Place.TheVariants.{Asked, Nothing, Found}
use Rattle.nc_spool_state.specs.Key.{name_at, id_at}
use Rattle.nc_spool_state.specs.Spool.{SpoolAt, place_at}
use Rattle.nc_history.specs.Packets.{pending, lines_of}
use Rattle.nc_worker_state.specs.Setup.{Setup}
use Rattle.nc_world.specs.World.{World}
use Rattle.nc_world.specs.Reached.{IsSetup, Reached}
use Rattle.nc_rests.specs.Keeping.{is_signal}
use Rattle.nc_world_places.specs.Places.{shelf_at}

-- a notice of a channel, or its removal, is on its way from its owner to a worker
abbrev pub SignalPends : ℕ → ℕ → List ℕ → List Event → Type 0
SignalPends workers w c h = list_any (is_signal c) (lines_of (pending (owner_of workers c) w h)) ≡ true

-- the owner has marked the worker at the channel, and no message that is buffered is past an id
pub record IsMarkedThere (workers w : ℕ) (c : List ℕ) (after : Id) (h : List Event) : Type 0 where
  pub marked : is_marked c w (own (owner_of workers c) h) ≡ true
  pub nothing : NothingIsPast after (buffer c (own (owner_of workers c) h))

-- one of both
abbrev pub IsAwake : ℕ → ℕ → List ℕ → Id → List Event → Type 0
IsAwake workers w c after h = SignalPends workers w c h ⊎ IsMarkedThere workers w c after h

-- so it is where an earlier answer is kept
abbrev pub EarlierAwake : ℕ → ℕ → List ℕ → Id → Option Quiet → List Event → Type 0
EarlierAwake workers w c after None h = Unit {0}
EarlierAwake workers w c after (Some quiet) h = IsAwake workers w c after h

-- and where nothing was found
abbrev pub PlaceIsAwake : ℕ → ℕ → List ℕ → Id → Place → List Event → Type 0
PlaceIsAwake workers w c after (Asked number earlier) h = EarlierAwake workers w c after earlier h
PlaceIsAwake workers w c after (Nothing quiet) h = IsAwake workers w c after h
PlaceIsAwake workers w c after (Found q id owner g) h = Unit {0}

-- each place of a spool is so
abbrev pub SpoolIsAwake : ℕ → ℕ → List Event → SpoolAt → Type 0
SpoolIsAwake workers w h s = (j : ℕ) → j < length s.places → PlaceIsAwake workers w (name_at s.key j) (id_at s.key j) (place_at s j) h

-- in each reached world no wake is lost
abbrev pub NoWakeIsLost : Type 0
NoWakeIsLost = (setup : Setup) (h : List Event) (world : World) → IsSetup setup → Reached setup h world → (w : ℕ)
    → AllByRecursion (SpoolIsAwake setup.workers w h) (shelf_at world w)
