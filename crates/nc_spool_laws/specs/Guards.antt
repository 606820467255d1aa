-- What holds of the places of a spool when it sends.
use Rattle.std.specs.Prelude.{◌≡◌, ℕ, ◌<◌, ◌≤◌, List, slice_index_or}
use Rattle.std.specs.List.{AllByRecursion}
use Rattle.nc_spool_state.specs.declared.place.Place.{Place}
use Rattle.nc_spool_state.specs.declared.place.Place.TheVariants.{Asked, Nothing, Found}
use Rattle.nc_spool_state.specs.declared.choice.Find.{Find}
use Rattle.nc_spool_state.specs.declared.choice.Choice.TheVariants.{Send}
use Rattle.nc_spool_state.specs.Spool.{no_place}
use Rattle.nc_spool_state.specs.Choice.{choice}

-- a place lets a message with this time be sent: no look is in flight; where nothing was found the owner's floor is at least the time;
-- a message that was found is not older
abbrev pub Lets : ℕ → Place → Type 0
Lets time (Asked number earlier) = ⊥
Lets time (Nothing quiet) = time ≤ quiet.floor
Lets time (Found q id owner g) = time ≤ id.time

-- a place before that of the message: a message that was found there is younger
abbrev pub IsYounger : ℕ → Place → Type 0
IsYounger time (Asked number earlier) = Unit {0}
IsYounger time (Nothing quiet) = Unit {0}
IsYounger time (Found q id owner g) = time < id.time

-- the message was found at its place
abbrev pub IsFind : Find → Place → Type 0
IsFind find (Asked number earlier) = ⊥
IsFind find (Nothing quiet) = ⊥
IsFind find (Found q id owner g) = (id ≡ find.id) × (owner ≡ find.owner) × (g ≡ find.g)

-- a spool that sends: each place lets it, and the message is the one at the lowest place with the least time
pub record IsGuarded (places : List Place) (find : Find) : Type 0 where
  pub all : AllByRecursion (Lets find.id.time) places
  pub place : IsFind find (slice_index_or places find.place no_place)
  pub first : (j : ℕ) → j < find.place → IsYounger find.id.time (slice_index_or places j no_place)

-- what holds whenever a spool sends
abbrev pub GuardsSends : Type 0
GuardsSends = (places : List Place) (find : Find) → choice places ≡ Send find → IsGuarded places find
