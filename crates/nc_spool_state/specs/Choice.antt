-- Deciding: what a spool does, read off its places.
use Rattle.std.specs.Prelude.{ℕ, ◌+◌, ◌<◌, Bool, true, false, List, [], ◌∷◌, Option, None, Some, if◌then◌else◌, nat_lt}
use Rattle.std.specs.List.{list_any}
use Rattle.nc_spool_state.specs.declared.place.Place.{Place}
use Rattle.nc_spool_state.specs.declared.place.Place.TheVariants.{Asked, Nothing, Found}
use Rattle.nc_spool_state.specs.declared.choice.Find.{Find}
use Rattle.nc_spool_state.specs.declared.choice.Choice.{Choice}
use Rattle.nc_spool_state.specs.declared.choice.Choice.TheVariants.{Wait, Fence, Send}
use Rattle.nc_spool_state.specs.Place.{is_asked}

-- nothing was found, and the owner's floor was below a time
abbrev pub is_below : ℕ → Place → Bool
is_below time (Asked number earlier) = false
is_below time (Nothing quiet) = nat_lt quiet.floor time
is_below time (Found q id owner g) = false

-- one of some places is asked
abbrev pub is_any_asked : List Place → Bool
is_any_asked places = list_any is_asked places

-- nothing was found at one of some places, and the owner's floor was below a time
abbrev pub is_any_below : ℕ → List Place → Bool
is_any_below time places = list_any (is_below time) places

-- the message that was found at a place, if there is one
abbrev pub find_at : ℕ → Place → Option Find
find_at j (Asked number earlier) = None
find_at j (Nothing quiet) = None
find_at j (Found q id owner g) = Some (record { place = j; id = id; owner = owner; g = g })

-- the one with the lower time, and the first where the times are one
abbrev pub sooner : Option Find → Option Find → Option Find
sooner None second = second
sooner (Some a) None = Some a
sooner (Some a) (Some b) = if nat_lt b.id.time a.id.time then Some b else Some a

-- the message with the least time of `best` and of the places from `j` on, the first one where the times are one
abbrev pub soonest : Option Find → ℕ → List Place → Option Find
soonest best j [] = best
soonest best j (p ∷ places) = soonest (sooner best (find_at j p)) (j + 1) places

-- where a place is asked, or nothing was found, the spool waits; else it sends the message with the least time,
-- once each place with nothing has a floor that isn't below this time
abbrev pub choice_by : Bool → Option Find → List Place → Choice
choice_by true best places = Wait
choice_by false None places = Wait
choice_by false (Some find) places = if is_any_below find.id.time places then Fence find.id.time else Send find

-- what a spool with these places does
abbrev pub choice : List Place → Choice
choice places = choice_by (is_any_asked places) (soonest None 0 places) places

-- what is sent stands at a place below a number
abbrev pub PlaceWithin : ℕ → Choice → Type 0
PlaceWithin n Wait = Unit {0}
PlaceWithin n (Fence time) = Unit {0}
PlaceWithin n (Send find) = find.place < n
