-- What a spool knows of one of its channels.
use Rattle.std.specs.Prelude.{ℕ, Bool, true, false, List, Option, ◌==◌}
use Rattle.std.specs.List.{list_any, position}
use Rattle.nc_spool_state.specs.declared.place.Place.{Place}
use Rattle.nc_spool_state.specs.declared.place.Place.TheVariants.{Asked, Nothing, Found}

-- a look is in flight
abbrev pub is_asked : Place → Bool
is_asked (Asked number earlier) = true
is_asked (Nothing quiet) = false
is_asked (Found q id owner g) = false

-- the look of this number is in flight
abbrev pub awaits_number : ℕ → Place → Bool
awaits_number number (Asked awaited earlier) = awaited == number
awaits_number number (Nothing quiet) = false
awaits_number number (Found q id owner g) = false

-- the number of the look that a place rests on, where none is in flight
abbrev pub look_number : Place → ℕ
look_number (Asked number earlier) = 0
look_number (Nothing quiet) = quiet.q
look_number (Found q id owner g) = q

-- one of some places awaits the look of this number
abbrev pub is_awaited : ℕ → List Place → Bool
is_awaited number places = list_any (awaits_number number) places

-- the place that does, if there is one
abbrev pub place_awaiting : ℕ → List Place → Option ℕ
place_awaiting number places = position (awaits_number number) places
