-- The seconds of a clock.
use Rattle.std.specs.Prelude.{ℕ, ◌≤◌}
use Rattle.nc_types.specs.Id.{latest_clock}

-- seconds since 1970, up to the year 2100
abbrev pub IsClock : ℕ → Type 0
IsClock t = t ≤ latest_clock
