use Rattle.std.proofs.Common.{◌≡◌, take}
use Rattle.std.specs.Option.{option_copied}
use Rattle.nc_route.proofs.place.longest.Given as goal
use Rattle.nc_route.specs.Steps.{longest}

abbrev pub invariant-loop-location : goal.invariant-loop-location
invariant-loop-location l = option_copied l.best ≡ longest l.path (take l.location-index l.locations)
