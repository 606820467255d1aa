use Rattle.std.proofs.Common.{◌≡◌, map, take}
use Rattle.nc_route.specs.Query.{id_value}
use Rattle.nc_route.proofs.query.id_values.Given as goal

abbrev pub invariant-loop-id : goal.invariant-loop-id
invariant-loop-id l = l.values ≡ map (id_value l.query) (take l.id-index l.ids)
