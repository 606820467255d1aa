use Rattle.std.proofs.Common.{sym, subst, Option}
use Rattle.nc_types.specs.declared.config.Location.{Location}
use Rattle.nc_route.specs.Place.{IsLocationOf}
use Rattle.nc_route.proofs.Places.{is_location}
use Rattle.nc_route.proofs.place.location_of.Goals as goal

pub returns : goal.returns
returns c = subst (λ (o : Option Location). IsLocationOf c.args.path.now c.args.locations.now o) (sym c.found.ensures) (is_location c.args.path.now c.args.locations.now)
