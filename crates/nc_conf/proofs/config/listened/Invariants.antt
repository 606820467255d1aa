use Rattle.std.proofs.Common.{◌≡◌, ◌++◌, drop, codes}
use Rattle.std.specs.Prelude.{filter}
use Rattle.std.specs.List.{filter_map}
use Rattle.nc_conf.specs.Config.{listened, has_name}
use Rattle.nc_conf.proofs.config.listened.Given as goal

abbrev pub invariant-loop-d : goal.invariant-loop-d
invariant-loop-d l = filter_map listened (filter (has_name (codes "listen")) l.directives) ≡ l.listen ++ filter_map listened (filter (has_name (codes "listen")) (drop l.d-index l.directives))
