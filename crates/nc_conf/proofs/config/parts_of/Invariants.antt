use Rattle.std.proofs.Common.{◌≡◌, ◌++◌, map, take}
use Rattle.std.specs.List.{flat_map}
use Rattle.nc_conf.specs.Value.{arg_parts}
use Rattle.nc_conf.proofs.config.parts_of.Given as goal

abbrev pub invariant-loop-piece : goal.invariant-loop-piece
invariant-loop-piece l = l.parts ≡ l.initial.parts ++ flat_map arg_parts (map (λ p. p.now) (take l.piece-index l.others))
