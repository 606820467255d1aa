use Rattle.std.proofs.Common.{◌≡◌, map, take}
use Rattle.nc_conf.specs.Config.{id_of}
use Rattle.nc_conf.proofs.config.each_id.Given as goal

abbrev pub invariant-loop-word : goal.invariant-loop-word
invariant-loop-word l = l.ids ≡ map id_of (take l.word-index l.args)
