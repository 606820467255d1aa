use Rattle.std.proofs.Common.{◌≡◌, ◌++◌, drop}
use Rattle.nc_spool_state.specs.Shelf.{keys_with}
use Rattle.nc_spool_state.proofs.shelf.Shelf.keys_with.Given as goal

abbrev pub invariant-loop-spool : goal.invariant-loop-spool
invariant-loop-spool l = l.keys.items ++ keys_with l.chan (drop l.spool-index l.spool-items) ≡ keys_with l.chan l.self
