use Rattle.std.proofs.Common.{◌≡◌, ◌++◌, map, drop}
use Rattle.nc_owner.specs.AlertLines.{out_lines}
use Rattle.nc_owner.specs.Remove.{gone_line, gones}
use Rattle.nc_owner.proofs.remove.tell_gone.Given as goal

abbrev pub invariant-loop-worker : goal.invariant-loop-worker
invariant-loop-worker g l = out_lines l.alerts ++ map (gone_line l.name l.channel.members) (drop l.worker-index l.worker-items) ≡ gones l.name l.channel
