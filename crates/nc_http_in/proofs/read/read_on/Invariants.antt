use Rattle.std.proofs.Common.{◌-◌, ◌≤◌, length, drop}
use Rattle.nc_http_in.specs.Reading.{part_of, Reaches}
use Rattle.nc_http_in.proofs.read.read_on.Given as goal

abbrev pub invariant-loop-next : goal.invariant-loop-next
invariant-loop-next l = record { within : l.from ≤ length l.text; reached : Reaches (part_of l.fn.first) l.text l.stage (drop l.from l.text) }

abbrev pub decreases-loop-next : goal.decreases-loop-next
decreases-loop-next l = length l.text - l.from
