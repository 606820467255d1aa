use Rattle.std.proofs.Common.{◌≡◌, ◌+◌, drop}
use Rattle.nc_http_head.specs.Ends.{line_from}
use Rattle.nc_http_head.proofs.ends.find_line.Given as goal

abbrev pub invariant-loop-i : goal.invariant-loop-i
invariant-loop-i l = line_from l.seen l.rest ≡ line_from (l.seen + l.i) (drop l.i l.rest)
