use Rattle.std.proofs.Common.{◌≡◌, ◌+◌, drop}
use Rattle.nc_http_head.specs.Ends.{end_from, place_over}
use Rattle.nc_http_head.proofs.ends.find_end.Given as goal

abbrev pub invariant-loop-i : goal.invariant-loop-i
invariant-loop-i l = (end_from l.seen l.fn.place l.rest ≡ end_from (l.seen + l.i) l.next (drop l.i l.rest)) × (place_over l.fn.place l.rest ≡ place_over l.next (drop l.i l.rest))
