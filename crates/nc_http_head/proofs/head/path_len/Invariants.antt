use Rattle.std.proofs.Common.{◌≡◌, ◌+◌, drop}
use Rattle.nc_http_head.specs.Heads.{path_len}
use Rattle.nc_http_head.proofs.head.path_len.Given as goal

abbrev pub invariant-loop-i : goal.invariant-loop-i
invariant-loop-i l = path_len l.target ≡ l.i + path_len (drop l.i l.target)
