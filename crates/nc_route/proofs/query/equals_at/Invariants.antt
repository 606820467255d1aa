use Rattle.std.proofs.Common.{◌≡◌, ◌+◌, drop}
use Rattle.std.specs.List.{position_or_len}
use Rattle.nc_route.specs.Query.{is_equals}
use Rattle.nc_route.proofs.query.equals_at.Given as goal

abbrev pub invariant-loop-place : goal.invariant-loop-place
invariant-loop-place l = position_or_len is_equals l.piece ≡ l.place + position_or_len is_equals (drop l.place l.piece)
