use Rattle.std.proofs.Common.{◌≡◌, ◌++◌, ◌+◌, drop}
use Rattle.nc_types.specs.Text.{IsBehind}
use Rattle.nc_types.specs.Written.{tags_from}
use Rattle.nc_types.proofs.tags.put_tags_from.Given as goal

abbrev pub invariant-loop-j : goal.invariant-loop-j
invariant-loop-j l = record {
  so_far : l.out.items ++ tags_from l.i (l.j + 1) (drop l.j l.tags) ≡ l.fn.out.items ++ tags_from l.i 1 l.tags;
  behind : IsBehind l.fn.out.items l.out.items;
}
