use Rattle.std.proofs.Common.{◌≡◌, ◌++◌, drop}
use Rattle.std.specs.List.{flat_map}
use Rattle.nc_types.specs.Text.{IsBehind}
use Rattle.nc_types.specs.Written.{comma, tag_text}
use Rattle.nc_types.proofs.tags.put_more_tags.Given as goal

abbrev pub invariant-loop-tag : goal.invariant-loop-tag
invariant-loop-tag l = record {
  so_far : l.out.items ++ flat_map (comma tag_text) (drop l.tag-index l.tags) ≡ l.fn.out.items ++ flat_map (comma tag_text) l.tags;
  behind : IsBehind l.fn.out.items l.out.items;
}
