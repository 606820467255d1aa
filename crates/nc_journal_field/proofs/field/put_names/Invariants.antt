use Rattle.std.proofs.Common.{◌≡◌, ◌++◌, take}
use Rattle.std.specs.List.{flat_map}
use Rattle.nc_types.specs.Text.{quoted}
use Rattle.nc_types.specs.Written.{comma}
use Rattle.nc_journal_field.proofs.field.put_names.Given as goal

abbrev pub invariant-loop-name : goal.invariant-loop-name
invariant-loop-name l = l.out.items ≡ l.initial.out.items ++ flat_map (comma quoted) (take l.name-index l.rest)
