use Rattle.std.proofs.Common.{◌≡◌, take}
use Rattle.std.specs.Option.{option_copied, option_to_list}
use Rattle.nc_accept.specs.Fields.{values}
use Rattle.nc_accept.proofs.fields.only_value.Given as goal

abbrev pub invariant-loop-field : goal.invariant-loop-field
invariant-loop-field l = option_to_list (option_copied l.found) ≡ values l.name (take l.field-index l.fields)
