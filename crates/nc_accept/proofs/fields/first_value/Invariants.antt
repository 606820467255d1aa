use Rattle.std.proofs.Common.{◌≡◌, [], take}
use Rattle.nc_accept.specs.Fields.{values}
use Rattle.nc_accept.proofs.fields.first_value.Given as goal

abbrev pub invariant-loop-field : goal.invariant-loop-field
invariant-loop-field l = values l.name (take l.field-index l.fields) ≡ []
