use Rattle.std.proofs.Common.{◌≡◌, take, map}
use Rattle.nc_http_head.specs.Covered.{field_at}
use Rattle.nc_http_head.proofs.head.fields_at.Given as goal

abbrev pub invariant-loop-span : goal.invariant-loop-span
invariant-loop-span l = l.fields.items ≡ map (field_at l.text) (take l.span-index l.spans)
