use Rattle.std.proofs.Common.{rules, ap, ◌∙◌}
use Rattle.std.specs.Prelude.{Some}
use Rattle.nc_accept.proofs.Values.{first_at}
use Rattle.nc_accept.proofs.fields.first_value.Goals as goal

pub returns-then-is_called : goal.returns-then-is_called
returns-then-is_called c = ap Some c.as_slice.ensures ∙ first_at c.args.name.now c.args.fields.now c.loop-field.field-index c.field-item.result (search rules) (search rules) c.loop-field.invariant (search rules)
