use Rattle.std.proofs.Common.{rules}
use Rattle.std.specs.Option.{option_copied}
use Rattle.nc_accept.proofs.Values.{second_at}
use Rattle.nc_accept.proofs.fields.only_value.Goals as goal

pub returns-then-is_some : goal.returns-then-is_some
returns-then-is_some c = second_at c.args.name.now c.args.fields.now c.loop-field.field-index c.field-item.result (option_copied c.loop-field.found) (search rules) (search rules) c.loop-field.invariant (search rules) (search rules)
