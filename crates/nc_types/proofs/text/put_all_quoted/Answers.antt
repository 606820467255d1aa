use Rattle.std.proofs.Common.{◌∙◌}
use Rattle.nc_types.proofs.Behind.{by-itself}
use Rattle.nc_types.proofs.text.put_all_quoted.Goals as goal

pub returns-in_err-push-2-clause-err : goal.returns-in_err-push-2-clause-err
returns-in_err-push-2-clause-err c = by-itself c.from_residual-in_err-push-2.result _ (_, c.in_err-push-2.ensures.items ∙ c.loop-byte.invariant)
