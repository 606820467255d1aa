use Rattle.std.proofs.lemmas.Result.{err_from_is_err_and}
use Rattle.nc_owner.proofs.owner.Owner.remove.Goals as goal

pub returns-in_err-push-clause-gone : goal.returns-in_err-push-clause-gone
returns-in_err-push-clause-gone g c = let p = err_from_is_err_and c.from_residual-in_err-push.result c.from_residual-in_err-push.ensures.1 in rw p.1 tt
