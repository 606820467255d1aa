use Rattle.std.proofs.Common.{◌≡◌, true}
use Rattle.nc_spool_brought.proofs.Bringing.{brought-kept}
use Rattle.nc_spool_brought.proofs.brought.what_is_sent_was_brought.Goals as goal

pub returns : goal.returns
returns c = λ came. brought-kept (λ d q news. came d q news ≡ true)
