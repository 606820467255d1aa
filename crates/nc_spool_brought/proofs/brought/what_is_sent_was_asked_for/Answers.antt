use Rattle.std.proofs.Common.{◌≡◌, true}
use Rattle.nc_spool_brought.proofs.Coming.{came-kept}
use Rattle.nc_spool_brought.proofs.brought.what_is_sent_was_asked_for.Goals as goal

pub returns : goal.returns
returns c = λ first was came. came-kept first (λ number d after. was number d after ≡ true) (λ d news. came d news ≡ true)
