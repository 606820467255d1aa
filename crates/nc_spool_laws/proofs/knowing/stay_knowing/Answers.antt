use Rattle.std.proofs.Common.{◌≡◌, true}
use Rattle.nc_spool_laws.proofs.Knowledge.{knowing-kept}
use Rattle.nc_spool_laws.proofs.knowing.stay_knowing.Goals as goal

pub returns : goal.returns
returns c = λ was rested came. knowing-kept (λ number d after. was number d after ≡ true) (λ d after quiet. rested d after quiet ≡ true) (λ d after q news. came d after q news ≡ true)
