-- Those who wait at a spool where nothing was found lack nothing.
use Rattle.std.proofs.Common.{◌≡◌, ℕ, false, List, subst}
use Rattle.std.specs.List.{AllByRecursion}
use Rattle.nc_types.specs.Id.{Id, IsPast, is_past}
use Rattle.nc_types.specs.Cursor.{cursor_id}
use Rattle.nc_types.specs.Channel.{owner_of}
use Rattle.nc_journal.specs.History.{own}
use Rattle.nc_journal.specs.Message.{buffer}
use Rattle.nc_journal.specs.declared.event.Event.{Event}
use Rattle.nc_journal.proofs.Cuts.{all-weaker}
use Rattle.nc_journal.proofs.Ids.{not_past_of_test}
use Rattle.nc_owner_laws.specs.Behind.{NothingIsPast}
use Rattle.nc_rests.specs.Owners.{Owners}
use Rattle.nc_rests.specs.Rests.{Rest, Nothing, Found, RestsAt}
use Rattle.nc_rests.specs.Spools.{FoundNothing, QuietSpools}
use Rattle.nc_rests.specs.Telling.{OwnerTells, TookAll}
use Rattle.nc_rests.proofs.Lists.{all_at, at_length}
use Rattle.nc_rests.proofs.Locals.{buffer_own}
use Rattle.nc_rests.proofs.Notices.{nothing_lacks}

lacks_at : (workers w : ℕ) (d : List ℕ) (after : Id) (r : Rest) (h : List Event) → Owners workers h → OwnerTells (owner_of workers d) (own (owner_of workers d) h) → TookAll (owner_of workers d) w h → FoundNothing r → RestsAt workers w d after r h → AllByRecursion (λ m. IsPast m.id after → ⊥) (buffer d h)
lacks_at workers w d after (Nothing q floor) h g tells all is_nothing k =
    all-weaker (λ m. is_past m.id after ≡ false) (λ m. IsPast m.id after → ⊥) (λ m p. not_past_of_test m.id after p) (buffer d h) (subst (NothingIsPast after) (buffer_own workers d h g.by_owner) (nothing_lacks workers w d after q floor h tells all k))
lacks_at workers w d after (Found q m) h g tells all none k = absurd none

pub quiet_spools : QuietSpools
quiet_spools workers w list once cur rests h g tells all s none = λ j d at_j.
    let r = at_length list rests j d s.places at_j in
    lacks_at workers w d (cursor_id cur j) r.0 h g (tells (owner_of workers d)) (all (owner_of workers d)) (all_at FoundNothing rests j r.0 none r.1) (s.rest j d r.0 at_j r.1)
