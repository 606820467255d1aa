-- Owners of reached worlds tell what places need.
use Rattle.std.proofs.Common.{ℕ, List}
use Rattle.nc_journal.specs.History.{own}
use Rattle.nc_journal.specs.declared.event.Event.{Event}
use Rattle.nc_journal.specs.declared.event.Event.TheVariants.{Looked, Edged}
use Rattle.nc_worker_state.specs.Setup.{Setup}
use Rattle.nc_world.specs.World.{World}
use Rattle.nc_world.specs.Reached.{IsSetup, Reached}
use Rattle.nc_world_laws.proofs.Local.{all_of}
use Rattle.nc_world_laws.proofs.Moving.{reached_is_good}
use Rattle.nc_world_owners.specs.ByOwner.{IsByChannelOwner}
use Rattle.nc_world_owners.proofs.ReachedOwners.{channels_are_owned}
use Rattle.nc_rests.specs.ShowsForSends.{AskIsOfOwner, ShowsForSends}
use Rattle.nc_rests.proofs.OwnerShows.{stands_for_sends}
use Rattle.nc_rests.proofs.Whole.{owners_keep}
use Rattle.nc_world_places.specs.Places.{ReachedOwnersTell}

of_owner : (workers : ℕ) (e : Event) → IsByChannelOwner workers e → AskIsOfOwner workers e
of_owner workers (Looked w q from number c after floor found) is = is
of_owner workers (Edged w q from number k c floor last) is = is
of_owner workers e is = tt

shows : (setup : Setup) (h : List Event) (world : World) → IsSetup setup → Reached setup h world → (o : ℕ) → ShowsForSends o setup.workers (own o h)
shows setup h world is r o =
    let k = (reached_is_good setup h world is r).keeps o in
    stands_for_sends o setup.workers setup.slots setup.first (world.rows o) (own o h) (world.workers o).owner k.stands k.ordered k.new_answers
    (all_of (IsByChannelOwner setup.workers) (AskIsOfOwner setup.workers) (of_owner setup.workers) (own o h) (channels_are_owned setup h world is r o))

pub reached_owners_tell : ReachedOwnersTell
reached_owners_tell setup h world is r = record {
  owners = owners_keep setup.workers h (λ o. (shows setup h world is r o).keeps);
  answers = λ o. ((reached_is_good setup h world is r).keeps o).ordered.answers;
  tells = λ o. (shows setup h world is r o).tells;
}
