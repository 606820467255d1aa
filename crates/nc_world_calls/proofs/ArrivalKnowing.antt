-- Where a subscriber comes, the places of spools hold.
use Rattle.std.proofs.Common.{List, subst}
use Rattle.std.specs.List.{AllByRecursion}
use Rattle.nc_journal.specs.declared.event.Event.{Event}
use Rattle.nc_journal.specs.declared.word.EndedCause.TheVariants.{Answered}
use Rattle.nc_spool.specs.Calls.{board_of, arrive_facts, arrive_after}
use Rattle.nc_spool_laws.specs.Knowing.{IsKnowing}
use Rattle.nc_spool_laws.proofs.Knowledge.{knowing-kept}
use Rattle.nc_spool_laws.proofs.Lists.{all-changed}
use Rattle.nc_world_told.specs.Written.{written}
use Rattle.nc_world_told.specs.Known.{PlacesHold}
use Rattle.nc_world_told.proofs.Written.{written_is, place_written}
use Rattle.nc_world_calls.specs.Arriving.{ArrivalKnows}
use Rattle.nc_world_calls.proofs.Knowing.{Was, Rested, Came, knows_of, holds_of, all_were}

pub arrival_knows : ArrivalKnows
arrival_knows workers me next k list start once s h holds =
    subst (λ (l : List Event). AllByRecursion (PlacesHold workers me l) (arrive_after k list start once s).shelf) (written_is me Answered next (arrive_facts k list start once s) h) at_end
  where
    at_end : AllByRecursion (PlacesHold workers me (written me Answered next (arrive_facts k list start once s) h)) (arrive_after k list start once s).shelf
    at_end =
        let l : List Event = written me Answered next (arrive_facts k list start once s) h in
        all-changed (IsKnowing (Was workers me l) (Rested workers me l) (Came workers me l)) (PlacesHold workers me l) (arrive_after k list start once s).shelf (λ x f j lt. holds_of workers me l _ _ _ (f j lt))
        ((knowing-kept (Was workers me l) (Rested workers me l) (Came workers me l)).arrive (record { k = k; once = once }) list start (board_of s) tt
        (λ w. all-changed (PlacesHold workers me h) (IsKnowing (Was workers me l) (Rested workers me l) (Came workers me l)) s.shelf
        (λ x f j lt. knows_of workers me l _ _ _ (place_written workers me _ _ _ me Answered next (arrive_facts k list start once s) h (f j lt))) holds)
        (all_were workers me Answered (Rested workers me l) (Came workers me l) next (arrive_facts k list start once s) h))
