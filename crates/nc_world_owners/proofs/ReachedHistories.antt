-- Of the slot rule and of the post what holds of the whole history of each reached world.
use Rattle.std.proofs.Common.{List}
use Rattle.nc_journal.specs.declared.event.Event.{Event}
use Rattle.nc_worker_state.specs.Setup.{Setup}
use Rattle.nc_world.specs.World.{World}
use Rattle.nc_world.specs.Reached.{Reached, IsSetup}
use Rattle.nc_world_laws.proofs.Moving.{reached_is_good}
use Rattle.nc_world_laws.proofs.WorldThemes.{world_theme_holds}
use Rattle.nc_world_owners.specs.Pairs.{PacketsAreBetween, CountsAreTold, HistoriesTakeSlots, GrantsAreDrawnOnce}
use Rattle.nc_world_owners.proofs.Between.{PairsKept, PairsFact, pairs_theme, none_beyond}
use Rattle.nc_world_owners.proofs.Drawing.{slots_whole, drawn_whole}
use Rattle.nc_world_owners.proofs.ReachedOwners.{slots_kept}

pairs_kept : (setup : Setup) (h : List Event) (world : World) → IsSetup setup → Reached setup h world → PairsKept setup h
pairs_kept setup h world is r = world_theme_holds setup (PairsFact setup) is (pairs_theme setup is) h world r

pub packets_are_between : PacketsAreBetween
packets_are_between setup h world is r = let k = pairs_kept setup h world is r in (k.between, λ v w far. none_beyond setup.workers v w h k.between far)

pub counts_are_told : CountsAreTold
counts_are_told setup h world is r = (pairs_kept setup h world is r).told

pub histories_take_slots : HistoriesTakeSlots
histories_take_slots setup h world is r = slots_whole setup.slots h (λ v. (slots_kept setup h world is r v).taken)

pub grants_are_drawn_once : GrantsAreDrawnOnce
grants_are_drawn_once setup h world is r = drawn_whole setup.first h (λ v. ((reached_is_good setup h world is r).keeps v).ordered.draws)
