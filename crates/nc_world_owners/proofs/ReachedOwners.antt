-- The themes of owners in each reached world.
use Rattle.std.proofs.Common.{ℕ, List}
use Rattle.nc_journal.specs.History.{own}
use Rattle.nc_journal.specs.declared.event.Event.{Event}
use Rattle.nc_worker_state.specs.Setup.{Setup}
use Rattle.nc_world.specs.World.{World}
use Rattle.nc_world.specs.Reached.{Reached, IsSetup}
use Rattle.nc_world_laws.proofs.Moving.{reached_is_good}
use Rattle.nc_world_laws.proofs.Themes.{owner_theme_holds}
use Rattle.nc_world_owners.specs.LocalLaws.{SlotsAreStaged, SlotsAreTaken, SlotsAreCounted, GrantsAreFew, AnswersAreNew, ChannelsAreOwned, AsksAreFromWorkers, MessagesLeaveByRule}
use Rattle.nc_world_owners.specs.WholeLaws.{HistoriesAreStamped, HistoriesLeaveByRule, HistoriesAreOfOwners, OwnersTellBuffers, HistoriesArePosted}
use Rattle.nc_world_owners.proofs.Slots.{SlotsKept, SlotsFact, slots_theme}
use Rattle.nc_world_owners.proofs.LeavingLocal.{LeavingFacts, LeavingFact, leaving_theme}
use Rattle.nc_world_owners.proofs.Gluing.{stamped_all, published_own, buffer_own}
use Rattle.nc_world_owners.proofs.Channels.{whole_owned, whole_asked, own_all}
use Rattle.nc_world_owners.proofs.LeavingWhole.{KeepBuffers, leaves_whole}
use Rattle.nc_world_owners.specs.ByOwner.{IsByChannelOwner, IsAskedFrom}
use Rattle.nc_history.proofs.Prefixes.{taken_is_prefix}

module _ (setup : Setup) (h : List Event) (world : World) (is : IsSetup setup) (r : Reached setup h world) where
  pub slots_kept : (v : ℕ) → SlotsKept setup.slots (world.rows v) (own v h)
  slots_kept v = owner_theme_holds setup v (SlotsFact setup) is (slots_theme setup v) h world r

  pub leaving_facts : (v : ℕ) → LeavingFacts setup (world.rows v) (own v h)
  leaving_facts v = owner_theme_holds setup v (LeavingFact setup) is (leaving_theme setup is v) h world r

  pub keep_buffers : KeepBuffers setup.workers h
  keep_buffers = let g = reached_is_good setup h world is r in record { stamped = λ v. (g.keeps v).stands.stamped; stored = λ v. (g.keeps v).stands.stored }

-- ---- each owner

pub slots_are_staged : SlotsAreStaged
slots_are_staged setup h world is r v = (slots_kept setup h world is r v).staged

pub slots_are_taken : SlotsAreTaken
slots_are_taken setup h world is r v = (slots_kept setup h world is r v).taken

pub slots_are_counted : SlotsAreCounted
slots_are_counted setup h world is r v = (leaving_facts setup h world is r v).grants.counted

pub grants_are_few : GrantsAreFew
grants_are_few setup h world is r v = (leaving_facts setup h world is r v).grants.few

pub answers_are_new : AnswersAreNew
answers_are_new setup h world is r v = ((reached_is_good setup h world is r).keeps v).new_answers

pub messages_leave_by_rule : MessagesLeaveByRule
messages_leave_by_rule setup h world is r v = (leaving_facts setup h world is r v).leaves

-- ---- the whole history

pub histories_are_stamped : HistoriesAreStamped
histories_are_stamped setup h world is r = stamped_all setup.workers h (keep_buffers setup h world is r).stamped

pub histories_are_of_owners : HistoriesAreOfOwners
histories_are_of_owners setup h world is r =
    let k = keep_buffers setup h world is r in
    let a = λ (v : ℕ). (leaving_facts setup h world is r v).grants.asked in
    (whole_owned setup.workers h k.stamped k.stored a, whole_asked setup.workers h a)

pub channels_are_owned : ChannelsAreOwned
channels_are_owned setup h world is r v = own_all (IsByChannelOwner setup.workers) v h (histories_are_of_owners setup h world is r).0

pub asks_are_from_workers : AsksAreFromWorkers
asks_are_from_workers setup h world is r v = own_all (IsAskedFrom setup.workers) v h (histories_are_of_owners setup h world is r).1

pub owners_tell_buffers : OwnersTellBuffers
owners_tell_buffers setup h world is r c =
    let k = keep_buffers setup h world is r in
    (published_own setup.workers c h (histories_are_stamped setup h world is r), buffer_own setup.workers c h k.stamped k.stored)

pub histories_leave_by_rule : HistoriesLeaveByRule
histories_leave_by_rule setup h world is r =
    leaves_whole setup.workers h (histories_are_of_owners setup h world is r).0 (keep_buffers setup h world is r) (messages_leave_by_rule setup h world is r)

pub histories_are_posted : HistoriesArePosted
histories_are_posted setup h world is r = ((reached_is_good setup h world is r).posted, λ v w. taken_is_prefix v w h)
