-- A theme of the owners: what each step of one owner keeps holds of each owner of a reached world.
use Rattle.std.specs.Prelude.{◌≡◌, ℕ, ◌<◌, true, List, [], ◌∷◌, map, replicate}
use Rattle.nc_types.specs.Id.{Id}
use Rattle.nc_types.specs.Channel.{owner_of}
use Rattle.nc_types.specs.Message.{Message}
use Rattle.nc_journal.specs.History.{own, onto, is_by}
use Rattle.nc_journal.specs.declared.event.Event.{Event}
use Rattle.nc_journal.specs.declared.event.Event.TheVariants.{Clock, Raised, Edged, Made}
use Rattle.nc_journal.specs.declared.alert.AlertLine.TheVariants.{EdgeAnswer}
use Rattle.nc_journal.specs.declared.word.RemovedCause.{RemovedCause}
use Rattle.nc_journal.specs.declared.word.RemovedCause.TheVariants.{Deleted, Reaped}
use Rattle.nc_slots.specs.declared.slot.Slot.{Slot}
use Rattle.nc_slots.specs.declared.slot.Slot.TheVariants.{Unused}
use Rattle.nc_owner.specs.declared.order.Order.{Order}
use Rattle.nc_owner.specs.declared.member.Member.{Member}
use Rattle.nc_owner.specs.declared.poll.PollAnswer.{PollAnswer}
use Rattle.nc_owner.specs.State.{OwnerAt, new_owner, entries_of, opened}
use Rattle.nc_owner.specs.Poll.{slot_of}
use Rattle.nc_owner.specs.Publish.{Polls, PublishPolls, publish_events, publish_alerts, publish_row, publish_after}
use Rattle.nc_owner.specs.Look.{look_events, look_alerts, look_row, look_after}
use Rattle.nc_owner.specs.Fence.{with_floor}
use Rattle.nc_owner.specs.Edge.{last_in, edged}
use Rattle.nc_owner.specs.Remove.{removal_events, removal_alerts, removed_row, removed_after}
use Rattle.nc_owner.specs.OtherSteps.{touch_events_of, touched_row, touch_after, join_events, join_after, part_events, part_after, info_alerts, polled_events, polled_row, polled_after, with_clock}
use Rattle.nc_owner_laws.specs.Aside.{IsAside}
use Rattle.nc_owner_laws.specs.HoldsKept.{HoldsFit}
use Rattle.nc_owner_laws.specs.OwnChannels.{OwnsChannels}
use Rattle.nc_owner_laws.specs.Reaping.{Keeps}
use Rattle.nc_owner_laws.specs.Weave.{weave}
use Rattle.nc_worker_state.specs.Setup.{Setup}
use Rattle.nc_world.specs.World.{World}
use Rattle.nc_world.specs.Reached.{Reached, IsSetup}

-- what is said of an owner: its slots, its local history, and itself
abbrev pub OwnerFact : Type 1
OwnerFact = List (Slot Message) → List Event → OwnerAt → Type 0

-- an owner at which a step begins: it stands for its history, its channels are its own, and the number of holds of each slot fits
pub record StepBase (setup : Setup) (me : ℕ) (row : List (Slot Message)) (counts : List ℕ) (h : List Event) (s : OwnerAt) : Type 0 where
  pub keeps : Keeps me setup.workers setup.slots setup.first row h s
  pub own : OwnsChannels setup.workers me s
  pub holds : HoldsFit row counts

-- a channel that may be removed: by a deletion any, and by a reap one that keeps nothing and nobody
abbrev pub MayGo : RemovedCause → List ℕ → OwnerAt → Type 0
MayGo Deleted c s = Unit {0}
MayGo Reaped c s = (entries_of (opened c s) ≡ []) × ((opened c s).members ≡ [])

-- the steps of owner `me` keep a fact: its own, on channels that it owns and asked by workers that are there, and all that its worker does beside it;
-- a look with a fence is one behind a raised floor, and an edge is told and answered on a channel that was touched, so that nothing more of it leaves;
-- a deletion touches a channel, removes it where it is there, and is answered beside its owner; a sweep touches one, and removes it where it may go
pub record StepsKeep (setup : Setup) (me : ℕ) (P : OwnerFact) (next : ℕ → ℕ) (row : List (Slot Message)) (counts : List ℕ) (h : List Event) (s : OwnerAt) : Type 0 where
  pub aside : (e : Event) → IsAside e → is_by me e ≡ true → P row (e ∷ h) s
  pub clock : (now : ℕ) → P row (Clock me now ∷ h) (with_clock now s)
  pub raise : (fence : ℕ) → s.desk.floor < fence → P row (Raised me fence ∷ h) (with_floor fence s)
  pub edge : (from number k : ℕ) (c : List ℕ) → owner_of setup.workers c ≡ me → from < setup.workers → touch_events_of c row s ≡ []
      → P row (Made me from (next from) (EdgeAnswer number s.desk.looks s.desk.floor (last_in c s)) ∷ Edged me s.desk.looks from number k c s.desk.floor (last_in c s) ∷ h) (edged s)
  pub join : (m : Member) (c : List ℕ) → owner_of setup.workers c ≡ me → m.from < setup.workers
      → P (touched_row c row s) (onto (weave me next (join_events m c row s) []) h) (join_after m c row s)
  pub part : (m : Member) (c : List ℕ) → owner_of setup.workers c ≡ me → m.from < setup.workers
      → P (touched_row c row s) (onto (weave me next (part_events m c row s) []) h) (part_after m c row s)
  pub info : (from r : ℕ) (c : List ℕ) → owner_of setup.workers c ≡ me → from < setup.workers
      → P (touched_row c row s) (onto (weave me next (touch_events_of c row s) (info_alerts from r c row s)) h) (touch_after c row s)
  pub touch : (c : List ℕ) → owner_of setup.workers c ≡ me
      → P (touched_row c row s) (onto (weave me next (touch_events_of c row s) []) h) (touch_after c row s)
  pub remove : (c : List ℕ) (cause : RemovedCause) → owner_of setup.workers c ≡ me → MayGo cause c s
      → P (removed_row c row s) (onto (weave me next (removal_events c cause s) (removal_alerts c s)) h) (removed_after c (last_in c s) s)
  pub look : (from number : ℕ) (c : List ℕ) (id : Id) → owner_of setup.workers c ≡ me → from < setup.workers → P (look_row from c id row s) (onto (weave me next (look_events from number c id row s) (look_alerts from number c id row s)) h) (look_after from c id row s)
  pub polled : (answers : List PollAnswer) → map slot_of answers ≡ s.desk.retired
      → P (polled_row answers row) (onto (weave me next (polled_events answers s) []) h) (polled_after answers s)
  pub publish : (from : ℕ) (o : Order) (polls : Polls) → owner_of setup.workers o.chan ≡ me → from < setup.workers
      → PublishPolls true counts o row s polls
      → P (publish_row o polls row s) (onto (weave me next (publish_events from o polls row s) (publish_alerts from o polls row s)) h) (publish_after o polls row s)

-- a theme: a fact that holds of a new owner and that each step keeps
pub record IsOwnerTheme (setup : Setup) (me : ℕ) (P : OwnerFact) : Type 0 where
  pub new : P (replicate setup.slots Unused) [] (new_owner me setup.workers setup.slots setup.first)
  pub step : (next : ℕ → ℕ) (row : List (Slot Message)) (counts : List ℕ) (h : List Event) (s : OwnerAt) → StepBase setup me row counts h s
      → P row h s → StepsKeep setup me P next row counts h s

-- it holds of that owner in each reached world
abbrev pub OwnerThemeHolds : Setup → ℕ → OwnerFact → Type 0
OwnerThemeHolds setup me P = IsSetup setup → IsOwnerTheme setup me P → (h : List Event) (world : World) → Reached setup h world
    → P (world.rows me) (own me h) (world.workers me).owner
