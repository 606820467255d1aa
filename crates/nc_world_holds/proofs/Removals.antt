-- What removals tell: entries leave, channels go, and who belongs to them is told; nothing is granted.
use Rattle.std.proofs.Common.{◌≡◌, ℕ, Bool, true, false, cond, List, [], ◌∷◌, Option, Some, None, map}
use Rattle.std.specs.List.{AllByRecursion}
use Rattle.nc_types.specs.Id.{Id}
use Rattle.nc_types.specs.Message.{Message}
use Rattle.nc_types.specs.declared.info.Info.{Info}
use Rattle.nc_journal.specs.declared.event.Event.{Event}
use Rattle.nc_journal.specs.declared.event.Event.TheVariants.{Left, Granted, Removed}
use Rattle.nc_journal.specs.declared.word.LeftCause.{LeftCause}
use Rattle.nc_journal.specs.declared.word.LeftCause.TheVariants.{Expired, Deleted}
use Rattle.nc_journal.specs.declared.word.RemovedCause.{RemovedCause}
use Rattle.nc_journal.specs.declared.word.RemovedCause.TheVariants.{Deleted as ByDeletion}
use Rattle.nc_journal.specs.declared.alert.AlertLine.TheVariants.{DelAnswer, Gone}
use Rattle.nc_buffer.specs.Buffer.{is_expired}
use Rattle.nc_buffer.specs.declared.entry.Entry.{Entry}
use Rattle.nc_slots.specs.declared.slot.Slot.{Slot}
use Rattle.nc_owner.specs.declared.member.Member.{Member}
use Rattle.nc_owner.specs.AlertLines.{OutLine}
use Rattle.nc_owner.specs.Edge.{last_in}
use Rattle.nc_owner.specs.Leave.{left_event, leavers}
use Rattle.nc_owner.specs.OtherSteps.{touch_events_of, touch_after, touched_of}
use Rattle.nc_owner.specs.Publish.{info_of}
use Rattle.nc_owner.specs.Remove.{removal_lefts, concerned, gone_line, delete_answer, delete_events, delete_alerts, events_of_removal, alerts_of_removal}
use Rattle.nc_owner.specs.State.{OwnerAt, bench_of, entries_of, exists, opened}
use Rattle.nc_owner_laws.specs.OwnChannels.{OwnsChannels}
use Rattle.nc_owner_laws.specs.Sweeping.{IsOfRemovals, SweepsAre}
use Rattle.nc_owner_laws.proofs.Sweeping.{reaps_are}
use Rattle.nc_worker_state.specs.Incoming.{Incoming, TakesPacket, ClockReads, Reaps, Posts, Subscribes, Removes, Informs}
use Rattle.nc_worker_state.specs.Owned.{Holding, StepPolls, owned_in}
use Rattle.nc_world_laws.proofs.Local.{all_append}

-- ---- a deletion

-- what holds wherever an entry leaves or a channel goes holds of its events
module _ (P : Event → Type 0) (leaves : (w : ℕ) (c : List ℕ) (id : Id) (slot : ℕ) (cause : LeftCause) → P (Left w c id slot cause)) (goes_so : (w : ℕ) (c : List ℕ) (last : Id) (cause : RemovedCause) → P (Removed w c last cause)) where
  lefts_so : (w : ℕ) (c : List ℕ) (cause : LeftCause) (es : List Entry) → AllByRecursion P (map (left_event w c cause) es)
  lefts_so w c cause [] = tt
  lefts_so w c cause (e ∷ es) = (leaves w c e.id e.slot cause, lefts_so w c cause es)

  removal_so : (goes : Bool) (cause : RemovedCause) (c : List ℕ) (s : OwnerAt) → AllByRecursion P (events_of_removal goes cause c s)
  removal_so true cause c s = all_append P (removal_lefts c Deleted s) _ (lefts_so s.desk.me c Deleted (entries_of (opened c s))) (goes_so s.desk.me c (last_in c s) cause, tt)
  removal_so false cause c s = tt

  pub deletion_does : (c : List ℕ) (row : List (Slot Message)) (s : OwnerAt) → AllByRecursion P (delete_events c row s)
  deletion_does c row s = all_append P (touch_events_of c row s) _ (lefts_so s.desk.me c Expired (leavers (is_expired s.desk.clock) (bench_of c row s))) (removal_so (exists c s) ByDeletion c (touch_after c row s))

-- and what holds wherever it is told that a channel is gone, or a deletion is answered, holds of its alerts
module _ (Q : OutLine → Type 0) (gone : (to : ℕ) (c subs : List ℕ) → Q (record { to = to; line = Gone c subs })) (answered : (to r status : ℕ) (info : Option Info) → Q (record { to = to; line = DelAnswer r status info })) where
  gones_so : (c : List ℕ) (ms : List Member) (ws : List ℕ) → AllByRecursion Q (map (gone_line c ms) ws)
  gones_so c ms [] = tt
  gones_so c ms (w ∷ ws) = (gone w c _, gones_so c ms ws)

  told_so : (goes : Bool) (c : List ℕ) (s : OwnerAt) → AllByRecursion Q (alerts_of_removal goes c s)
  told_so true c s = gones_so c (opened c s).members (concerned (opened c s))
  told_so false c s = tt

  answer_so : (b : Bool) (from r : ℕ) (info : Option Info) → Q (cond b (delete_answer from r 200 info) (delete_answer from r 404 None))
  answer_so true from r info = answered from r 200 info
  answer_so false from r info = answered from r 404 None

  pub deletion_tells : (from r : ℕ) (c : List ℕ) (row : List (Slot Message)) (s : OwnerAt) → AllByRecursion Q (delete_alerts from r c row s)
  deletion_tells from r c row s = all_append Q (alerts_of_removal (exists c s) c (touch_after c row s)) _ (told_so (exists c s) c (touch_after c row s)) (answer_so (exists c s) from r (Some (info_of (touched_of c row s).channel)), tt)

-- ---- a reap

-- the sweeps of an owner's part are those of a reap, or none
pub sweeps_are : (workers me : ℕ) (polls : StepPolls) (incoming : Incoming) (s : Holding) → s.owner.desk.me ≡ me → OwnsChannels workers me s.owner → SweepsAre workers me (owned_in polls incoming s).sweeps
sweeps_are workers me polls (TakesPacket from p) s is owns = record { events = tt; alerts = tt }
sweeps_are workers me polls (ClockReads t) s is owns = record { events = tt; alerts = tt }
sweeps_are workers me polls Reaps s is owns = reaps_are workers me s.row s.owner is owns
sweeps_are workers me polls (Posts c body) s is owns = record { events = tt; alerts = tt }
sweeps_are workers me polls (Subscribes k list start) s is owns = record { events = tt; alerts = tt }
sweeps_are workers me polls (Removes c) s is owns = record { events = tt; alerts = tt }
sweeps_are workers me polls (Informs c) s is owns = record { events = tt; alerts = tt }

-- ---- grants

abbrev pub IsUngranted : Event → Type 0
IsUngranted (Granted w g slot to) = ⊥
IsUngranted _ = Unit {0}

-- a removal grants nothing
pub removal_ungranted : (workers me : ℕ) (e : Event) → IsOfRemovals workers me e → IsUngranted e
removal_ungranted workers me (Granted w g slot to) r = absurd r
removal_ungranted workers me e r = tt

pub deletion_ungranted : (c : List ℕ) (row : List (Slot Message)) (s : OwnerAt) → AllByRecursion IsUngranted (delete_events c row s)
deletion_ungranted c row s = deletion_does IsUngranted (λ w d id slot cause. tt) (λ w d last cause. tt) c row s
