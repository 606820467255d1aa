-- The stages of an owner's slots, by the last event that names each, are those that its row shows.
use Rattle.std.specs.Prelude.{◌≡◌, ℕ, Bool, List, [], map, replicate}
use Rattle.nc_types.specs.Id.{Id}
use Rattle.nc_types.specs.Message.{Message}
use Rattle.nc_journal.specs.History.{onto}
use Rattle.nc_journal.specs.Holding.{SlotStage, Unused as UnusedStage, Buffered as BufferedStage, Retired as RetiredStage, slot_stage}
use Rattle.nc_journal.specs.declared.event.Event.{Event}
use Rattle.nc_journal.specs.declared.word.RemovedCause.{RemovedCause}
use Rattle.nc_slots.specs.declared.slot.Slot.{Slot}
use Rattle.nc_slots.specs.declared.slot.Slot.TheVariants.{Unused, Buffered, Retired}
use Rattle.nc_slots.specs.Slot.{slot_at}
use Rattle.nc_owner.specs.declared.member.Member.{Member}
use Rattle.nc_owner.specs.declared.order.Order.{Order}
use Rattle.nc_owner.specs.declared.poll.PollAnswer.{PollAnswer}
use Rattle.nc_owner.specs.State.{OwnerAt}
use Rattle.nc_owner.specs.Poll.{slot_of}
use Rattle.nc_owner.specs.Publish.{Polls, PublishPolls, publish_events, publish_alerts, publish_row}
use Rattle.nc_owner.specs.Look.{look_events, look_alerts, look_row}
use Rattle.nc_owner.specs.OtherSteps.{touch_events_of, touched_row, join_events, part_events, info_alerts, polled_events, polled_row}
use Rattle.nc_owner.specs.Remove.{removed_row}
use Rattle.nc_owner_laws.specs.OwnerFits.{OwnerFits}
use Rattle.nc_owner_laws.specs.Removing.{removed_onto}
use Rattle.nc_owner_laws.specs.Weave.{weave}

-- the stage of a slot, as the owner knows it
abbrev pub stage_in : Slot Message → SlotStage
stage_in Unused = UnusedStage
stage_in (Buffered message clear grants) = BufferedStage
stage_in (Retired clear grants) = RetiredStage

-- each slot of a row has the stage that the owner's history tells
abbrev pub AreStaged : List (Slot Message) → List Event → Type 0
AreStaged row h = (slot : ℕ) → slot_stage slot h ≡ stage_in (slot_at row slot)

abbrev pub NewStaged : Type 0
NewStaged = (slots : ℕ) → AreStaged (replicate slots Unused) []

-- what each step but a publish keeps
pub record StepsStaged (next : ℕ → ℕ) (row : List (Slot Message)) (h : List Event) (s : OwnerAt) : Type 0 where
  pub join : (m : Member) (c : List ℕ) → AreStaged (touched_row c row s) (onto (weave s.desk.me next (join_events m c row s) []) h)
  pub part : (m : Member) (c : List ℕ) → AreStaged (touched_row c row s) (onto (weave s.desk.me next (part_events m c row s) []) h)
  pub info : (from r : ℕ) (c : List ℕ)
      → AreStaged (touched_row c row s) (onto (weave s.desk.me next (touch_events_of c row s) (info_alerts from r c row s)) h)
  pub sweep : (c : List ℕ) → AreStaged (touched_row c row s) (onto (weave s.desk.me next (touch_events_of c row s) []) h)
  pub look : (from number : ℕ) (c : List ℕ) (id : Id)
      → AreStaged (look_row from c id row s) (onto (weave s.desk.me next (look_events from number c id row s) (look_alerts from number c id row s)) h)
  pub remove : (c : List ℕ) (cause : RemovedCause) → AreStaged (removed_row c row s) (removed_onto next c cause h s)
  pub polled : (answers : List PollAnswer) → map slot_of answers ≡ s.desk.retired
      → AreStaged (polled_row answers row) (onto (weave s.desk.me next (polled_events answers s) []) h)

abbrev pub OthersStaged : Type 0
OthersStaged = (next : ℕ → ℕ) (row : List (Slot Message)) (h : List Event) (s : OwnerAt) → OwnerFits row s → AreStaged row h
    → StepsStaged next row h s

abbrev pub PublishStaged : Type 0
PublishStaged = (next : ℕ → ℕ) (exact : Bool) (counts : List ℕ) (from : ℕ) (o : Order) (polls : Polls) (row : List (Slot Message))
    (h : List Event) (s : OwnerAt) → PublishPolls exact counts o row s polls → OwnerFits row s → AreStaged row h
    → AreStaged (publish_row o polls row s) (onto (weave s.desk.me next (publish_events from o polls row s) (publish_alerts from o polls row s)) h)
