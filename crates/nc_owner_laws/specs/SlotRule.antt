-- Of the slot rule what an owner keeps by itself: a message takes the lowest unused slot, and a slot is freed that is retired.
use Rattle.std.specs.Prelude.{◌≡◌, ℕ, Bool, List, [], map}
use Rattle.nc_types.specs.Id.{Id}
use Rattle.nc_types.specs.Message.{Message}
use Rattle.nc_journal.specs.History.{own, onto, Along}
use Rattle.nc_journal.specs.Holding.{Retired, slot_stage, TakesLowestUnused}
use Rattle.nc_journal.specs.declared.event.Event.{Event}
use Rattle.nc_journal.specs.declared.event.Event.TheVariants.{Stored, Freed}
use Rattle.nc_journal.specs.declared.word.RemovedCause.{RemovedCause}
use Rattle.nc_slots.specs.declared.slot.Slot.{Slot}
use Rattle.nc_owner.specs.declared.member.Member.{Member}
use Rattle.nc_owner.specs.declared.order.Order.{Order}
use Rattle.nc_owner.specs.declared.poll.PollAnswer.{PollAnswer}
use Rattle.nc_owner.specs.State.{OwnerAt}
use Rattle.nc_owner.specs.Poll.{slot_of}
use Rattle.nc_owner.specs.Publish.{Polls, PublishPolls, publish_events, publish_alerts}
use Rattle.nc_owner.specs.Look.{look_events, look_alerts}
use Rattle.nc_owner.specs.OtherSteps.{touch_events_of, join_events, part_events, info_alerts, polled_events}
use Rattle.nc_owner_laws.specs.OwnerStanding.{Stands}
use Rattle.nc_owner_laws.specs.Removing.{removed_onto}
use Rattle.nc_owner_laws.specs.Stages.{AreStaged}
use Rattle.nc_owner_laws.specs.Weave.{weave}

abbrev pub OwnersSlots : ℕ → List Event → Event → Type 0
OwnersSlots slots h (Stored w c id slot len exp kept members from r ct body) = TakesLowestUnused slots w slot h
OwnersSlots slots h (Freed w slot) = slot_stage slot (own w h) ≡ Retired
OwnersSlots slots h _ = Unit {0}

-- what each step but a publish keeps
pub record StepsKeepSlots (slots : ℕ) (next : ℕ → ℕ) (row : List (Slot Message)) (h : List Event) (s : OwnerAt) : Type 0 where
  pub join : (m : Member) (c : List ℕ) → Along (OwnersSlots slots) (onto (weave s.desk.me next (join_events m c row s) []) h)
  pub part : (m : Member) (c : List ℕ) → Along (OwnersSlots slots) (onto (weave s.desk.me next (part_events m c row s) []) h)
  pub info : (from r : ℕ) (c : List ℕ) → Along (OwnersSlots slots) (onto (weave s.desk.me next (touch_events_of c row s) (info_alerts from r c row s)) h)
  pub sweep : (c : List ℕ) → Along (OwnersSlots slots) (onto (weave s.desk.me next (touch_events_of c row s) []) h)
  pub look : (from number : ℕ) (c : List ℕ) (id : Id)
      → Along (OwnersSlots slots) (onto (weave s.desk.me next (look_events from number c id row s) (look_alerts from number c id row s)) h)
  pub remove : (c : List ℕ) (cause : RemovedCause) → Along (OwnersSlots slots) (removed_onto next c cause h s)
  pub polled : (answers : List PollAnswer) → map slot_of answers ≡ s.desk.retired
      → Along (OwnersSlots slots) (onto (weave s.desk.me next (polled_events answers s) []) h)

abbrev pub OthersKeepSlots : Type 0
OthersKeepSlots = (me workers slots first : ℕ) (next : ℕ → ℕ) (row : List (Slot Message)) (h : List Event) (s : OwnerAt)
    → Stands me workers slots first row h s → AreStaged row h → Along (OwnersSlots slots) h → StepsKeepSlots slots next row h s

abbrev pub PublishKeepsSlots : Type 0
PublishKeepsSlots = (me workers slots first : ℕ) (next : ℕ → ℕ) (exact : Bool) (counts : List ℕ) (from : ℕ) (o : Order) (polls : Polls)
    (row : List (Slot Message)) (h : List Event) (s : OwnerAt) → PublishPolls exact counts o row s polls
    → Stands me workers slots first row h s → AreStaged row h → Along (OwnersSlots slots) h
    → Along (OwnersSlots slots) (onto (weave s.desk.me next (publish_events from o polls row s) (publish_alerts from o polls row s)) h)
