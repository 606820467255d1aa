-- A buffered slot counts the grants since its message was stored, as the owner's history tells them; so do the entries.
use Rattle.std.specs.Prelude.{◌≡◌, ℕ, List, [], Option, None, Some, IfSome, replicate}
use Rattle.std.specs.List.{AllByRecursion}
use Rattle.nc_types.specs.Id.{Id}
use Rattle.nc_types.specs.Message.{Message}
use Rattle.nc_journal.specs.History.{onto}
use Rattle.nc_journal.specs.Leaving.{grants_since}
use Rattle.nc_journal.specs.declared.event.Event.{Event}
use Rattle.nc_journal.specs.declared.word.RemovedCause.{RemovedCause}
use Rattle.nc_slots.specs.declared.slot.Slot.{Slot}
use Rattle.nc_slots.specs.declared.slot.Slot.TheVariants.{Unused, Buffered, Retired}
use Rattle.nc_slots.specs.Slot.{slot_at}
use Rattle.nc_owner.specs.declared.member.Member.{Member}
use Rattle.nc_owner.specs.declared.order.Order.{Order}
use Rattle.nc_owner.specs.declared.poll.PollAnswer.{PollAnswer}
use Rattle.nc_owner.specs.State.{OwnerAt, entries_of, opened}
use Rattle.nc_owner.specs.Publish.{Polls, publish_events, publish_alerts, publish_row}
use Rattle.nc_owner.specs.Look.{look_events, look_alerts, look_row}
use Rattle.nc_owner.specs.OtherSteps.{touch_events_of, touched_row, join_events, part_events, info_alerts, polled_events, polled_row}
use Rattle.nc_owner.specs.Remove.{removed_row}
use Rattle.nc_owner_laws.specs.OwnerFits.{OwnerFits}
use Rattle.nc_owner_laws.specs.Removing.{removed_onto}
use Rattle.nc_owner_laws.specs.Weave.{weave}

-- how often a buffered slot was granted
abbrev pub grants_in : Slot Message → Option ℕ
grants_in Unused = None
grants_in (Buffered message clear grants) = Some grants
grants_in (Retired clear grants) = None

abbrev pub Counts : Slot Message → ℕ → Type 0
Counts x n = IfSome (grants_in x) (λ g. g ≡ n)

-- each slot of a row counts as the history tells
abbrev pub SlotsCount : List (Slot Message) → List Event → Type 0
SlotsCount row h = (slot : ℕ) → Counts (slot_at row slot) (grants_since slot h)

abbrev pub NewCount : Type 0
NewCount = (slots : ℕ) → SlotsCount (replicate slots Unused) []

-- the steps after which it is still so
pub record StepsCount (next : ℕ → ℕ) (row : List (Slot Message)) (h : List Event) (s : OwnerAt) : Type 0 where
  pub join : (m : Member) (c : List ℕ) → SlotsCount (touched_row c row s) (onto (weave s.desk.me next (join_events m c row s) []) h)
  pub part : (m : Member) (c : List ℕ) → SlotsCount (touched_row c row s) (onto (weave s.desk.me next (part_events m c row s) []) h)
  pub info : (from r : ℕ) (c : List ℕ)
      → SlotsCount (touched_row c row s) (onto (weave s.desk.me next (touch_events_of c row s) (info_alerts from r c row s)) h)
  pub sweep : (c : List ℕ) → SlotsCount (touched_row c row s) (onto (weave s.desk.me next (touch_events_of c row s) []) h)
  pub look : (from number : ℕ) (c : List ℕ) (id : Id)
      → SlotsCount (look_row from c id row s) (onto (weave s.desk.me next (look_events from number c id row s) (look_alerts from number c id row s)) h)
  pub remove : (c : List ℕ) (cause : RemovedCause) → SlotsCount (removed_row c row s) (removed_onto next c cause h s)
  pub polled : (answers : List PollAnswer) → SlotsCount (polled_row answers row) (onto (weave s.desk.me next (polled_events answers s) []) h)
  pub publish : (from : ℕ) (o : Order) (polls : Polls)
      → SlotsCount (publish_row o polls row s) (onto (weave s.desk.me next (publish_events from o polls row s) (publish_alerts from o polls row s)) h)

abbrev pub StepsKeepCount : Type 0
StepsKeepCount = (next : ℕ → ℕ) (row : List (Slot Message)) (h : List Event) (s : OwnerAt) → SlotsCount row h → StepsCount next row h s

-- so the entries of each channel count what the history tells
abbrev pub EntriesCount : Type 0
EntriesCount = (row : List (Slot Message)) (h : List Event) (s : OwnerAt) → OwnerFits row s → SlotsCount row h → (c : List ℕ)
    → AllByRecursion (λ e. e.grants ≡ grants_since e.slot h) (entries_of (opened c s))
