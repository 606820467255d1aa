-- What wakes a look that found nothing: at its owner, and among the alerts to its worker.
use Rattle.std.specs.Prelude.{◌≡◌, ℕ, true, List, [], ◌∷◌, ◌++◌, None, if◌then◌else◌, ◌==◌, ◌&&◌, bytes_eq}
use Rattle.nc_types.specs.Id.{Id}
use Rattle.nc_types.specs.Message.{Message}
use Rattle.nc_journal.specs.History.{onto}
use Rattle.nc_journal.specs.declared.event.Event.{Event}
use Rattle.nc_journal.specs.declared.event.Event.TheVariants.{Stored, Looked, Removed, Made}
use Rattle.nc_journal.specs.declared.alert.AlertLine.{AlertLine}
use Rattle.nc_journal.specs.declared.alert.AlertLine.TheVariants as lines
use Rattle.nc_slots.specs.declared.slot.Slot.{Slot}
use Rattle.nc_owner.specs.declared.order.Order.{Order}
use Rattle.nc_owner.specs.declared.member.Member.{Member}
use Rattle.nc_owner.specs.declared.poll.PollAnswer.{PollAnswer}
use Rattle.nc_owner.specs.State.{OwnerAt}
use Rattle.nc_owner.specs.Publish.{Polls, publish_events, publish_alerts}
use Rattle.nc_owner.specs.Look.{look_events, look_alerts}
use Rattle.nc_owner.specs.OtherSteps.{touch_events_of, join_events, part_events, info_alerts, polled_events}
use Rattle.nc_owner_laws.specs.OwnerTold.{HistoryTells}
use Rattle.nc_owner_laws.specs.Filters.{new_desk, is_marked}
use Rattle.nc_owner_laws.specs.Weave.{weave}

-- where a look stands: it wasn't made or found a message; it waits; a message or a removal woke it
pub data Wake : Type 0 where
  NotYet : Wake
  Waiting : Wake
  ByNotice : Id → Wake
  ByGone : Wake

-- a look that waits is woken by the first message or removal
abbrev pub woken : Wake → Wake → Wake
woken by NotYet = NotYet
woken by Waiting = by
woken by (ByNotice id) = ByNotice id
woken by ByGone = ByGone

-- where look q of worker w at a channel stands by what the owner did, the newest event first
abbrev pub wake : ℕ → List ℕ → ℕ → List Event → Wake
wake w c q [] = NotYet
wake w c q (Looked v p u number d after floor None ∷ h) = if (p == q) && ((u == w) && bytes_eq d c) then Waiting else wake w c q h
wake w c q (Stored v d id slot len exp kept members from r ct body ∷ h) = if bytes_eq d c then woken (ByNotice id) (wake w c q h) else wake w c q h
wake w c q (Removed v d last cause ∷ h) = if bytes_eq d c then woken ByGone (wake w c q h) else wake w c q h
wake w c q (e ∷ h) = wake w c q h

-- and by the alerts to the worker
abbrev pub hear : List ℕ → ℕ → Wake → AlertLine → Wake
hear c q s (lines.LookAnswer number p floor None g slot) = if p == q then Waiting else s
hear c q s (lines.Notice d id g slot) = if bytes_eq d c then woken (ByNotice id) s else s
hear c q s (lines.Gone d subs) = if bytes_eq d c then woken ByGone s else s
hear c q s alert = s

-- the first alert first
abbrev pub hears : List ℕ → ℕ → Wake → List AlertLine → Wake
hears c q s [] = s
hears c q s (a ∷ alerts) = hears c q (hear c q s a) alerts

-- the alerts that were made to a worker, the first one first
abbrev pub made_to : ℕ → List Event → List AlertLine
made_to w [] = []
made_to w (Made v to n a ∷ h) = if to == w then made_to w h ++ a ∷ [] else made_to w h
made_to w (e ∷ h) = made_to w h

-- look q, where it was made, was made at this channel
abbrev pub IsOnlyAt : List ℕ → ℕ → List Event → Type 0
IsOnlyAt c q [] = Unit {0}
IsOnlyAt c q (Looked v p u number d after floor found ∷ h) = (p ≡ q → bytes_eq d c ≡ true) × IsOnlyAt c q h
IsOnlyAt c q (e ∷ h) = IsOnlyAt c q h

-- between steps, what a worker heard of its look is what happened to it, and who waits is marked
pub record Wakes (h : List Event) : Type 0 where
  pub same : (w : ℕ) (c : List ℕ) (q : ℕ) → IsOnlyAt c q h → hears c q NotYet (made_to w h) ≡ wake w c q h
  pub waits : (w : ℕ) (c : List ℕ) (q : ℕ) → wake w c q h ≡ Waiting → is_marked c w h ≡ true

abbrev pub NewWakes : Type 0
NewWakes = Wakes []

abbrev pub LookWakes : Type 0
LookWakes = (h : List Event) (next : ℕ → ℕ) (from number : ℕ) (c : List ℕ) (id : Id) (row : List (Slot Message)) (s : OwnerAt) → Wakes h
    → Wakes (onto (weave s.desk.me next (look_events from number c id row s) (look_alerts from number c id row s)) h)

abbrev pub PublishWakes : Type 0
PublishWakes = (me workers slots first : ℕ) (h : List Event) (next : ℕ → ℕ) (from : ℕ) (o : Order) (row : List (Slot Message)) (s : OwnerAt)
    (polls : Polls) → HistoryTells (new_desk me workers slots first) h s → Wakes h
    → Wakes (onto (weave s.desk.me next (publish_events from o polls row s) (publish_alerts from o polls row s)) h)

-- the other steps wake nobody
pub record StepsWake (h : List Event) (next : ℕ → ℕ) (c : List ℕ) (row : List (Slot Message)) (s : OwnerAt) : Type 0 where
  pub join : (m : Member) → Wakes (onto (weave s.desk.me next (join_events m c row s) []) h)
  pub part : (m : Member) → Wakes (onto (weave s.desk.me next (part_events m c row s) []) h)
  pub info : (from r : ℕ) → Wakes (onto (weave s.desk.me next (touch_events_of c row s) (info_alerts from r c row s)) h)
  pub polled : (answers : List PollAnswer) → Wakes (onto (weave s.desk.me next (polled_events answers s) []) h)

abbrev pub OthersWake : Type 0
OthersWake = (h : List Event) (next : ℕ → ℕ) (c : List ℕ) (row : List (Slot Message)) (s : OwnerAt) → Wakes h → StepsWake h next c row s
