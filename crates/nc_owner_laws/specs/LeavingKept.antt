-- The leaving rule over an owner's steps: what leaves a buffer leaves by the rule, and no step on a channel finds an expired message there.
use Rattle.std.specs.Prelude.{◌≡◌, ℕ, ◌≤◌, List, []}
use Rattle.std.specs.List.{AllByRecursion}
use Rattle.nc_types.specs.Id.{Id}
use Rattle.nc_types.specs.Channel.{owner_of}
use Rattle.nc_types.specs.Message.{Message}
use Rattle.nc_journal.specs.History.{onto}
use Rattle.nc_journal.specs.Leaving.{IsLeavingRule, grants_since, most_grants}
use Rattle.nc_journal.specs.declared.event.Event.{Event}
use Rattle.nc_journal.specs.declared.word.RemovedCause.{RemovedCause}
use Rattle.nc_journal.specs.declared.word.RemovedCause.TheVariants.{Deleted as ByDeletion}
use Rattle.nc_buffer.specs.declared.entry.Entry.{Entry}
use Rattle.nc_slots.specs.declared.slot.Slot.{Slot}
use Rattle.nc_owner.specs.declared.member.Member.{Member}
use Rattle.nc_owner.specs.declared.order.Order.{Order}
use Rattle.nc_owner.specs.declared.poll.PollAnswer.{PollAnswer}
use Rattle.nc_owner.specs.State.{OwnerAt, entries_of, opened}
use Rattle.nc_owner.specs.Publish.{Polls, publish_events, publish_alerts}
use Rattle.nc_owner.specs.Look.{look_events, look_alerts}
use Rattle.nc_owner.specs.OtherSteps.{touch_events_of, join_events, part_events, info_alerts, polled_events}
use Rattle.nc_owner_laws.specs.OwnerStanding.{Stands}
use Rattle.nc_owner_laws.specs.Removing.{removed_onto}
use Rattle.nc_owner_laws.specs.Weave.{weave}

-- each message of a channel was granted as often as its owner counts, at most as often as one may be
abbrev pub AreCounted : List Event → List Entry → Type 0
AreCounted h es = AllByRecursion (λ e. (e.grants ≡ grants_since e.slot h) × (e.grants ≤ most_grants)) es

-- what each step but a publish keeps, on a channel of the owner; a look counts grants, and a channel that is removed without a deletion keeps nothing
pub record StepsLeave (workers : ℕ) (next : ℕ → ℕ) (row : List (Slot Message)) (h : List Event) (s : OwnerAt) : Type 0 where
  pub join : (m : Member) (c : List ℕ) → owner_of workers c ≡ s.desk.me
      → IsLeavingRule workers (onto (weave s.desk.me next (join_events m c row s) []) h)
  pub part : (m : Member) (c : List ℕ) → owner_of workers c ≡ s.desk.me
      → IsLeavingRule workers (onto (weave s.desk.me next (part_events m c row s) []) h)
  pub info : (from r : ℕ) (c : List ℕ) → owner_of workers c ≡ s.desk.me
      → IsLeavingRule workers (onto (weave s.desk.me next (touch_events_of c row s) (info_alerts from r c row s)) h)
  pub sweep : (c : List ℕ) → owner_of workers c ≡ s.desk.me → IsLeavingRule workers (onto (weave s.desk.me next (touch_events_of c row s) []) h)
  pub look : (from number : ℕ) (c : List ℕ) (id : Id) → owner_of workers c ≡ s.desk.me → AreCounted h (entries_of (opened c s))
      → IsLeavingRule workers (onto (weave s.desk.me next (look_events from number c id row s) (look_alerts from number c id row s)) h)
  pub delete : (c : List ℕ) → owner_of workers c ≡ s.desk.me → IsLeavingRule workers (removed_onto next c ByDeletion h s)
  pub remove_empty : (c : List ℕ) (cause : RemovedCause) → owner_of workers c ≡ s.desk.me → entries_of (opened c s) ≡ []
      → IsLeavingRule workers (removed_onto next c cause h s)
  pub polled : (answers : List PollAnswer) → IsLeavingRule workers (onto (weave s.desk.me next (polled_events answers s) []) h)

abbrev pub OthersLeave : Type 0
OthersLeave = (me workers slots first : ℕ) (next : ℕ → ℕ) (row : List (Slot Message)) (h : List Event) (s : OwnerAt)
    → Stands me workers slots first row h s → IsLeavingRule workers h → StepsLeave workers next row h s

abbrev pub PublishLeaves : Type 0
PublishLeaves = (me workers slots first : ℕ) (next : ℕ → ℕ) (from : ℕ) (o : Order) (polls : Polls) (row : List (Slot Message))
    (h : List Event) (s : OwnerAt) → owner_of workers o.chan ≡ s.desk.me → Stands me workers slots first row h s → IsLeavingRule workers h
    → IsLeavingRule workers (onto (weave s.desk.me next (publish_events from o polls row s) (publish_alerts from o polls row s)) h)
