-- An owner with its slots stands for its local history, and what a look that waits has seen.
use Rattle.std.specs.Prelude.{◌≡◌, ℕ, Bool, false, List, [], ◌∷◌, map, replicate, Option, None, Some, IfSome, if◌then◌else◌, ◌==◌, ◌&&◌, bytes_eq}
use Rattle.std.specs.List.{AllByRecursion}
use Rattle.nc_types.specs.Id.{Id, is_past}
use Rattle.nc_types.specs.Channel.{owner_of}
use Rattle.nc_types.specs.Message.{Message}
use Rattle.nc_journal.specs.History.{own, onto, Along}
use Rattle.nc_journal.specs.Stamp.{IsStamped}
use Rattle.nc_journal.specs.Message.{buffer}
use Rattle.nc_journal.specs.declared.event.Event.{Event}
use Rattle.nc_journal.specs.declared.event.Event.TheVariants.{Looked, Clock}
use Rattle.nc_slots.specs.declared.slot.Slot.{Slot}
use Rattle.nc_slots.specs.declared.slot.Slot.TheVariants.{Unused}
use Rattle.nc_owner.specs.declared.member.Member.{Member}
use Rattle.nc_owner.specs.declared.order.Order.{Order}
use Rattle.nc_owner.specs.declared.poll.PollAnswer.{PollAnswer}
use Rattle.nc_owner.specs.State.{OwnerAt, new_owner}
use Rattle.nc_owner.specs.Poll.{slot_of}
use Rattle.nc_owner.specs.Publish.{Polls, PublishPolls, publish_events, publish_alerts, publish_row, publish_after}
use Rattle.nc_owner.specs.Look.{look_events, look_alerts, look_row, look_after}
use Rattle.nc_owner.specs.OtherSteps.{touch_events_of, touched_row, touch_after, join_events, join_after, part_events, part_after, info_alerts, polled_events, polled_row, polled_after, with_clock}
use Rattle.nc_owner_laws.specs.OwnerFits.{OwnerFits}
use Rattle.nc_owner_laws.specs.OwnerTold.{HistoryTells}
use Rattle.nc_owner_laws.specs.Filters.{new_desk}
use Rattle.nc_owner_laws.specs.Buffered.{LeavesStored}
use Rattle.nc_owner_laws.specs.Weave.{weave}
use Rattle.nc_owner_laws.specs.Wake.{Wakes, wake, Waiting}

-- the id past which a look looked that found nothing
abbrev pub look_past : ℕ → List ℕ → ℕ → List Event → Option Id
look_past w c q [] = None
look_past w c q (Looked v p u number d after floor None ∷ h) = if (p == q) && ((u == w) && bytes_eq d c) then Some after else look_past w c q h
look_past w c q (e ∷ h) = look_past w c q h

-- where a look waits, no message of its channel is past that id
abbrev pub NothingPast : List Event → Type 0
NothingPast h = (w : ℕ) (c : List ℕ) (q : ℕ) → wake w c q h ≡ Waiting
    → IfSome (look_past w c q h) (λ after. AllByRecursion (λ m. is_past m.id after ≡ false) (buffer c h))

-- the owner of a number, of some workers, stands for a history with the alerts that it made
pub record Stands (me workers slots first : ℕ) (row : List (Slot Message)) (h : List Event) (s : OwnerAt) : Type 0 where
  pub fits : OwnerFits row s
  pub local : own me h ≡ h
  pub tells : HistoryTells (new_desk me workers slots first) h s
  pub stamped : IsStamped workers h
  pub stored : Along LeavesStored h
  pub wakes : Wakes h
  pub past : NothingPast h

abbrev pub NewStands : Type 0
NewStands = (me workers slots first : ℕ) → Stands me workers slots first (replicate slots Unused) [] (new_owner me workers slots first)

-- an owner with its slots, a history that it stands for, and the numbers of the next packets
module _ (me workers slots first : ℕ) (next : ℕ → ℕ) (row : List (Slot Message)) (h : List Event) (s : OwnerAt) where
  -- what each step but a publish keeps
  pub record StepsStand : Type 0 where
    pub join : (m : Member) (c : List ℕ)
        → Stands me workers slots first (touched_row c row s) (onto (weave s.desk.me next (join_events m c row s) []) h) (join_after m c row s)
    pub part : (m : Member) (c : List ℕ)
        → Stands me workers slots first (touched_row c row s) (onto (weave s.desk.me next (part_events m c row s) []) h) (part_after m c row s)
    pub info : (from r : ℕ) (c : List ℕ) → Stands me workers slots first (touched_row c row s)
        (onto (weave s.desk.me next (touch_events_of c row s) (info_alerts from r c row s)) h) (touch_after c row s)
    pub look : (from number : ℕ) (c : List ℕ) (id : Id) → Stands me workers slots first (look_row from c id row s)
        (onto (weave s.desk.me next (look_events from number c id row s) (look_alerts from number c id row s)) h) (look_after from c id row s)
    pub polled : (answers : List PollAnswer) → map slot_of answers ≡ s.desk.retired
        → Stands me workers slots first (polled_row answers row) (onto (weave s.desk.me next (polled_events answers s) []) h) (polled_after answers s)
    pub clock : (now : ℕ) → Stands me workers slots first row (Clock s.desk.me now ∷ h) (with_clock now s)

abbrev pub OthersStand : Type 0
OthersStand = (me workers slots first : ℕ) (next : ℕ → ℕ) (row : List (Slot Message)) (h : List Event) (s : OwnerAt)
    → Stands me workers slots first row h s → StepsStand me workers slots first next row h s

abbrev pub PublishStands : Type 0
PublishStands = (me workers slots first : ℕ) (next : ℕ → ℕ) (exact : Bool) (counts : List ℕ) (from : ℕ) (o : Order) (polls : Polls)
    (row : List (Slot Message)) (h : List Event) (s : OwnerAt) → owner_of workers o.chan ≡ me → PublishPolls exact counts o row s polls
    → Stands me workers slots first row h s → Stands me workers slots first (publish_row o polls row s)
    (onto (weave s.desk.me next (publish_events from o polls row s) (publish_alerts from o polls row s)) h) (publish_after o polls row s)

-- a sweep of one channel keeps that an owner stands for its history
abbrev pub SweepStands : Type 0
SweepStands = (me workers slots first : ℕ) (next : ℕ → ℕ) (c : List ℕ) (row : List (Slot Message)) (h : List Event) (s : OwnerAt)
    → Stands me workers slots first row h s
    → Stands me workers slots first (touched_row c row s) (onto (weave s.desk.me next (touch_events_of c row s) []) h) (touch_after c row s)
