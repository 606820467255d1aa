-- Each look is answered once.
use Rattle.std.specs.Prelude.{◌≡◌, ℕ, ◌≤◌, List, [], ◌∷◌}
use Rattle.std.specs.List.{AllByRecursion}
use Rattle.nc_types.specs.Id.{Id}
use Rattle.nc_types.specs.Message.{Message}
use Rattle.nc_journal.specs.History.{onto, Along}
use Rattle.nc_journal.specs.declared.event.Event.{Event}
use Rattle.nc_journal.specs.declared.event.Event.TheVariants.{Clock, Made}
use Rattle.nc_journal.specs.declared.word.RemovedCause.{RemovedCause}
use Rattle.nc_journal.specs.declared.alert.AlertLine.{AlertLine}
use Rattle.nc_journal.specs.declared.alert.AlertLine.TheVariants.{LookAnswer}
use Rattle.nc_slots.specs.declared.slot.Slot.{Slot}
use Rattle.nc_owner.specs.declared.member.Member.{Member}
use Rattle.nc_owner.specs.declared.order.Order.{Order}
use Rattle.nc_owner.specs.declared.poll.PollAnswer.{PollAnswer}
use Rattle.nc_owner.specs.AlertLines.{OutLine}
use Rattle.nc_owner.specs.State.{OwnerAt}
use Rattle.nc_owner.specs.Publish.{Polls, publish_events, publish_alerts}
use Rattle.nc_owner.specs.Look.{look_events, look_alerts}
use Rattle.nc_owner.specs.OtherSteps.{touch_events_of, join_events, part_events, info_alerts, polled_events}
use Rattle.nc_owner_laws.specs.Used.{times}
use Rattle.nc_owner_laws.specs.Wake.{made_to}
use Rattle.nc_owner_laws.specs.Weave.{weave}
use Rattle.nc_owner_laws.specs.OwnerStanding.{Stands}
use Rattle.nc_owner_laws.specs.InOrder.{InOrder}
use Rattle.nc_owner_laws.specs.Removal.{IsLeft, IsOfRemoval, removal_onto}

-- the numbers of the looks that some alerts answer
abbrev pub answer_numbers : List AlertLine → List ℕ
answer_numbers [] = []
answer_numbers (LookAnswer number q floor found g slot ∷ alerts) = q ∷ answer_numbers alerts
answer_numbers (a ∷ alerts) = answer_numbers alerts

-- the look of an answer wasn't answered before
abbrev pub IsNewAnswer : List Event → AlertLine → Type 0
IsNewAnswer h (LookAnswer number q floor found g slot) = (w : ℕ) → times q (answer_numbers (made_to w h)) ≡ 0
IsNewAnswer h _ = Unit {0}

abbrev pub AnswersNew : List Event → Event → Type 0
AnswersNew h (Made v to n a) = IsNewAnswer h a
AnswersNew h _ = Unit {0}

-- so each look is answered once
abbrev pub AnsweredOnce : Type 0
AnsweredOnce = (h : List Event) → Along AnswersNew h → (w q : ℕ) → times q (answer_numbers (made_to w h)) ≤ 1

-- what each step but a publish keeps
pub record StepsAnswerNew (next : ℕ → ℕ) (row : List (Slot Message)) (h : List Event) (s : OwnerAt) : Type 0 where
  pub join : (m : Member) (c : List ℕ) → Along AnswersNew (onto (weave s.desk.me next (join_events m c row s) []) h)
  pub part : (m : Member) (c : List ℕ) → Along AnswersNew (onto (weave s.desk.me next (part_events m c row s) []) h)
  pub info : (from r : ℕ) (c : List ℕ) → Along AnswersNew (onto (weave s.desk.me next (touch_events_of c row s) (info_alerts from r c row s)) h)
  pub sweep : (c : List ℕ) → Along AnswersNew (onto (weave s.desk.me next (touch_events_of c row s) []) h)
  pub look : (from number : ℕ) (c : List ℕ) (id : Id)
      → Along AnswersNew (onto (weave s.desk.me next (look_events from number c id row s) (look_alerts from number c id row s)) h)
  pub polled : (answers : List PollAnswer) → Along AnswersNew (onto (weave s.desk.me next (polled_events answers s) []) h)
  pub clock : (now : ℕ) → Along AnswersNew (Clock s.desk.me now ∷ h)

abbrev pub OthersAnswerNew : Type 0
OthersAnswerNew = (me workers slots first : ℕ) (next : ℕ → ℕ) (row : List (Slot Message)) (h : List Event) (s : OwnerAt)
    → Stands me workers slots first row h s → InOrder first h → Along AnswersNew h → StepsAnswerNew next row h s

abbrev pub PublishAnswersNew : Type 0
PublishAnswersNew = (next : ℕ → ℕ) (from : ℕ) (o : Order) (polls : Polls) (row : List (Slot Message)) (h : List Event) (s : OwnerAt)
    → Along AnswersNew h
    → Along AnswersNew (onto (weave s.desk.me next (publish_events from o polls row s) (publish_alerts from o polls row s)) h)

-- a removal of a channel keeps it
abbrev pub RemovalAnswersNew : Type 0
RemovalAnswersNew =
    (h : List Event) (v : ℕ) (next : ℕ → ℕ) (c : List ℕ) (last : Id) (cause : RemovedCause) (lefts : List Event) (alerts : List OutLine)
    → AllByRecursion IsLeft lefts → AllByRecursion (λ a. IsOfRemoval c a.line) alerts → Along AnswersNew h
    → Along AnswersNew (removal_onto v next c last cause lefts alerts h)
