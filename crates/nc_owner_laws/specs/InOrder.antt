-- At each place of an owner's history a look and an edge tell what the owner has then and draw the next number of both, grants draw
-- the next number of grants, and the answer to a look or an edge tells what stands in its event.
use Rattle.std.specs.Prelude.{◌≡◌, ◌⊎◌, ℕ, ◌+◌, List, [], ◌∷◌, Option}
use Rattle.std.specs.Option.{option_map}
use Rattle.std.specs.List.{AllByRecursion}
use Rattle.nc_types.specs.Id.{Id}
use Rattle.nc_types.specs.Message.{Message}
use Rattle.nc_journal.specs.History.{onto, Along}
use Rattle.nc_journal.specs.Stamp.{floor_of, last_of}
use Rattle.nc_journal.specs.Message.{first_past}
use Rattle.nc_journal.specs.declared.event.Event.{Event}
use Rattle.nc_journal.specs.declared.event.Event.TheVariants.{Looked, Edged, Granted, Clock, Made}
use Rattle.nc_journal.specs.declared.word.RemovedCause.{RemovedCause}
use Rattle.nc_journal.specs.declared.alert.AlertLine.{AlertLine}
use Rattle.nc_journal.specs.declared.alert.AlertLine.TheVariants.{LookAnswer, EdgeAnswer}
use Rattle.nc_slots.specs.declared.slot.Slot.{Slot}
use Rattle.nc_owner.specs.declared.member.Member.{Member}
use Rattle.nc_owner.specs.declared.order.Order.{Order}
use Rattle.nc_owner.specs.declared.poll.PollAnswer.{PollAnswer}
use Rattle.nc_owner.specs.AlertLines.{OutLine}
use Rattle.nc_owner.specs.State.{OwnerAt}
use Rattle.nc_owner.specs.Publish.{Polls, publish_events, publish_alerts}
use Rattle.nc_owner.specs.Look.{look_events, look_alerts}
use Rattle.nc_owner.specs.OtherSteps.{touch_events_of, join_events, part_events, info_alerts, polled_events}
use Rattle.nc_owner_laws.specs.Weave.{weave}
use Rattle.nc_owner_laws.specs.OwnerStanding.{Stands}
use Rattle.nc_owner_laws.specs.Removal.{IsLeft, IsOfRemoval, removal_onto}

-- a look tells the floor, and the id of the first message of the channel's buffer past its own id
pub record TellsThen (c : List ℕ) (after : Id) (floor : ℕ) (found : Option Id) (h : List Event) : Type 0 where
  pub floor_then : floor ≡ floor_of h
  pub first_then : found ≡ option_map (λ m. m.id) (first_past c after h)

-- an edge tells the floor, and the channel's last id
pub record TellsLast (c : List ℕ) (floor : ℕ) (last : Id) (h : List Event) : Type 0 where
  pub floor_then : floor ≡ floor_of h
  pub last_then : last ≡ last_of c h

abbrev pub LooksAt : List Event → Event → Type 0
LooksAt h (Looked w q from number c after floor found) = TellsThen c after floor found h
LooksAt h (Edged w q from number k c floor last) = TellsLast c floor last h
LooksAt h _ = Unit {0}

-- the number of the next look or edge: behind the last one, or the first number of all
abbrev pub next_look : ℕ → List Event → ℕ
next_look first [] = first
next_look first (Looked w q from number c after floor found ∷ h) = q + 1
next_look first (Edged w q from number k c floor last ∷ h) = q + 1
next_look first (e ∷ h) = next_look first h

abbrev pub next_grant : ℕ → List Event → ℕ
next_grant first [] = first
next_grant first (Granted w g slot to ∷ h) = g + 1
next_grant first (e ∷ h) = next_grant first h

abbrev pub DrawsNext : ℕ → List Event → Event → Type 0
DrawsNext first h (Looked w q from number c after floor found) = q ≡ next_look first h
DrawsNext first h (Edged w q from number k c floor last) = q ≡ next_look first h
DrawsNext first h (Granted w g slot to) = g ≡ next_grant first h
DrawsNext first h _ = Unit {0}

-- a history has a look of an owner: its number, the worker, the worker's number, the floor and what was found
abbrev pub HasLook : (v q u number floor : ℕ) → Option Id → List Event → Type 0
HasLook v q u number floor found [] = ⊥
HasLook v q u number floor found (Looked w p from n c after f past ∷ h) =
    ((w ≡ v) × (p ≡ q) × (from ≡ u) × (n ≡ number) × (f ≡ floor) × (past ≡ found)) ⊎ HasLook v q u number floor found h
HasLook v q u number floor found (e ∷ h) = HasLook v q u number floor found h

-- a history has an edge of an owner: its number, the worker, the worker's number, the floor and the last id
abbrev pub HasEdge : (v q u number floor : ℕ) → Id → List Event → Type 0
HasEdge v q u number floor last [] = ⊥
HasEdge v q u number floor last (Edged w p from n k c f id ∷ h) = ((w ≡ v) × (p ≡ q) × (from ≡ u) × (n ≡ number) × (f ≡ floor) × (id ≡ last))
    ⊎ HasEdge v q u number floor last h
HasEdge v q u number floor last (e ∷ h) = HasEdge v q u number floor last h

abbrev pub AnswersLook : (v to : ℕ) → List Event → AlertLine → Type 0
AnswersLook v to h (LookAnswer number q floor found g slot) = HasLook v q to number floor found h
AnswersLook v to h (EdgeAnswer number q floor last) = HasEdge v q to number floor last h
AnswersLook v to h _ = Unit {0}

abbrev pub AnswersAt : List Event → Event → Type 0
AnswersAt h (Made v to n a) = AnswersLook v to h a
AnswersAt h _ = Unit {0}

-- a history in which this is so at each place, where the numbers begin with a first one
pub record InOrder (first : ℕ) (h : List Event) : Type 0 where
  pub looks : Along LooksAt h
  pub draws : Along (DrawsNext first) h
  pub answers : Along AnswersAt h

abbrev pub NewInOrder : Type 0
NewInOrder = (first : ℕ) → InOrder first []

-- what each step but a publish keeps
pub record StepsInOrder (first : ℕ) (next : ℕ → ℕ) (row : List (Slot Message)) (h : List Event) (s : OwnerAt) : Type 0 where
  pub join : (m : Member) (c : List ℕ) → InOrder first (onto (weave s.desk.me next (join_events m c row s) []) h)
  pub part : (m : Member) (c : List ℕ) → InOrder first (onto (weave s.desk.me next (part_events m c row s) []) h)
  pub info : (from r : ℕ) (c : List ℕ) → InOrder first (onto (weave s.desk.me next (touch_events_of c row s) (info_alerts from r c row s)) h)
  pub sweep : (c : List ℕ) → InOrder first (onto (weave s.desk.me next (touch_events_of c row s) []) h)
  pub look : (from number : ℕ) (c : List ℕ) (id : Id)
      → InOrder first (onto (weave s.desk.me next (look_events from number c id row s) (look_alerts from number c id row s)) h)
  pub polled : (answers : List PollAnswer) → InOrder first (onto (weave s.desk.me next (polled_events answers s) []) h)
  pub clock : (now : ℕ) → InOrder first (Clock s.desk.me now ∷ h)

abbrev pub OthersInOrder : Type 0
OthersInOrder = (me workers slots first : ℕ) (next : ℕ → ℕ) (row : List (Slot Message)) (h : List Event) (s : OwnerAt)
    → Stands me workers slots first row h s → InOrder first h → StepsInOrder first next row h s

abbrev pub PublishInOrder : Type 0
PublishInOrder = (me workers slots first : ℕ) (next : ℕ → ℕ) (from : ℕ) (o : Order) (polls : Polls) (row : List (Slot Message))
    (h : List Event) (s : OwnerAt) → Stands me workers slots first row h s → InOrder first h
    → InOrder first (onto (weave s.desk.me next (publish_events from o polls row s) (publish_alerts from o polls row s)) h)

-- a removal of a channel keeps it
abbrev pub RemovalInOrder : Type 0
RemovalInOrder = (first : ℕ) (h : List Event) (v : ℕ) (next : ℕ → ℕ) (c : List ℕ) (last : Id) (cause : RemovedCause) (lefts : List Event)
    (alerts : List OutLine)
    → AllByRecursion IsLeft lefts → AllByRecursion (λ a. IsOfRemoval c a.line) alerts → InOrder first h
    → InOrder first (removal_onto v next c last cause lefts alerts h)
