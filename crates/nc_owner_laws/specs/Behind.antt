-- What stands behind a look that found nothing: the messages stored since, and what woke it.
use Rattle.std.specs.Prelude.{◌≡◌, ℕ, ◌≤◌, true, false, List, [], ◌∷◌, ◌++◌, Option, None, Some}
use Rattle.std.specs.List.{AllByRecursion}
use Rattle.nc_types.specs.Id.{Id, IsPast, is_past}
use Rattle.nc_types.specs.Message.{Message as KeptMessage}
use Rattle.nc_journal.specs.Stamp.{floor_of}
use Rattle.nc_journal.specs.Message.{Message, published, buffer}
use Rattle.nc_journal.specs.declared.event.Event.{Event}
use Rattle.nc_journal.specs.declared.event.Event.TheVariants.{Looked, Made}
use Rattle.nc_journal.specs.declared.alert.AlertLine.TheVariants.{LookAnswer}
use Rattle.nc_slots.specs.declared.slot.Slot.{Slot}
use Rattle.nc_owner.specs.Ascending.{has_number}
use Rattle.nc_owner.specs.Rules.{NonePast}
use Rattle.nc_owner.specs.State.{OwnerAt, found}
use Rattle.nc_owner_laws.specs.Filters.{marks_in}
use Rattle.nc_owner_laws.specs.Buffered.{entries_in}
use Rattle.nc_owner_laws.specs.Wake.{Waiting, ByNotice, wake}
use Rattle.nc_owner_laws.specs.OwnerStanding.{look_past, Stands}
use Rattle.nc_owner_laws.specs.InOrder.{InOrder}

-- no message is past an id
abbrev pub NothingIsPast : Id → List Message → Type 0
NothingIsPast after ms = AllByRecursion (λ m. is_past m.id after ≡ false) ms

-- where look q of a worker at a channel stands in its owner's history: it found nothing, told the floor then,
-- and no message that was buffered then is past the id past which it looked
pub record LookPlace (me w : ℕ) (c : List ℕ) (q : ℕ) (h : List Event) : Type 0 where
  pub since : List Event
  pub number : ℕ
  pub after : Id
  pub floor : ℕ
  pub seen : List Event
  pub place : h ≡ since ++ Looked me q w number c after floor None ∷ seen
  pub looks_past : look_past w c q h ≡ Some after
  pub floor_then : floor ≡ floor_of seen
  pub nothing_then : NothingIsPast after (buffer c seen)

-- the first of some messages has this id, and the others are past it
pub record IsFirstOf (id : Id) (ms : List Message) : Type 0 where
  pub first : Message
  pub others : List Message
  pub split : ms ≡ first ∷ others
  pub same : first.id ≡ id
  pub later : AllByRecursion (λ m. IsPast m.id id) others

-- the message that woke a look is the first one stored behind it; its id may be below the look's, which may lie ahead of all messages
pub record WokenByFirst (me w : ℕ) (c : List ℕ) (q : ℕ) (id : Id) (h : List Event) : Type 0 where
  pub look : LookPlace me w c q h
  pub first : IsFirstOf id (published c look.since)

abbrev pub NoticeIsFirst : Type 0
NoticeIsFirst = (me workers slots first : ℕ) (row : List (Slot KeptMessage)) (h : List Event) (s : OwnerAt) → Stands me workers slots first row h s
    → InOrder first h
    → (w : ℕ) (c : List ℕ) (q : ℕ) (id : Id) → wake w c q h ≡ ByNotice id → WokenByFirst me w c q id h

-- a look that waits: since then nothing was stored there, its worker is marked, and no message that is buffered now is past its id
pub record StillWaits (me w : ℕ) (c : List ℕ) (q : ℕ) (h : List Event) (s : OwnerAt) : Type 0 where
  pub look : LookPlace me w c q h
  pub none_since : published c look.since ≡ []
  pub marked : has_number w (marks_in (found c s)) ≡ true
  pub floor_rose : look.floor ≤ s.desk.floor
  pub nothing_now : NothingIsPast look.after (buffer c h)
  pub nothing_kept : NonePast look.after (entries_in (found c s))

abbrev pub ShowsLooks : Type 0
ShowsLooks = (me workers slots first : ℕ) (row : List (Slot KeptMessage)) (h : List Event) (s : OwnerAt) → Stands me workers slots first row h s
    → InOrder first h
    → (w : ℕ) (c : List ℕ) (q : ℕ) → wake w c q h ≡ Waiting → StillWaits me w c q h s

-- the answer to a look that found nothing tells the number and the floor of that look, and that nothing was found
pub record AnswersPlace (number floor : ℕ) (found : Option Id) (look_number look_floor : ℕ) : Type 0 where
  pub same_number : look_number ≡ number
  pub same_floor : look_floor ≡ floor
  pub nothing : found ≡ None

abbrev pub AnswerTellsLook : Type 0
AnswerTellsLook = (first : ℕ) (h : List Event) → InOrder first h → (me w : ℕ) (c : List ℕ) (q : ℕ) (look : LookPlace me w c q h)
    (v n number floor : ℕ) (found : Option Id) (g slot : Option ℕ) (newer older : List Event)
    → h ≡ newer ++ Made v w n (LookAnswer number q floor found g slot) ∷ older → AnswersPlace number floor found look.number look.floor
