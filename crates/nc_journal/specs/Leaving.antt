-- The leaving rule: which message leaves its buffer, when, and why.
use Rattle.std.specs.Prelude.{◌≡◌, ◌⊎◌, ℕ, ◌+◌, ◌-◌, ◌<◌, ◌≤◌, Bool, true, false, if◌then◌else◌, List, [], ◌∷◌, ◌++◌, length, ◌==◌, Option}
use Rattle.std.specs.List.{AllByRecursion}
use Rattle.nc_types.specs.Id.{Id, has_come}
use Rattle.nc_types.specs.Channel.{owner_of}
use Rattle.nc_journal.specs.History.{own, Along, AtEachCut}
use Rattle.nc_journal.specs.Stamp.{clock_of}
use Rattle.nc_journal.specs.Message.{Message, buffer}
use Rattle.nc_journal.specs.declared.event.Event.{Event}
use Rattle.nc_journal.specs.declared.event.Event.TheVariants.{Stored, Left, Looked, Edged, Joined, Parted, Granted, Freed, Removed}
use Rattle.nc_journal.specs.declared.word.LeftCause.{LeftCause}
use Rattle.nc_journal.specs.declared.word.LeftCause.TheVariants.{Length, Expired, Deleted, Spent}
use Rattle.nc_journal.specs.declared.word.RemovedCause.TheVariants.{Deleted as ByDeletion}

-- a message expires at a moment that it names; 0 is never
abbrev pub has_expired : ℕ → Message → Bool
has_expired now m = has_come m.expires now

-- one of some messages has this id and slot, and is so
abbrev pub HasMessage : (Message → Type 0) → List Message → Id → ℕ → Type 0
HasMessage P [] id slot = ⊥
HasMessage P (m ∷ rest) id slot = ((m.id ≡ id) × (m.slot ≡ slot) × P m) ⊎ HasMessage P rest id slot

-- the first of some messages has this id and slot
abbrev pub StandsFirst : List Message → Id → ℕ → Type 0
StandsFirst [] id slot = ⊥
StandsFirst (m ∷ rest) id slot = (m.id ≡ id) × (m.slot ≡ slot)

-- what may stand between a message that leaves by length and the one that it makes room for
abbrev pub MakesWay : Event → Type 0
MakesWay (Left w c id slot Length) = Unit {0}
MakesWay (Freed w slot) = Unit {0}
MakesWay _ = ⊥

-- room is made for a message of length `len` on channel c: it is stored next, and more than len - 1 messages were buffered
pub record MakesRoom (w : ℕ) (c : List ℕ) (newer older : List Event) : Type 0 where
  pub after : List Event
  pub id : Id
  pub slot : ℕ
  pub len : ℕ
  pub exp : ℕ
  pub kept : Bool
  pub members : ℕ
  pub from : ℕ
  pub r : ℕ
  pub ct : Option (List ℕ)
  pub body : List ℕ
  pub between : List Event
  pub next : newer ≡ after ++ Stored w c id slot len exp kept members from r ct body ∷ between
  pub way : AllByRecursion MakesWay (own w between)
  pub full : len - 1 < length (buffer c older)

-- what may stand between a message that leaves by deletion and the removal of its channel: messages of the channel that leave so too
abbrev pub GoesToo : List ℕ → Event → Type 0
GoesToo c (Left w d id slot Deleted) = d ≡ c
GoesToo c _ = ⊥

-- a channel is removed by a deletion, and nothing but its messages leaves before
pub record GoesNext (w : ℕ) (c : List ℕ) (newer : List Event) : Type 0 where
  pub after : List Event
  pub last : Id
  pub between : List Event
  pub next : newer ≡ after ++ Removed w c last ByDeletion ∷ between
  pub too : AllByRecursion (GoesToo c) (own w between)

-- how often a slot was granted since the last message was stored there, by the local history of its owner
abbrev pub grants_since : ℕ → List Event → ℕ
grants_since slot [] = 0
grants_since slot (Granted w g s to ∷ h) = if s == slot then grants_since slot h + 1 else grants_since slot h
grants_since slot (Stored w c id s len exp kept members from r ct body ∷ h) = if s == slot then 0 else grants_since slot h
grants_since slot (e ∷ h) = grants_since slot h

-- the most grants that a message may have while it is kept
abbrev pub most_grants : ℕ
most_grants = 4294967295

-- why a message leaves: it has expired; room is made and it is the first; it was granted as often as it may be; or it is the first and its channel is deleted
abbrev pub LeavesBy : LeftCause → ℕ → List ℕ → Id → ℕ → List Event → List Event → Type 0
LeavesBy Expired w c id slot newer older = HasMessage (λ m. has_expired (clock_of (own w older)) m ≡ true) (buffer c older) id slot
LeavesBy Length w c id slot newer older = StandsFirst (buffer c older) id slot × MakesRoom w c newer older
LeavesBy Spent w c id slot newer older = HasMessage (λ m. grants_since m.slot (own w older) ≡ most_grants) (buffer c older) id slot
LeavesBy Deleted w c id slot newer older = StandsFirst (buffer c older) id slot × GoesNext w c newer

-- a message leaves by its channel's owner, for a cause
pub record Leaves (workers w : ℕ) (c : List ℕ) (id : Id) (slot : ℕ) (cause : LeftCause) (newer older : List Event) : Type 0 where
  pub owner : w ≡ owner_of workers c
  pub why : LeavesBy cause w c id slot newer older

abbrev pub LeftAt : ℕ → List Event → Event → List Event → Type 0
LeftAt workers newer (Left w c id slot cause) older = Leaves workers w c id slot cause newer older
LeftAt workers newer _ older = Unit {0}

-- no message of a channel's buffer has expired
abbrev pub NoneExpired : ℕ → List ℕ → List Event → Type 0
NoneExpired w c h = AllByRecursion (λ m. has_expired (clock_of (own w h)) m ≡ false) (buffer c h)

-- what an event on a channel finds there: nothing has expired; and after a stored event the buffer has at most its length
abbrev pub FindsAt : List Event → Event → Type 0
FindsAt h (Stored w c id slot len exp kept members from r ct body) =
    NoneExpired w c h × (length (buffer c (Stored w c id slot len exp kept members from r ct body ∷ h)) ≤ len)
FindsAt h (Looked w q from number c after floor found) = NoneExpired w c h
FindsAt h (Edged w q from number k c floor last) = NoneExpired w c h
FindsAt h (Joined w c from k) = NoneExpired w c h
FindsAt h (Parted w c from k) = NoneExpired w c h
FindsAt h (Removed w c last cause) = NoneExpired w c h
FindsAt h _ = Unit {0}

-- the leaving rule, for some number of workers
pub record IsLeavingRule (workers : ℕ) (h : List Event) : Type 0 where
  pub left : AtEachCut (LeftAt workers) h
  pub finds : Along FindsAt h
