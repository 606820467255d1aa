-- How each message of a channel fares with a subscriber.
use Rattle.std.specs.Prelude.{◌≡◌, ◌⊎◌, ℕ, true, List, [], ◌∷◌, ◌++◌, slice_get, Option, None, Some}
use Rattle.std.specs.List.{AllByRecursion}
use Rattle.nc_types.specs.Id.{Id, IsPast}
use Rattle.nc_types.specs.Cursor.{CursorAt, cursor_id}
use Rattle.nc_types.specs.Channel.{owner_of}
use Rattle.nc_journal.specs.History.{own}
use Rattle.nc_journal.specs.Message.{published, is_gone}
use Rattle.nc_journal.specs.Sending.{IsLook}
use Rattle.nc_journal.specs.declared.event.Event.{Event}
use Rattle.nc_journal.specs.declared.event.Event.TheVariants.{Sent}
use Rattle.nc_exact.specs.Sent.{WasSent, EachSent}

-- message id of a channel was gone at look q that a worker made there
pub record GoneAtLook (workers w q : ℕ) (c : List ℕ) (id : Id) (h : List Event) : Type 0 where
  pub since : List Event
  pub look : Event
  pub seen : List Event
  pub after : Id
  pub place : h ≡ since ++ look ∷ seen
  pub is_look : IsLook (owner_of workers c) q w c after look
  pub gone : is_gone c id seen ≡ true

abbrev pub GoneAt : (workers w : ℕ) → List ℕ → Id → List Event → Option ℕ → Type 0
GoneAt workers w c id h None = ⊥
GoneAt workers w c id h (Some q) = GoneAtLook workers w q c id h

-- it was gone at a look that a sent to subscriber k names for place j
abbrev pub WasGone : (workers w k j : ℕ) → List ℕ → Id → List Event → Type 0
WasGone workers w k j c id [] = ⊥
WasGone workers w k j c id (Sent v n i d m cur looks ∷ h) = ((v ≡ w) × (n ≡ k) × GoneAt workers w c id h (slice_get looks j))
    ⊎ WasGone workers w k j c id h
WasGone workers w k j c id (e ∷ h) = WasGone workers w k j c id h

-- a message of the channel at place j is past where the subscriber has come to, or wasn't past where it started, or was sent to it, or was gone when it was looked for
pub data Fares (workers w k j : ℕ) (c : List ℕ) (first cur : CursorAt) (h : List Event) (id : Id) : Type 0 where
  Ahead : IsPast id (cursor_id cur j) → Fares workers w k j c first cur h id
  Before : (IsPast id (cursor_id first j) → ⊥) → Fares workers w k j c first cur h id
  WasSentIt : WasSent k c id (own w h) → Fares workers w k j c first cur h id
  WasGoneThen : WasGone workers w k j c id h → Fares workers w k j c first cur h id

-- what is so at each place for one that has come to a cursor: each message of the channel, whenever it is stored, fares so;
-- and none that it was sent is past the cursor
pub record IsExact (workers w k : ℕ) (list : List (List ℕ)) (first cur : CursorAt) (newer older : List Event) : Type 0 where
  pub none_lost : (j : ℕ) (c : List ℕ) → slice_get list j ≡ Some c
      → AllByRecursion (λ m. Fares workers w k j c first cur older m.id) (published c (newer ++ older))
  pub none_twice : (j : ℕ) (c : List ℕ) → slice_get list j ≡ Some c → EachSent k c (λ id. IsPast id (cursor_id cur j) → ⊥) (own w older)
