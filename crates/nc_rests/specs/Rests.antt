-- What a place of a spool rests on: a look of its channel's owner, and what was found at it or since.
use Rattle.std.specs.Prelude.{◌≡◌, ℕ, List, ◌∷◌, ◌++◌, Option, None, Some}
use Rattle.nc_types.specs.Id.{Id, IsPast}
use Rattle.nc_types.specs.Channel.{owner_of}
use Rattle.nc_journal.specs.History.{own}
use Rattle.nc_journal.specs.Message.{Message, published}
use Rattle.nc_journal.specs.declared.event.Event.{Event}
use Rattle.nc_journal.specs.declared.event.Event.TheVariants.{Looked}
use Rattle.nc_owner_laws.specs.Wake.{NotYet, Waiting, hears}
use Rattle.nc_history.specs.Packets.{received}
use Rattle.nc_rests.specs.Came.{CameBy}

-- look q that worker w made at a channel past an id, with what it told, in the local history of the owner
pub record LookAt (o w q : ℕ) (c : List ℕ) (after : Id) (floor : ℕ) (found : Option Id) (l : List Event) : Type 0 where
  pub since : List Event
  pub number : ℕ
  pub seen : List Event
  pub place : l ≡ since ++ Looked o q w number c after floor found ∷ seen

-- the first of some messages has this id
pub record BeginsWith (id : Id) (ms : List Message) : Type 0 where
  pub first : Message
  pub others : List Message
  pub split : ms ≡ first ∷ others
  pub same : first.id ≡ id

-- the look found the message, or found nothing and the message is the first one stored behind it
pub data IsFound (o w q : ℕ) (c : List ℕ) (after id : Id) (l : List Event) : Type 0 where
  AtLook : (floor : ℕ) → LookAt o w q c after floor (Some id) l → IsFound o w q c after id l
  Behind : (floor : ℕ) (look : LookAt o w q c after floor None l) → BeginsWith id (published c look.since) → IsPast id after
      → IsFound o w q c after id l

-- a message that was found, and that came to the worker
pub record IsFoundBy (workers w q : ℕ) (c : List ℕ) (after id : Id) (h : List Event) : Type 0 where
  pub found : IsFound (owner_of workers c) w q c after id (own (owner_of workers c) h)
  pub came : CameBy q c id (received (owner_of workers c) w h)

-- a look that found nothing, and of whose channel the worker heard nothing since
pub record IsNothing (workers w q : ℕ) (c : List ℕ) (after : Id) (floor : ℕ) (h : List Event) : Type 0 where
  pub look : LookAt (owner_of workers c) w q c after floor None (own (owner_of workers c) h)
  pub waits : hears c q NotYet (received (owner_of workers c) w h) ≡ Waiting

-- a place that isn't asked: it has the number of the look that it rests on
pub data Rest : Type 0 where
  Nothing : (look floor : ℕ) → Rest
  Found : (look : ℕ) (id : Id) → Rest

abbrev pub look_of : Rest → ℕ
look_of (Nothing q floor) = q
look_of (Found q id) = q

-- what is so of such a place of worker w, at a channel and past an id; also of an earlier answer that is kept beside a new look
abbrev pub RestsAt : ℕ → ℕ → List ℕ → Id → Rest → List Event → Type 0
RestsAt workers w c after (Nothing q floor) h = IsNothing workers w q c after floor h
RestsAt workers w c after (Found q id) h = IsFoundBy workers w q c after id h
