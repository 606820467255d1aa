-- The stamp rule: which id a message gets, by what its owner did before.
-- The definitions up to `stamp` read the local history of one owner.
use Rattle.std.specs.Prelude.{◌≡◌, ℕ, pos, ◌+◌, ◌+ℤ◌, ◌<◌, max, not, List, [], ◌∷◌, if◌then◌else◌, ◌==◌, nat_lt, int_lt, Option, Some, None, unwrap_or, bytes_eq}
use Rattle.nc_types.specs.Id.{Id, IsTime, is_past, no_id}
use Rattle.nc_types.specs.Channel.{owner_of}
use Rattle.nc_journal.specs.History.{own, Along}
use Rattle.nc_journal.specs.declared.event.Event.{Event}
use Rattle.nc_journal.specs.declared.event.Event.TheVariants.{Clock, Raised, Stored, Looked, Joined, Removed}

-- the clock: the time of the last clock event, or 0
abbrev pub clock_of : List Event → ℕ
clock_of [] = 0
clock_of (Clock w t ∷ h) = t
clock_of (e ∷ h) = clock_of h

-- the floor: the greatest time that it was raised to or that a message was stored at, or 0
abbrev pub floor_of : List Event → ℕ
floor_of [] = 0
floor_of (Raised w t ∷ h) = max (floor_of h) t
floor_of (Stored w c id slot len exp kept members from r ct body ∷ h) = max (floor_of h) id.time
floor_of (e ∷ h) = floor_of h

abbrev pub greater_id : Id → Id → Id
greater_id a b = if is_past b a then b else a

-- the spent id: the greatest last id of the channels that were removed
abbrev pub spent_of : List Event → Id
spent_of [] = no_id
spent_of (Removed w c last cause ∷ h) = greater_id (spent_of h) last
spent_of (e ∷ h) = spent_of h

-- the last id of a channel that exists: of its last message, or the spent id when it was made
abbrev pub made_last : List ℕ → List Event → Option Id
made_last c [] = None
made_last c (Stored w d id slot len exp kept members from r ct body ∷ h) = if bytes_eq d c then Some id else made_last c h
made_last c (Looked w q from number d after floor found ∷ h) = if bytes_eq d c then Some (unwrap_or (made_last c h) (spent_of h)) else made_last c h
made_last c (Joined w d from k ∷ h) = if bytes_eq d c then Some (unwrap_or (made_last c h) (spent_of h)) else made_last c h
made_last c (Removed w d last cause ∷ h) = if bytes_eq d c then None else made_last c h
made_last c (e ∷ h) = made_last c h

-- the last id of a channel, which is the spent id where it doesn't exist
abbrev pub last_of : List ℕ → List Event → Id
last_of c h = unwrap_or (made_last c h) (spent_of h)

-- the id that follows a last id at a time: the first of a later second, else the next of its second
abbrev pub next_id : ℕ → Id → Id
next_id now last =
    if nat_lt last.time now then record { time = now; tag = pos 0 }
    else (if int_lt last.tag (pos 65535) then record { time = last.time; tag = last.tag +ℤ pos 1 } else record { time = last.time + 1; tag = pos 0 })

-- the stamp of a message that is stored now
abbrev pub stamp : List ℕ → List Event → Id
stamp c h = next_id (max (clock_of h) (floor_of h)) (last_of c h)

-- what a stored event keeps: it is by the channel's owner and has the stamp
pub record IsStamp (workers w : ℕ) (c : List ℕ) (id : Id) (h : List Event) : Type 0 where
  pub owner : w ≡ owner_of workers c
  pub stamped : id ≡ stamp c (own w h)
  pub time : IsTime id.time

-- what a removed event keeps: it is by the channel's owner and names the last id
pub record IsLast (workers w : ℕ) (c : List ℕ) (last : Id) (h : List Event) : Type 0 where
  pub owner : w ≡ owner_of workers c
  pub is_last : last ≡ last_of c (own w h)

abbrev pub StampedAt : ℕ → List Event → Event → Type 0
StampedAt workers h (Stored w c id slot len exp kept members from r ct body) = IsStamp workers w c id h
StampedAt workers h (Raised w t) = floor_of (own w h) < t
StampedAt workers h (Removed w c last cause) = IsLast workers w c last h
StampedAt workers h _ = Unit {0}

-- the stamp rule, for some number of workers
abbrev pub IsStamped : ℕ → List Event → Type 0
IsStamped workers h = Along (StampedAt workers) h

-- when a message expires that is stored now; 0 is never
abbrev pub expiry : ℕ → ℕ → ℕ
expiry now timeout = if timeout == 0 then 0 else now + timeout
