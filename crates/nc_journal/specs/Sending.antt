-- What a subscriber is sent, where it starts, and what it doesn't lack.
use Rattle.std.specs.Prelude.{◌≡◌, ◌⊎◌, ℕ, negsuc, List, [], ◌∷◌, ◌++◌, length, map, slice_get, Some}
use Rattle.std.specs.List.{AllByRecursion}
use Rattle.nc_types.specs.Id.{Id, IsPast}
use Rattle.nc_types.specs.Cursor.{CursorAt, cursor_id, moved}
use Rattle.nc_types.specs.Channel.{owner_of}
use Rattle.nc_types.specs.declared.start.Start.TheVariants.{Oldest, Newest, Given}
use Rattle.nc_journal.specs.History.{own, Along, AtEachCut}
use Rattle.nc_journal.specs.Message.{Message, published, buffer}
use Rattle.nc_journal.specs.Standing.{Stage, Starting, Standing, stage_of}
use Rattle.nc_journal.specs.Newest.{StartsNewest}
use Rattle.nc_journal.specs.declared.event.Event.{Event}
use Rattle.nc_journal.specs.declared.event.Event.TheVariants.{Started, Sent, Looked, Quiet}

-- a list has a message of this id
abbrev pub HasId : List Message → Id → Type 0
HasId [] id = ⊥
HasId (m ∷ rest) id = (m.id ≡ id) ⊎ HasId rest id

-- a message of channel d is passed over for a reason: it is the sent one, or wasn't past the old cursor there, or is past the new one
abbrev pub IsSpared : List ℕ → Id → List ℕ → Id → Id → Message → Type 0
IsSpared c id d old new m = ((d ≡ c) × (m.id ≡ id)) ⊎ ((IsPast m.id old → ⊥) ⊎ IsPast m.id new)

-- the look number q of a worker at a channel, by its owner, past an id
abbrev pub IsLook : ℕ → ℕ → ℕ → List ℕ → Id → Event → Type 0
IsLook owner q from c after (Looked v n u number d a floor found) = (v ≡ owner) × (n ≡ q) × (u ≡ from) × (d ≡ c) × (a ≡ after)
IsLook owner q from c after _ = ⊥

-- what the sent message (c, id) rests on for one channel d of the list, where the cursor there goes from `old` to `new`:
-- a look stands before the sent, and each message that was buffered at it or stored after it, also after the sent, is spared
pub record RestsOnLook (workers w q : ℕ) (c : List ℕ) (id : Id) (d : List ℕ) (old new : Id) (newer older : List Event) : Type 0 where
  pub since : List Event
  pub look : Event
  pub seen : List Event
  pub place : older ≡ since ++ look ∷ seen
  pub is_look : IsLook (owner_of workers d) q w d old look
  pub buffered : AllByRecursion (IsSpared c id d old new) (buffer d seen)
  pub later : AllByRecursion (IsSpared c id d old new) (published d (newer ++ since))
  -- the sent message itself was buffered at the look, or stored between it and the sent
  pub found : d ≡ c → HasId (buffer d seen) id ⊎ HasId (published d since) id

-- what a sent keeps for one that stands with a list at a cursor
pub record IsSentFrom (workers w i : ℕ) (c : List ℕ) (id : Id) (cur : CursorAt) (looks : List ℕ) (list : List (List ℕ)) (old : CursorAt)
    (newer older : List Event) : Type 0 where
  pub channel : slice_get list i ≡ Some c
  pub past : IsPast id (cursor_id old i)
  pub cursor : cur ≡ moved old i id
  pub looks_each : length looks ≡ length list
  pub rests : (j : ℕ) (d : List ℕ) (q : ℕ) → slice_get list j ≡ Some d → slice_get looks j ≡ Some q
      → RestsOnLook workers w q c id d (cursor_id old j) (cursor_id cur j) newer older

abbrev pub SentFrom : (workers w i : ℕ) → List ℕ → Id → CursorAt → List ℕ → List Event → List Event → Stage → Type 0
SentFrom workers w i c id cur looks newer older (Standing list once old) = IsSentFrom workers w i c id cur looks list old newer older
SentFrom workers w i c id cur looks newer older _ = ⊥

abbrev pub SentAt : ℕ → List Event → Event → List Event → Type 0
SentAt workers newer (Sent w k i c id cur looks) older = SentFrom workers w i c id cur looks newer older (stage_of k (own w older))
SentAt workers newer _ older = Unit {0}

-- lawful sent
abbrev pub IsSentLawfully : ℕ → List Event → Type 0
IsSentLawfully workers h = AtEachCut (SentAt workers) h

-- where a subscriber starts: before every message, at the given cursor, or behind the newest messages by its edges
abbrev pub StartsFrom : (workers w k : ℕ) → CursorAt → List Event → List Event → Stage → Type 0
StartsFrom workers w k cur newer older (Starting list once Oldest) = cur ≡ record { time = 0; tags = map (λ c. negsuc 0) list }
StartsFrom workers w k cur newer older (Starting list once (Given from)) = cur ≡ from
StartsFrom workers w k cur newer older (Starting list once Newest) = StartsNewest workers w k list cur newer older
StartsFrom workers w k cur newer older _ = ⊥

abbrev pub StartedAt : ℕ → List Event → Event → List Event → Type 0
StartedAt workers newer (Started w k cur) older = StartsFrom workers w k cur newer older (stage_of k (own w older))
StartedAt workers newer _ older = Unit {0}

-- lawful started, for some number of workers
abbrev pub IsStartedLawfully : ℕ → List Event → Type 0
IsStartedLawfully workers h = AtEachCut (StartedAt workers) h

-- one that stands lacks no buffered message of its channels
abbrev pub LacksNothing : List Event → Stage → Type 0
LacksNothing h (Standing list once cur) = (j : ℕ) (c : List ℕ) → slice_get list j ≡ Some c
    → AllByRecursion (λ m. IsPast m.id (cursor_id cur j) → ⊥) (buffer c h)
LacksNothing h _ = Unit {0}

abbrev pub QuietAt : List Event → Event → Type 0
QuietAt h Quiet = (w k : ℕ) → LacksNothing h (stage_of k (own w h))
QuietAt h _ = Unit {0}

-- the sentence on quiet: when no alert is pending, nobody who stands lacks a buffered message
abbrev pub IsQuietRule : List Event → Type 0
IsQuietRule h = Along QuietAt h
