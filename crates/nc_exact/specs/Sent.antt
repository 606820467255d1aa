-- What a subscriber was sent, and how far it has come.
use Rattle.std.specs.Prelude.{◌≡◌, ◌⊎◌, ℕ, if◌then◌else◌, ◌==◌, List, [], ◌∷◌, Option, None, Some}
use Rattle.nc_types.specs.Id.{Id, IsPast}
use Rattle.nc_types.specs.Cursor.{CursorAt}
use Rattle.nc_journal.specs.History.{own}
use Rattle.nc_journal.specs.Standing.{Standing, Stage, Served}
use Rattle.nc_journal.specs.declared.event.Event.{Event}
use Rattle.nc_journal.specs.declared.event.Event.TheVariants.{Started, Sent}

-- where subscriber k started, by the local history of its worker
abbrev pub first_cursor : ℕ → List Event → Option CursorAt
first_cursor k [] = None
first_cursor k (Started w n cur ∷ l) = if n == k then Some cur else first_cursor k l
first_cursor k (e ∷ l) = first_cursor k l

-- subscriber k was sent this message of a channel
abbrev pub WasSent : ℕ → List ℕ → Id → List Event → Type 0
WasSent k c id [] = ⊥
WasSent k c id (Sent w n i d m cur looks ∷ l) = ((n ≡ k) × (d ≡ c) × (m ≡ id)) ⊎ WasSent k c id l
WasSent k c id (e ∷ l) = WasSent k c id l

-- each message of a channel that subscriber k was sent is so
abbrev pub EachSent : ℕ → List ℕ → (Id → Type 0) → List Event → Type 0
EachSent k c P [] = Unit {0}
EachSent k c P (Sent w n i d m cur looks ∷ l) = (n ≡ k → d ≡ c → P m) × EachSent k c P l
EachSent k c P (e ∷ l) = EachSent k c P l

-- a subscriber has come to a cursor of its list
abbrev pub StandsAt : List (List ℕ) → CursorAt → Stage → Type 0
StandsAt list cur (Standing names once at) = (names ≡ list) × (at ≡ cur)
StandsAt list cur (Served names at) = (names ≡ list) × (at ≡ cur)
StandsAt list cur _ = ⊥

-- the ids of one channel that a subscriber is sent rise strictly
abbrev pub RisesFor : List Event → Event → Type 0
RisesFor h (Sent w k i c id cur looks) = EachSent k c (λ earlier. IsPast id earlier) (own w h)
RisesFor h _ = Unit {0}
