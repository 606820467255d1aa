-- What each place knows, in terms of what was asked and answered.
use Rattle.std.specs.Prelude.{◌≡◌, ℕ, ◌<◌, Bool, true, false, List, Option, None, Some, length}
use Rattle.std.specs.List.{AllByRecursion}
use Rattle.nc_types.specs.Id.{Id, is_past}
use Rattle.nc_spool.specs.declared.ask.Ask.{Ask}
use Rattle.nc_spool.specs.declared.ask.Ask.TheVariants.{Look, Edge, Join, Part}
use Rattle.nc_spool.specs.declared.fact.Fact.{Fact}
use Rattle.nc_spool.specs.declared.fact.Fact.TheVariants.{Out, Started, Sent, Ended}
use Rattle.nc_spool_state.specs.declared.place.Quiet.{Quiet}
use Rattle.nc_spool_state.specs.declared.place.Place.{Place}
use Rattle.nc_spool_state.specs.declared.place.Place.TheVariants.{Asked, Nothing, Found}
use Rattle.nc_spool_state.specs.declared.hear.News.{News}
use Rattle.nc_spool.specs.declared.board.Board.{Board}
use Rattle.nc_spool_state.specs.Key.{name_at, id_at}
use Rattle.nc_spool_state.specs.Spool.{SpoolAt, place_at}
use Rattle.nc_spool_state.specs.Starting.{StartingAt}
use Rattle.nc_spool_laws.specs.Closed.{IsKept}
use Rattle.nc_spool_laws.specs.Attended.{AnyLast, AnyKey, AnyFind}

-- `Was` says which looks were made: number, channel, id; `Rested` says what an answer of "nothing" to a look of a channel behind an id is;
-- `Came` says what a message is that was found there, resting on the look of a number
module _ (Was : ℕ → List ℕ → Id → Type 0) (Rested : List ℕ → Id → Quiet → Type 0) (Came : List ℕ → Id → ℕ → News → Type 0) where
  -- what the place of a channel behind an id knows
  abbrev pub Knows : List ℕ → Id → Place → Type 0
  Knows c after (Asked number None) = Was number c after
  Knows c after (Asked number (Some quiet)) = Was number c after × Rested c after quiet
  Knows c after (Nothing quiet) = Rested c after quiet
  Knows c after (Found q id owner g) = Came c after q (record { id = id; owner = owner; g = g })

  -- each of a spool's places does
  abbrev pub IsKnowing : SpoolAt → Type 0
  IsKnowing s = (j : ℕ) → j < length s.places → Knows (name_at s.key j) (id_at s.key j) (place_at s j)

  -- each look that is told was made
  abbrev pub AskWas : Ask → Type 0
  AskWas (Look number c after fence) = Was number c after
  AskWas (Edge number k c fence) = Unit {0}
  AskWas (Join c k) = Unit {0}
  AskWas (Part c k) = Unit {0}

  -- so is each look that a fact tells
  abbrev pub FactWas : Fact → Type 0
  FactWas (Out asking) = AskWas asking.ask
  FactWas (Started k cursor) = Unit {0}
  FactWas (Sent sending) = Unit {0}
  FactWas (Ended k deleted) = Unit {0}

  -- and each that some facts tell
  abbrev pub AllWere : List Fact → Type 0
  AllWere facts = AllByRecursion FactWas facts

  -- where each told look was made, all places know
  abbrev pub BoardKnows : Board → Type 0
  BoardKnows b = AllWere b.facts → AllByRecursion IsKnowing b.shelf

  -- so do those of a spool that was taken from the board
  abbrev pub BesideKnows : SpoolAt → Board → Type 0
  BesideKnows s b = AllWere b.facts → IsKnowing s × AllByRecursion IsKnowing b.shelf

  -- a start knows nothing of messages
  abbrev pub ApartKnows : StartingAt → Board → Type 0
  ApartKnows s b = BoardKnows b

  -- an answer is right where it means what it brings, for the channel and the id that were asked
  abbrev pub Means : List ℕ → Id → Quiet → Option News → Type 0
  Means c after quiet None = Rested c after quiet
  Means c after quiet (Some news) = (is_past news.id after ≡ true → Came c after quiet.q news) × (is_past news.id after ≡ false → Rested c after quiet)

  -- whatever the look of the answer's number asked for, the answer means it
  abbrev pub IsRight : ℕ → Quiet → Option News → Type 0
  IsRight number quiet news = (c : List ℕ) (after : Id) → Was number c after → Means c after quiet news

  -- a notice is good where what rested on an answer is now what came
  abbrev pub IsGood : List ℕ → News → Type 0
  IsGood c news = (after : Id) (quiet : Quiet) → Rested c after quiet → is_past news.id after ≡ true → Came c after quiet.q news

  -- each call keeps what the places know
  abbrev pub KeepsKnowing : Type 0
  KeepsKnowing = IsKept IsGood IsRight AnyLast AnyKey AnyFind BoardKnows BesideKnows ApartKnows

-- the same of any tests, which a contract can speak of
abbrev pub KnowingRule : Type 0
KnowingRule =
    (was : ℕ → List ℕ → Id → Bool) (rested : List ℕ → Id → Quiet → Bool) (came : List ℕ → Id → ℕ → News → Bool)
    → KeepsKnowing (λ number c after. was number c after ≡ true) (λ c after quiet. rested c after quiet ≡ true)
    (λ c after q news. came c after q news ≡ true)
