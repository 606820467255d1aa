-- What is found and what is sent was brought by an answer or a notice of its channel.
use Rattle.std.specs.Prelude.{◌≡◌, ℕ, ◌<◌, Bool, true, List, Option, None, Some, length}
use Rattle.std.specs.List.{AllByRecursion}
use Rattle.nc_types.specs.Id.{Id}
use Rattle.nc_spool.specs.declared.fact.Fact.{Fact}
use Rattle.nc_spool.specs.declared.fact.Fact.TheVariants.{Out, Started, Sent, Ended}
use Rattle.nc_spool_state.specs.declared.place.Quiet.{Quiet}
use Rattle.nc_spool_state.specs.declared.place.Place.{Place}
use Rattle.nc_spool_state.specs.declared.place.Place.TheVariants.{Asked, Nothing, Found}
use Rattle.nc_spool_state.specs.declared.choice.Find.{Find}
use Rattle.nc_spool_state.specs.declared.hear.News.{News}
use Rattle.nc_spool.specs.declared.board.Board.{Board}
use Rattle.nc_spool_state.specs.Key.{name_at}
use Rattle.nc_spool_state.specs.Spool.{SpoolAt, place_at}
use Rattle.nc_spool_state.specs.Starting.{StartingAt}
use Rattle.nc_spool_laws.specs.Closed.{IsKept}
use Rattle.nc_spool_laws.specs.Attended.{AnyLast, AnyKey}

-- a message of an id with its grant by an owner
abbrev pub news_of : Id → ℕ → ℕ → News
news_of id owner g = record { id = id; owner = owner; g = g }

-- `Came` says of a channel, of the number of the look on which a place rests, and of a message with its grant, how it came there
module _ (Came : List ℕ → ℕ → News → Type 0) where
  -- it came so, on some look
  pub record IsBrought (c : List ℕ) (news : News) : Type 0 where
    pub q : ℕ
    pub came : Came c q news

  -- the message that was found at a place of a channel came so
  abbrev pub PlaceBrought : List ℕ → Place → Type 0
  PlaceBrought c (Asked number earlier) = Unit {0}
  PlaceBrought c (Nothing quiet) = Unit {0}
  PlaceBrought c (Found q id owner g) = Came c q (news_of id owner g)

  abbrev pub SpoolBrought : SpoolAt → Type 0
  SpoolBrought s = (j : ℕ) → j < length s.places → PlaceBrought (name_at s.key j) (place_at s j)

  -- so did the message that is sent
  abbrev pub FactBrought : Fact → Type 0
  FactBrought (Out outgoing) = Unit {0}
  FactBrought (Started k cursor) = Unit {0}
  FactBrought (Sent sending) = IsBrought sending.chan (news_of sending.id sending.owner sending.g)
  FactBrought (Ended k deleted) = Unit {0}

  abbrev pub BoardBrought : Board → Type 0
  BoardBrought b = AllByRecursion SpoolBrought b.shelf × AllByRecursion FactBrought b.facts

  -- a notice brings its message to its channel, whatever a place there rests on; an answer brings it to the channel that was asked
  abbrev pub NoticeBrings : List ℕ → News → Type 0
  NoticeBrings c news = (q : ℕ) → Came c q news

  abbrev pub AnswerBrings : ℕ → Quiet → Option News → Type 0
  AnswerBrings number quiet None = Unit {0}
  AnswerBrings number quiet (Some news) = (c : List ℕ) → Came c quiet.q news

  abbrev pub FindBrought : Find → SpoolAt → Type 0
  FindBrought find s = IsBrought (name_at s.key find.place) (news_of find.id find.owner find.g)

  abbrev pub BesideBrought : SpoolAt → Board → Type 0
  BesideBrought s b = SpoolBrought s × BoardBrought b

  abbrev pub ApartBrought : StartingAt → Board → Type 0
  ApartBrought s b = BoardBrought b

  -- each call keeps it
  abbrev pub KeepsBrought : Type 0
  KeepsBrought = IsKept NoticeBrings AnswerBrings AnyLast AnyKey FindBrought BoardBrought BesideBrought ApartBrought

-- so it is for any test, which a contract can speak of
abbrev pub BroughtRule : Type 0
BroughtRule = (came : List ℕ → ℕ → News → Bool) → KeepsBrought (λ c q news. came c q news ≡ true)
