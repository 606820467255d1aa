-- What is found and what is sent came by an answer to a look at its channel, or by a notice of it.
use Rattle.std.specs.Prelude.{◌≡◌, ◌⊎◌, ℕ, ◌<◌, ◌≤◌, Bool, true, List, Option, None, Some, length}
use Rattle.std.specs.List.{AllByRecursion}
use Rattle.nc_types.specs.Id.{Id}
use Rattle.nc_spool.specs.declared.ask.Ask.{Ask}
use Rattle.nc_spool.specs.declared.ask.Ask.TheVariants.{Look, Edge, Join, Part}
use Rattle.nc_spool.specs.declared.fact.Fact.{Fact}
use Rattle.nc_spool.specs.declared.fact.Fact.TheVariants.{Out, Started, Sent, Ended}
use Rattle.nc_spool_state.specs.declared.place.Quiet.{Quiet}
use Rattle.nc_spool_state.specs.declared.place.Place.{Place}
use Rattle.nc_spool_state.specs.declared.place.Place.TheVariants.{Asked, Nothing, Found}
use Rattle.nc_spool_state.specs.declared.choice.Find.{Find}
use Rattle.nc_spool_state.specs.declared.hear.News.{News}
use Rattle.nc_spool.specs.declared.board.Board.{Board}
use Rattle.nc_spool_state.specs.Key.{name_at, id_at}
use Rattle.nc_spool_state.specs.Spool.{SpoolAt, place_at}
use Rattle.nc_spool_state.specs.Starting.{StartingAt}
use Rattle.nc_spool_laws.specs.Closed.{IsKept}
use Rattle.nc_spool_laws.specs.Attended.{AnyLast, AnyKey}
use Rattle.nc_spool_brought.specs.Brought.{news_of}

-- `first` is the number that the first look of a call draws; `Was` says which looks were made before: number, channel, id;
-- `Came` says of a channel, and of a message with its grant, that it came there
module _ (first : ℕ) (Was : ℕ → List ℕ → Id → Type 0) (Came : List ℕ → News → Type 0) where
  -- a look draws its number in the call, or was made before
  abbrev pub IsAsked : ℕ → List ℕ → Id → Type 0
  IsAsked number c after = (first ≤ number) ⊎ Was number c after

  -- the look that a place awaits was asked for there, and what a place found came there
  abbrev pub PlaceCame : List ℕ → Id → Place → Type 0
  PlaceCame c after (Asked number earlier) = IsAsked number c after
  PlaceCame c after (Nothing quiet) = Unit {0}
  PlaceCame c after (Found q id owner g) = Came c (news_of id owner g)

  abbrev pub SpoolCame : SpoolAt → Type 0
  SpoolCame s = (j : ℕ) → j < length s.places → PlaceCame (name_at s.key j) (id_at s.key j) (place_at s j)

  -- a look that is told draws its number in the call
  abbrev pub AskDraws : Ask → Type 0
  AskDraws (Look number c after fence) = first ≤ number
  AskDraws (Edge number k c fence) = Unit {0}
  AskDraws (Join c k) = Unit {0}
  AskDraws (Part c k) = Unit {0}

  -- and the message that is sent came
  abbrev pub FactCame : Fact → Type 0
  FactCame (Out asking) = AskDraws asking.ask
  FactCame (Started k cursor) = Unit {0}
  FactCame (Sent sending) = Came sending.chan (news_of sending.id sending.owner sending.g)
  FactCame (Ended k deleted) = Unit {0}

  abbrev pub BoardCame : Board → Type 0
  BoardCame b = (first ≤ b.next) × AllByRecursion SpoolCame b.shelf × AllByRecursion FactCame b.facts

  -- a notice brings its message to its channel; an answer brings it to the channel at which its look was asked for
  abbrev pub NoticeBrings : List ℕ → News → Type 0
  NoticeBrings c news = Came c news

  abbrev pub AnswerBrings : ℕ → Quiet → Option News → Type 0
  AnswerBrings number quiet None = Unit {0}
  AnswerBrings number quiet (Some news) = (c : List ℕ) (after : Id) → IsAsked number c after → Came c news

  abbrev pub FindCame : Find → SpoolAt → Type 0
  FindCame find s = Came (name_at s.key find.place) (news_of find.id find.owner find.g)

  abbrev pub BesideCame : SpoolAt → Board → Type 0
  BesideCame s b = SpoolCame s × BoardCame b

  abbrev pub ApartCame : StartingAt → Board → Type 0
  ApartCame s b = BoardCame b

  -- each call keeps it
  abbrev pub KeepsCame : Type 0
  KeepsCame = IsKept NoticeBrings AnswerBrings AnyLast AnyKey FindCame BoardCame BesideCame ApartCame

-- so it is for any tests, which a contract can speak of
abbrev pub CameRule : Type 0
CameRule = (first : ℕ) (was : ℕ → List ℕ → Id → Bool) (came : List ℕ → News → Bool)
    → KeepsCame first (λ number c after. was number c after ≡ true) (λ c news. came c news ≡ true)
