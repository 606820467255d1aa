-- Where a fence comes from: it is 0, the time of a message that was found, or that of an id that an owner answered.
use Rattle.std.specs.Prelude.{◌≡◌, ℕ, Bool, true, List, [], Option, IfSome}
use Rattle.std.specs.List.{AllByRecursion}
use Rattle.nc_types.specs.Id.{Id}
use Rattle.nc_spool_state.specs.declared.place.Quiet.{Quiet}
use Rattle.nc_spool_state.specs.declared.place.Place.{Place}
use Rattle.nc_spool_state.specs.declared.place.Place.TheVariants.{Asked, Nothing, Found}
use Rattle.nc_spool_state.specs.declared.hear.News.{News}
use Rattle.nc_spool_state.specs.declared.edge.Edge.{Edge}
use Rattle.nc_spool_state.specs.declared.edge.Edge.TheVariants.{Awaited, Known}
use Rattle.nc_spool_state.specs.Spool.{SpoolAt}
use Rattle.nc_spool_state.specs.Starting.{StartingAt}
use Rattle.nc_spool.specs.declared.ask.Ask.{Ask}
use Rattle.nc_spool.specs.declared.ask.Ask.TheVariants as asks
use Rattle.nc_spool.specs.declared.fact.Fact.{Fact}
use Rattle.nc_spool.specs.declared.fact.Fact.TheVariants.{Out, Started, Sent, Ended}
use Rattle.nc_spool.specs.declared.board.Board.{Board}
use Rattle.nc_spool_laws.specs.Closed.{IsKept}
use Rattle.nc_spool_laws.specs.Attended.{AnyKey, AnyFind}

-- `Is` says of a time that it may be a fence
module _ (Is : ℕ → Type 0) where
  -- what is asked has such a fence
  abbrev pub AskFenced : Ask → Type 0
  AskFenced (asks.Look number c after fence) = Is fence
  AskFenced (asks.Edge number k c fence) = Is fence
  AskFenced (asks.Join c k) = Unit {0}
  AskFenced (asks.Part c k) = Unit {0}

  -- what is told asks nothing with another fence
  abbrev pub FactFenced : Fact → Type 0
  FactFenced (Out asking) = AskFenced asking.ask
  FactFenced (Started k cursor) = Unit {0}
  FactFenced (Sent sending) = Unit {0}
  FactFenced (Ended k deleted) = Unit {0}

  -- a message that was found has such a time
  abbrev pub PlaceFenced : Place → Type 0
  PlaceFenced (Asked number earlier) = Unit {0}
  PlaceFenced (Nothing quiet) = Unit {0}
  PlaceFenced (Found q id owner g) = Is id.time

  -- each message that a spool found has such a time
  abbrev pub SpoolFenced : SpoolAt → Type 0
  SpoolFenced s = AllByRecursion PlaceFenced s.places

  -- an id that an edge brought has such a time
  abbrev pub EdgeFenced : Edge → Type 0
  EdgeFenced (Awaited number) = Unit {0}
  EdgeFenced (Known last floor) = Is last.time

  -- each id that a start knows has such a time
  abbrev pub StartFenced : StartingAt → Type 0
  StartFenced s = AllByRecursion EdgeFenced s.edges

  -- all this of a board
  pub record BoardFenced (b : Board) : Type 0 where
    pub spools : AllByRecursion SpoolFenced b.shelf
    pub starts : AllByRecursion StartFenced b.starts
    pub facts : AllByRecursion FactFenced b.facts

  -- and of a spool that was taken from it
  abbrev pub BesideFenced : SpoolAt → Board → Type 0
  BesideFenced s b = SpoolFenced s × BoardFenced b

  -- and of a start that was taken from it
  abbrev pub ApartFenced : StartingAt → Board → Type 0
  ApartFenced s b = StartFenced s × BoardFenced b

  -- a notice brings a message with such a time
  abbrev pub NewsFenced : List ℕ → News → Type 0
  NewsFenced c news = Is news.id.time

  -- so does the answer to a look, if it brings one
  abbrev pub AnswerFenced : ℕ → Quiet → Option News → Type 0
  AnswerFenced number quiet news = IfSome news (NewsFenced [])

  -- and the answer to an edge brings an id with such a time
  abbrev pub LastFenced : Id → Type 0
  LastFenced last = Is last.time

  -- where 0 and what comes in are such times, each call asks with such fences only
  abbrev pub KeepsFences : Type 0
  KeepsFences = Is 0 → IsKept NewsFenced AnswerFenced LastFenced AnyKey AnyFind BoardFenced BesideFenced ApartFenced

-- the same of tests, which a contract can speak of
abbrev pub KeepsFenceTests : (ℕ → Bool) → Type 0
KeepsFenceTests is = KeepsFences (λ time. is time ≡ true)
