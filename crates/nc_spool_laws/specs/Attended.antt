-- Someone stands in each spool, and the hold of each message that was found is kept.
use Rattle.std.specs.Prelude.{◌≡◌, ℕ, ◌<◌, true, List, [], Option, IfSome, length}
use Rattle.std.specs.List.{AllByRecursion}
use Rattle.nc_types.specs.Id.{Id}
use Rattle.nc_spool_state.specs.declared.place.Quiet.{Quiet}
use Rattle.nc_spool_state.specs.declared.place.Place.{Place}
use Rattle.nc_spool_state.specs.declared.place.Place.TheVariants.{Asked, Nothing, Found}
use Rattle.nc_spool_state.specs.declared.choice.Find.{Find}
use Rattle.nc_spool_state.specs.declared.hear.News.{News}
use Rattle.nc_spool_state.specs.declared.kept.Held.{Held}
use Rattle.nc_spool.specs.declared.board.Board.{Board}
use Rattle.nc_spool_state.specs.Key.{KeyAt}
use Rattle.nc_spool_state.specs.Spool.{SpoolAt}
use Rattle.nc_spool_state.specs.Kept.{is_kept}
use Rattle.nc_spool_state.specs.Starting.{StartingAt}
use Rattle.nc_spool_laws.specs.Closed.{IsKept}

-- what holds of each spool of a board
abbrev pub InAll : (SpoolAt → Type 0) → Board → Type 0
InAll P b = AllByRecursion P b.shelf

-- and of a spool that was taken from it
abbrev pub BesideAll : (SpoolAt → Type 0) → SpoolAt → Board → Type 0
BesideAll P s b = P s × InAll P b

-- a start changes nothing of it
abbrev pub ApartAll : (SpoolAt → Type 0) → StartingAt → Board → Type 0
ApartAll P s b = InAll P b

-- nothing is asked of a message that is sent
abbrev pub AnyFind : Find → SpoolAt → Type 0
AnyFind find s = Unit {0}

-- nothing is asked of a notice
abbrev pub AnyNews : List ℕ → News → Type 0
AnyNews c news = Unit {0}

-- nothing is asked of the answer to a look
abbrev pub AnyAnswer : ℕ → Quiet → Option News → Type 0
AnyAnswer number quiet news = Unit {0}

-- nothing is asked of the id that an edge brings
abbrev pub AnyLast : Id → Type 0
AnyLast last = Unit {0}

-- nothing is asked of a key
abbrev pub AnyKey : KeyAt → Type 0
AnyKey key = Unit {0}

-- each call keeps it
abbrev pub KeepsAll : (List ℕ → News → Type 0) → (ℕ → Quiet → Option News → Type 0) → (SpoolAt → Type 0) → Type 0
KeepsAll Good Right P = IsKept Good Right AnyLast AnyKey AnyFind (InAll P) (BesideAll P) (ApartAll P)

-- someone stands in a spool
abbrev pub IsAttended : SpoolAt → Type 0
IsAttended s = 0 < length s.readers

-- there is a place for each name
abbrev pub IsWhole : SpoolAt → Type 0
IsWhole s = length s.places ≡ length s.key.list

-- `kept` are the holds that are kept
module _ {H : Type 0} (kept : List (Held H)) where
  -- the hold of a message that was found at a place is kept
  abbrev pub PlaceHeld : Place → Type 0
  PlaceHeld (Asked number earlier) = Unit {0}
  PlaceHeld (Nothing quiet) = Unit {0}
  PlaceHeld (Found q id owner g) = is_kept owner g kept ≡ true

  -- so are those of a spool's places
  abbrev pub IsHeld : SpoolAt → Type 0
  IsHeld s = AllByRecursion PlaceHeld s.places

  -- and that of a message that a notice brings
  abbrev pub NewsHeld : List ℕ → News → Type 0
  NewsHeld c news = is_kept news.owner news.g kept ≡ true

  -- and that of a message that an answer brings
  abbrev pub AnswerHeld : ℕ → Quiet → Option News → Type 0
  AnswerHeld number quiet news = IfSome news (NewsHeld [])
