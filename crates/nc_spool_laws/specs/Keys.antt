-- The keys of spools: distinct names, and a tag for each of them.
use Rattle.std.specs.Prelude.{◌≡◌, IfSome, length}
use Rattle.std.specs.List.{AllByRecursion}
use Rattle.nc_types.specs.Channel.{AreDistinct}
use Rattle.nc_spool_state.specs.declared.choice.Find.{Find}
use Rattle.nc_spool.specs.declared.board.Board.{Board}
use Rattle.nc_spool_state.specs.Key.{KeyAt}
use Rattle.nc_spool_state.specs.Spool.{SpoolAt}
use Rattle.nc_spool_state.specs.Starting.{StartingAt}
use Rattle.nc_spool_laws.specs.Closed.{IsKept}
use Rattle.nc_spool_laws.specs.Attended.{AnyNews, AnyAnswer, AnyLast}

-- a key's names are distinct, and its cursor has a tag for each
pub record IsFitting (key : KeyAt) : Type 0 where
  pub distinct : AreDistinct key.list
  pub tags : length key.cursor.tags ≡ length key.list

-- a spool's key is such a one
abbrev pub SpoolFits : SpoolAt → Type 0
SpoolFits s = IsFitting s.key

-- a start has distinct names, an edge for each of them, and a tag for each if it has a cursor
pub record StartFits (s : StartingAt) : Type 0 where
  pub distinct : AreDistinct s.list
  pub edges : length s.edges ≡ length s.list
  pub tags : IfSome s.cursor (λ cursor. length cursor.tags ≡ length s.list)

-- all this of a board
abbrev pub AllFit : Board → Type 0
AllFit b = AllByRecursion SpoolFits b.shelf × AllByRecursion StartFits b.starts

-- and of a spool that was taken from it
abbrev pub FitsBeside : SpoolAt → Board → Type 0
FitsBeside s b = IsFitting s.key × AllFit b

-- and of a start that was taken from it
abbrev pub FitsApart : StartingAt → Board → Type 0
FitsApart s b = StartFits s × AllFit b

-- the key of a spool that sends fits
abbrev pub FindFits : Find → SpoolAt → Type 0
FindFits find s = IsFitting s.key

-- where the list and the start of who comes fit, each call leaves all keys so
abbrev pub KeepsKeys : Type 0
KeepsKeys = IsKept AnyNews AnyAnswer AnyLast IsFitting FindFits AllFit FitsBeside FitsApart
