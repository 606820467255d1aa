-- The spools stand in ascending order of list and cursor.
use Rattle.std.specs.Prelude.{◌≡◌, ◌≢◌, true, List, [], ◌∷◌}
use Rattle.std.specs.Ordering.{is_eq}
use Rattle.std.specs.List.{AllByRecursion}
use Rattle.std.specs.declared.cmp.Ordering.TheVariants.{Less, Equal}
use Rattle.nc_spool.specs.declared.board.Board.{Board}
use Rattle.nc_spool_state.specs.Key.{KeyAt, key_cmp}
use Rattle.nc_spool_state.specs.Spool.{SpoolAt}
use Rattle.nc_spool_state.specs.Starting.{StartingAt}
use Rattle.nc_spool_laws.specs.Closed.{IsKept}
use Rattle.nc_spool_laws.specs.Attended.{AnyLast, AnyKey, AnyNews, AnyAnswer, AnyFind}

-- a key is below that of a spool
abbrev pub IsBelow : KeyAt → SpoolAt → Type 0
IsBelow key s = key_cmp key s.key ≡ Less

-- a key is another than that of a spool
abbrev pub IsOther : KeyAt → SpoolAt → Type 0
IsOther key s = key_cmp key s.key ≢ Equal

-- each spool's key is below those of the spools behind it
abbrev pub AreAscending : List SpoolAt → Type 0
AreAscending [] = Unit {0}
AreAscending (s ∷ spools) = AllByRecursion (IsBelow s.key) spools × AreAscending spools

-- so the spools of a board do
abbrev pub Ascends : Board → Type 0
Ascends b = AreAscending b.shelf

-- a spool that was taken has another key than those that are left
abbrev pub AscendsBeside : SpoolAt → Board → Type 0
AscendsBeside s b = AllByRecursion (IsOther s.key) b.shelf × AreAscending b.shelf

-- a start changes nothing of it
abbrev pub AscendsApart : StartingAt → Board → Type 0
AscendsApart s b = AreAscending b.shelf

-- each call keeps the order
abbrev pub KeepsOrder : Type 0
KeepsOrder = IsKept AnyNews AnyAnswer AnyLast AnyKey AnyFind Ascends AscendsBeside AscendsApart

-- keys that are ordered as equal are one key
abbrev pub EqualKeysAreOne : Type 0
EqualKeysAreOne = (a b : KeyAt) → is_eq (key_cmp a b) ≡ true → a ≡ b
