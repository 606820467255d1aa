-- The subscribers of a spool stand in ascending order.
use Rattle.std.specs.Prelude.{◌≤◌, List, [], ◌∷◌}
use Rattle.std.specs.List.{AllByRecursion}
use Rattle.nc_spool_state.specs.declared.spool.Reader.{Reader}
use Rattle.nc_spool_state.specs.Spool.{SpoolAt}

-- a subscriber's number is at most that of another
abbrev pub IsUpTo : Reader → Reader → Type 0
IsUpTo r x = r.k ≤ x.k

-- each subscriber's number is at most those of the subscribers behind it
abbrev pub AreClimbing : List Reader → Type 0
AreClimbing [] = Unit {0}
AreClimbing (r ∷ readers) = AllByRecursion (IsUpTo r) readers × AreClimbing readers

-- so they stand in a spool
abbrev pub Climbs : SpoolAt → Type 0
Climbs s = AreClimbing s.readers
