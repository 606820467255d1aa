-- The subscribers of spools, by the history.
use Rattle.std.specs.Prelude.{◌≡◌, ℕ, false, List, [], ◌∷◌, ◌==◌}
use Rattle.std.specs.List.{AllByRecursion}
use Rattle.nc_journal.specs.History.{own}
use Rattle.nc_journal.specs.Standing.{Standing, stage_of}
use Rattle.nc_journal.specs.declared.event.Event.{Event}
use Rattle.nc_spool_state.specs.declared.spool.Reader.{Reader}
use Rattle.nc_spool_state.specs.Key.{KeyAt}
use Rattle.nc_spool_state.specs.Spool.{SpoolAt}

-- a subscriber stands at a key
abbrev pub StandsAtKey : ℕ → KeyAt → List Event → Reader → Type 0
StandsAtKey w key h r = stage_of r.k (own w h) ≡ Standing key.list r.once key.cursor

-- each subscriber of a spool stands at its key
abbrev pub StandHere : ℕ → SpoolAt → List Event → Type 0
StandHere w s h = AllByRecursion (StandsAtKey w s.key h) s.readers

-- this is another subscriber
abbrev pub IsOther : ℕ → Reader → Type 0
IsOther k r = (k == r.k) ≡ false

-- no subscriber stands twice in a spool
abbrev pub AreOnce : List Reader → Type 0
AreOnce [] = Unit {0}
AreOnce (r ∷ rs) = AllByRecursion (IsOther r.k) rs × AreOnce rs

-- a subscriber isn't among those of a spool
abbrev pub IsNotIn : ℕ → SpoolAt → Type 0
IsNotIn k s = AllByRecursion (IsOther k) s.readers
