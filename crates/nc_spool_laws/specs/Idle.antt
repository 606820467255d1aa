-- Which hold is released: the least one without a use.
use Rattle.std.specs.Prelude.{◌≡◌, ◌⊎◌, true, false, None, Some, find}
use Rattle.std.specs.List.{AllByRecursion}
use Rattle.nc_spool_state.specs.declared.kept.Held.{Held}
use Rattle.nc_spool_state.specs.Kept.{is_used, is_idle}
use Rattle.nc_spool.specs.Calls.{SpoolsAt}
use Rattle.nc_spool_laws.specs.Holding.{IsBefore, AreRising}

-- each kept hold is used by a message that was found
abbrev pub AllUsed : {H : Type 0} → SpoolsAt H → Type 0
AllUsed s = AllByRecursion (λ h. is_used h.owner h.g s.shelf ≡ true) s.kept

-- a hold has no use, and each other kept one without a use is behind it by owner and grant
pub record IsLeastIdle {H : Type 0} (s : SpoolsAt H) (h : Held H) : Type 0 where
  pub idle : is_used h.owner h.g s.shelf ≡ false
  pub least : AllByRecursion (λ x. is_used x.owner x.g s.shelf ≡ false → (x ≡ h) ⊎ IsBefore h x) s.kept

-- none is released exactly where each kept hold has a use, and else the least one without
pub record IdleRule (H : Type 0) : Type 0 where
  pub none : (s : SpoolsAt H) → find (is_idle s.shelf) s.kept ≡ None → AllUsed s
  pub used : (s : SpoolsAt H) → AllUsed s → find (is_idle s.shelf) s.kept ≡ None
  pub least : (s : SpoolsAt H) (h : Held H) → AreRising s.kept → find (is_idle s.shelf) s.kept ≡ Some h → IsLeastIdle s h
