-- The holds that a worker keeps, in ascending order of owner and grant.
use Rattle.std.specs.Prelude.{ℕ, suc, Bool, false, not, ◌&&◌, ◌||◌, List, [], ◌∷◌, Option, if◌then◌else◌, find, insert, nat_lt, ◌==◌}
use Rattle.std.specs.List.{list_any}
use Rattle.std.specs.Option.{option_map}
use Rattle.nc_spool_state.specs.declared.place.Place.{Place}
use Rattle.nc_spool_state.specs.declared.place.Place.TheVariants.{Asked, Nothing, Found}
use Rattle.nc_spool_state.specs.declared.kept.Held.{Held}
use Rattle.nc_spool_state.specs.Spool.{SpoolAt}

-- a found place uses the hold of a grant
abbrev pub place_uses : ℕ → ℕ → Place → Bool
place_uses owner g (Asked number earlier) = false
place_uses owner g (Nothing quiet) = false
place_uses owner g (Found q id o n) = (o == owner) && (n == g)

-- one of a spool's places does
abbrev pub spool_uses : ℕ → ℕ → SpoolAt → Bool
spool_uses owner g s = list_any (place_uses owner g) s.places

-- one of the spools does
abbrev pub is_used : ℕ → ℕ → List SpoolAt → Bool
is_used owner g spools = list_any (spool_uses owner g) spools

module _ {H : Type 0} where
  -- this is the hold of a grant
  abbrev pub is_grant : ℕ → ℕ → Held H → Bool
  is_grant owner g h = (h.owner == owner) && (h.g == g)

  -- a grant is to stand before this hold
  abbrev pub is_before : ℕ → ℕ → Held H → Bool
  is_before owner g h = nat_lt owner h.owner || ((owner == h.owner) && nat_lt g h.g)

  -- the place of a grant's hold: before the first with a greater grant
  abbrev pub place_of_grant : ℕ → ℕ → List (Held H) → ℕ
  place_of_grant owner g [] = 0
  place_of_grant owner g (h ∷ holds) = if is_before owner g h then 0 else suc (place_of_grant owner g holds)

  -- the holds with one more, at its place
  abbrev pub with_hold : Held H → List (Held H) → List (Held H)
  with_hold h holds = insert holds (place_of_grant h.owner h.g holds) h

  -- the hold of a grant is kept
  abbrev pub is_kept : ℕ → ℕ → List (Held H) → Bool
  is_kept owner g holds = list_any (is_grant owner g) holds

  -- the hold itself
  abbrev pub own_hold : Held H → H
  own_hold h = h.hold

  -- the hold of a grant, if it is kept
  abbrev pub hold_of : ℕ → ℕ → List (Held H) → Option H
  hold_of owner g holds = option_map own_hold (find (is_grant owner g) holds)

  -- no spool uses a hold
  abbrev pub is_idle : List SpoolAt → Held H → Bool
  is_idle spools h = not (is_used h.owner h.g spools)
