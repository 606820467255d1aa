-- The uses of holds, counted.
use Rattle.std.specs.Prelude.{◌≡◌, ℕ, Bool, List, if◌then◌else◌, ◌==◌, ◌&&◌, count_by, nat_lt}
use Rattle.std.specs.List.{sum_by}
use Rattle.nc_spool_state.specs.declared.place.Place.{Place}
use Rattle.nc_spool_state.specs.declared.uses.Use.{Use}
use Rattle.nc_spool_state.specs.Spool.{SpoolAt}
use Rattle.nc_spool_state.specs.Kept.{place_uses}

-- what a place adds to the uses of a grant's hold
abbrev pub one_use : ℕ → ℕ → Place → ℕ
one_use owner g place = if place_uses owner g place then 1 else 0

-- how many of some places found a message that is held by this grant
abbrev pub uses_among : ℕ → ℕ → List Place → ℕ
uses_among owner g places = count_by (place_uses owner g) places

-- how many places of the spools did: the uses of the hold
abbrev pub uses_in : ℕ → ℕ → List SpoolAt → ℕ
uses_in owner g spools = sum_by (λ s. uses_among owner g s.places) spools

-- a count is that of a grant
abbrev pub is_count : ℕ → ℕ → Use → Bool
is_count owner g u = (u.owner == owner) && (u.g == g)

-- what a count adds for a grant
abbrev pub places_of : ℕ → ℕ → Use → ℕ
places_of owner g u = if is_count owner g u then u.places else 0

-- what the counts tell of a grant
abbrev pub counted : ℕ → ℕ → List Use → ℕ
counted owner g counts = sum_by (places_of owner g) counts

-- a count tells that a grant's hold has a use
abbrev pub tells_use : ℕ → ℕ → Use → Bool
tells_use owner g u = is_count owner g u && nat_lt 0 u.places

-- the counts tell of each grant how many places of the spools use its hold
abbrev pub AreCounted : List Use → List SpoolAt → Type 0
AreCounted counts spools = (owner g : ℕ) → counted owner g counts ≡ uses_in owner g spools
