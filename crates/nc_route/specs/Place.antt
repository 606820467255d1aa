-- Which location of a configuration is a path's.
use Rattle.std.specs.Prelude.{◌≡◌, ◌⊎◌, ◌<◌, ◌≤◌, ℕ, Bool, true, false, not, List, ◌∷◌, ◌++◌, length, ◌&&◌, nat_eq, Option, Some, None, bytes_eq}
use Rattle.std.specs.List.{AllByRecursion, starts_with}
use Rattle.nc_types.specs.declared.config.Location.{Location}

-- a location for one path alone, and it is this one
abbrev pub is_exactly : List ℕ → Location → Bool
is_exactly path l = l.exact && bytes_eq l.path path

-- a location for each path that begins so, and this one does
abbrev pub is_front : List ℕ → Location → Bool
is_front path l = not l.exact && starts_with nat_eq path l.path

-- no location passes a test
abbrev pub NoneOf : (Location → Bool) → List Location → Type 0
NoneOf test ls = AllByRecursion (λ l. test l ≡ false) ls

-- the first location that passes a test
pub record IsFirstPassing (test : Location → Bool) (ls : List Location) (l : Location) : Type 0 where
  pub earlier : List Location
  pub later : List Location
  pub place : ls ≡ earlier ++ l ∷ later
  pub passes : test l ≡ true
  pub none : NoneOf test earlier

-- of the locations whose path begins this one, the one with the longest path; of two with the same path, the first
pub record IsLongest (path : List ℕ) (ls : List Location) (l : Location) : Type 0 where
  pub earlier : List Location
  pub later : List Location
  pub place : ls ≡ earlier ++ l ∷ later
  pub begins : is_front path l ≡ true
  pub shorter : AllByRecursion (λ other. is_front path other ≡ true → length other.path < length l.path) earlier
  pub no_longer : AllByRecursion (λ other. is_front path other ≡ true → length other.path ≤ length l.path) later

-- the location of a path: one for it alone, else the one with the longest path that begins it; or there is none
abbrev pub IsLocationOf : List ℕ → List Location → Option Location → Type 0
IsLocationOf path ls (Some l) = IsFirstPassing (is_exactly path) ls l ⊎ (NoneOf (is_exactly path) ls × IsLongest path ls l)
IsLocationOf path ls None = NoneOf (is_exactly path) ls × NoneOf (is_front path) ls
