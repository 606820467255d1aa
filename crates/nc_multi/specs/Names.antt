-- Lists of names without repeats, and when names make none.
use Rattle.std.specs.Prelude.{◌≡◌, ◌⊎◌, ℕ, ◌<◌, ◌≤◌, not, List, [], ◌∷◌, length, ◌++◌, filter, slice_get, Some, if◌then◌else◌, bytes_eq}
use Rattle.std.specs.List.{list_any}
use Rattle.nc_multi.specs.declared.list.ListRefusal.{ListRefusal}
use Rattle.nc_multi.specs.declared.list.ListRefusal.TheVariants as refusals

-- each name at its first place
abbrev pub distinct : List (List ℕ) → List (List ℕ)
distinct [] = []
distinct (name ∷ names) = name ∷ filter (λ other. not (bytes_eq name other)) (distinct names)

-- a name has no bytes
abbrev pub IsEmpty : List ℕ → Type 0
IsEmpty name = length name ≡ 0

-- a name has more bytes than it may
abbrev pub IsLonger : ℕ → List ℕ → Type 0
IsLonger longest name = longest < length name

-- no name has a property
abbrev pub NoneIs : (List ℕ → Type 0) → List (List ℕ) → Type 0
NoneIs P names = (place : ℕ) (name : List ℕ) → slice_get names place ≡ Some name → P name → ⊥

-- the first name that has a property, and its place
pub record IsFirstNameWith (P : List ℕ → Type 0) (names : List (List ℕ)) (place : ℕ) (name : List ℕ) : Type 0 where
  pub stands : slice_get names place ≡ Some name
  pub has : P name
  pub none_before : (k : ℕ) (other : List ℕ) → k < place → slice_get names k ≡ Some other → P other → ⊥

-- names, of at most so many bytes each and at most so many in all, make this list
pub record IsListOf (names : List (List ℕ)) (longest most : ℕ) (list : List (List ℕ)) : Type 0 where
  pub some : 0 < length names
  pub none_empty : NoneIs IsEmpty names
  pub none_longer : NoneIs (IsLonger longest) names
  pub none_left : length (distinct names) ≤ most
  pub is : list ≡ distinct names

-- no name, or an empty one
abbrev pub IsEmptyAt : List (List ℕ) → ℕ → Type 0
IsEmptyAt names place = ((names ≡ []) × (place ≡ 0)) ⊎ ((name : List ℕ) × IsFirstNameWith IsEmpty names place name)

-- no empty name, and one that is too long
pub record IsTooLong (names : List (List ℕ)) (longest place size : ℕ) : Type 0 where
  pub none_empty : NoneIs IsEmpty names
  pub name : List ℕ
  pub first : IsFirstNameWith (IsLonger longest) names place name
  pub size_is : size ≡ length name

-- one name or more, which each could stand in a list
pub record CouldStand (names : List (List ℕ)) (longest : ℕ) : Type 0 where
  pub some : 0 < length names
  pub none_empty : NoneIs IsEmpty names
  pub none_longer : NoneIs (IsLonger longest) names

-- names that each could stand in a list, and too many of them
pub record AreTooMany (names : List (List ℕ)) (longest most n : ℕ) : Type 0 where
  pub some : 0 < length names
  pub none_empty : NoneIs IsEmpty names
  pub none_longer : NoneIs (IsLonger longest) names
  pub count : n ≡ length (distinct names)
  pub more : most < n

-- what a refusal says of names: memory can want only where each could stand in a list
abbrev pub IsRefused : List (List ℕ) → ℕ → ℕ → ListRefusal → Type 0
IsRefused names longest most (refusals.Empty place) = IsEmptyAt names place
IsRefused names longest most (refusals.TooLong place size) = IsTooLong names longest place size
IsRefused names longest most (refusals.TooMany n) = AreTooMany names longest most n
IsRefused names longest most refusals.NoMemory = CouldStand names longest

-- names and one more behind them, unless it is among them
abbrev pub with_name : List (List ℕ) → List ℕ → List (List ℕ)
with_name names name = if list_any (bytes_eq name) names then names else names ++ name ∷ []
