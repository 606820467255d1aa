-- Reading a list of channels, in which no name stands twice.
use Rattle.std.specs.Prelude.{ℕ, zero, suc, Bool, List, [], ◌∷◌, ◌++◌, length, ◌==◌, if◌then◌else◌, bytes_eq}
use Rattle.std.specs.List.{list_any}
use Rattle.nc_grammar.specs.Reading.{Read, Found, Stuck, go_on, with_first}
use Rattle.nc_grammar.specs.Quoted.{quoted_at}
use Rattle.nc_grammar.specs.Maybe.{add_first}

-- a name stands among some
abbrev pub is_among : List ℕ → List (List ℕ) → Bool
is_among name names = list_any (bytes_eq name) names

-- a name that stands among those before is stuck in front of its closing sign, since with more bytes it would be another
abbrev pub if_new : List (List ℕ) → Read (List ℕ) → Read (List ℕ)
if_new names (Found name r) = if is_among name names then Stuck (34 ∷ r) else Found name r
if_new names (Stuck r) = Stuck r

-- reads a name that is none of those before
abbrev pub new_name_at : List (List ℕ) → List ℕ → Read (List ℕ)
new_name_at names t = if_new names (quoted_at t)

-- names each behind a comma, at most n of them, none of which stands before
abbrev pub more_names_at : ℕ → List (List ℕ) → List ℕ → Read (List (List ℕ))
more_names_at zero names t = Found [] t
more_names_at (suc n) names [] = Found [] []
more_names_at (suc n) names (c ∷ r) = if c == 44 then add_first (go_on (new_name_at names r)
    (λ name rest. with_first name (more_names_at n (names ++ name ∷ []) rest))) else Found [] (c ∷ r)

-- reads a list of channels
abbrev pub list_at : List ℕ → Read (List (List ℕ))
list_at t = add_first (go_on (quoted_at t) (λ name rest. with_first name (more_names_at (length rest) (name ∷ []) rest)))
