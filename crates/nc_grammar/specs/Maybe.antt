-- A value or `-`, values joined by commas, two values with a text between them, and a choice by the first byte.
use Rattle.std.specs.Prelude.{ℕ, zero, suc, Bool, drop, List, [], ◌∷◌, length, Option, Some, None, ◌==◌, if◌then◌else◌}
use Rattle.nc_grammar.specs.Reading.{Read, Found, go_on, map_read, with_first, first_passes}
use Rattle.nc_grammar.specs.Label.{field_at}

-- a text begins with a byte
abbrev pub begins_with : ℕ → List ℕ → Bool
begins_with b t = first_passes (λ c. c == b) t

-- reads `-` or a value
abbrev pub option_at : {A : Type 0} → (List ℕ → Read A) → List ℕ → Read (Option A)
option_at read t = if begins_with 45 t then Found None (drop 1 t) else map_read Some (read t)

-- a value and more as one list
abbrev pub add_first : {A : Type 0} → Read (A × List A) → Read (List A)
add_first x = map_read (λ p. p.0 ∷ p.1) x

-- reads values each behind a comma, at most n of them
abbrev pub more_at : {A : Type 0} → ℕ → (List ℕ → Read A) → List ℕ → Read (List A)
more_at zero read t = Found [] t
more_at (suc n) read [] = Found [] []
more_at (suc n) read (c ∷ r) = if c == 44 then add_first (go_on (read r) (λ a rest. with_first a (more_at n read rest))) else Found [] (c ∷ r)

-- reads one value or more, joined by commas
abbrev pub joined_at : {A : Type 0} → (List ℕ → Read A) → List ℕ → Read (List A)
joined_at read t = add_first (go_on (read t) (λ a rest. with_first a (more_at (length rest) read rest)))

-- reads two values with a text between them
abbrev pub two_at : {A B : Type 0} → List ℕ → (List ℕ → Read A) → (List ℕ → Read B) → List ℕ → Read (A × B)
two_at label f g t = go_on (f t) (λ a rest. with_first a (field_at label g rest))

-- the first reader where the text begins with a byte that passes a test, else the second
abbrev pub if_first_by : {A : Type 0} → (ℕ → Bool) → (List ℕ → Read A) → (List ℕ → Read A) → List ℕ → Read A
if_first_by test f g t = if first_passes test t then f t else g t

-- the first reader where the text begins with a byte, else the second
abbrev pub if_first : {A : Type 0} → ℕ → (List ℕ → Read A) → (List ℕ → Read A) → List ℕ → Read A
if_first b f g t = if_first_by (λ c. c == b) f g t

-- ---- which values have a text

-- no value, or one that fits
abbrev pub OrNone : {A : Type 0} → (A → Type 0) → Option A → Type 0
OrNone F None = Unit {0}
OrNone F (Some a) = F a
