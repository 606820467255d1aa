-- Numbers in decimal, without leading zeros.
use Rattle.std.specs.Prelude.{◌≡◌, ℕ, ◌+◌, ◌*◌, ◌-◌, ◌≤◌, Bool, List, [], ◌∷◌, nat_le, nat_lt, ◌&&◌, if◌then◌else◌}
use Rattle.std.specs.Fmt.{decimal}
use Rattle.nc_grammar.specs.Reading.{Read, Found, Stuck}

-- a byte is a decimal digit
abbrev pub is_digit : ℕ → Bool
is_digit c = nat_le 48 c && nat_le c 57

-- the text of a number up to a limit
pub record IsNumber (limit n : ℕ) (u : List ℕ) : Type 0 where
  pub within : n ≤ limit
  pub text : u ≡ decimal n

-- a byte is a digit that goes on with the number v: v is not 0, and the whole keeps the limit
abbrev pub goes_on : ℕ → ℕ → ℕ → Bool
goes_on limit v c = is_digit c && (nat_lt 0 v && nat_le (v * 10 + (c - 48)) limit)

-- reads on behind the digits of the number v
abbrev pub more_digits_at : ℕ → ℕ → List ℕ → Read ℕ
more_digits_at limit v [] = Found v []
more_digits_at limit v (c ∷ r) = if goes_on limit v c then more_digits_at limit (v * 10 + (c - 48)) r else Found v (c ∷ r)

-- reads a number up to a limit
abbrev pub number_at : ℕ → List ℕ → Read ℕ
number_at limit [] = Stuck []
number_at limit (c ∷ r) = if is_digit c && nat_le (c - 48) limit then more_digits_at limit (c - 48) r else Stuck (c ∷ r)
