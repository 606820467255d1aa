-- Numbers in decimal digits, of which the first may be zeros.
use Rattle.std.specs.Prelude.{◌≡◌, ℕ, ◌+◌, ◌*◌, ◌-◌, ◌≤◌, Bool, List, [], ◌∷◌, length, nat_le, nat_lt, ◌&&◌, if◌then◌else◌}
use Rattle.std.specs.Str.Parse.{IsNumeral, digits_value}
use Rattle.nc_grammar.specs.Reading.{Read, Found, Stuck}
use Rattle.nc_grammar.specs.Number.{is_digit}

-- a text of 1 to `most` digits that write a number up to a limit
pub record IsDigits (most limit n : ℕ) (u : List ℕ) : Type 0 where
  pub numeral : IsNumeral 10 u
  pub few : length u ≤ most
  pub value : digits_value 10 u ≡ n
  pub within : n ≤ limit

-- a byte is a digit that goes on with k digits of the value v: it is one of the first `most`, and the value keeps the limit
abbrev pub digit_fits : ℕ → ℕ → ℕ → ℕ → ℕ → Bool
digit_fits most limit k v c = is_digit c && (nat_lt k most && nat_le (v * 10 + (c - 48)) limit)

-- reads on behind k digits of the value v
abbrev pub digits_from : ℕ → ℕ → ℕ → ℕ → List ℕ → Read ℕ
digits_from most limit k v [] = Found v []
digits_from most limit k v (c ∷ r) = if digit_fits most limit k v c then digits_from most limit (k + 1) (v * 10 + (c - 48)) r else Found v (c ∷ r)

-- reads 1 to `most` digits of a value up to a limit
abbrev pub digits_at : ℕ → ℕ → List ℕ → Read ℕ
digits_at most limit [] = Stuck []
digits_at most limit (c ∷ r) = if digit_fits most limit 0 0 c then digits_from most limit 1 (c - 48) r else Stuck (c ∷ r)
