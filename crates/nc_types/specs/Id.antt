-- Ids of messages and their order.
use Rattle.std.specs.Prelude.{◌≡◌, ◌⊎◌, ℕ, ℤ, ◌<◌, ◌≤◌, ◌<ℤ◌, ◌≤ℤ◌, pos, negsuc, Bool, not, nat_le, nat_lt, int_lt, ◌&&◌, ◌||◌, ◌==◌}
use Rattle.std.specs.Ordering.{int_eq}

-- a time in seconds, and a tag within that second
pub record Id : Type 0 where
  pub time : ℕ
  pub tag : ℤ

-- the last second of the year 9999
abbrev pub last_second : ℕ
last_second = 253402300799

-- the latest second that a clock reads
abbrev pub latest_clock : ℕ
latest_clock = 4102444800

abbrev pub IsTime : ℕ → Type 0
IsTime t = t ≤ last_second

-- a second at which something ends has come, where the clock reads `now`; 0 is never
abbrev pub has_come : ℕ → ℕ → Bool
has_come second now = not (second == 0) && nat_le second now

-- a number of 16 bits at most
abbrev pub last_tag : ℕ
last_tag = 65535

-- -1, which stands for no message of that second, or a number of 16 bits
abbrev pub IsTag : ℤ → Type 0
IsTag g = (negsuc 0 ≤ℤ g) × (g ≤ℤ pos last_tag)

-- an id is past another: by time, then by tag
abbrev pub IsPast : Id → Id → Type 0
IsPast a b = (b.time < a.time) ⊎ ((a.time ≡ b.time) × (b.tag <ℤ a.tag))

-- the same as a test
abbrev pub is_past : Id → Id → Bool
is_past a b = nat_lt b.time a.time || ((a.time == b.time) && int_lt b.tag a.tag)

abbrev pub id_eq : Id → Id → Bool
id_eq a b = (a.time == b.time) && int_eq a.tag b.tag

-- before every message
abbrev pub no_id : Id
no_id = record { time = 0; tag = negsuc 0 }
