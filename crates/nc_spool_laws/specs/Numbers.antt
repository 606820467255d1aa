-- The numbers of looks and edges that are awaited.
use Rattle.std.specs.Prelude.{◌≡◌, ℕ, ◌+◌, ◌≤◌, Bool, true, false, List, [], ◌∷◌}
use Rattle.nc_spool_state.specs.declared.place.Place.{Place}
use Rattle.nc_spool_state.specs.declared.edge.Edge.{Edge}
use Rattle.nc_spool.specs.declared.board.Board.{Board}
use Rattle.nc_spool_state.specs.Place.{awaits_number}
use Rattle.nc_spool_state.specs.Spool.{SpoolAt}
use Rattle.nc_spool_state.specs.Edge.{is_edge}
use Rattle.nc_spool_state.specs.Starting.{StartingAt}
use Rattle.nc_spool_laws.specs.Closed.{IsKept}
use Rattle.nc_spool_laws.specs.Attended.{AnyLast, AnyKey, AnyNews, AnyAnswer, AnyFind}

-- 1 where something is so, and else 0
abbrev pub one : Bool → ℕ
one true = 1
one false = 0

-- the sum over a list
abbrev pub total : {X : Type 0} → (X → ℕ) → List X → ℕ
total f [] = 0
total f (x ∷ xs) = f x + total f xs

-- how many places await the look of a number
abbrev pub look_at : ℕ → Place → ℕ
look_at n p = one (awaits_number n p)

-- how many edges have a number
abbrev pub edge_at : ℕ → Edge → ℕ
edge_at n e = one (is_edge n e)

-- how many of a spool's places await it
abbrev pub looks_of : ℕ → SpoolAt → ℕ
looks_of n s = total (look_at n) s.places

-- how many of a start's edges have it
abbrev pub edges_of : ℕ → StartingAt → ℕ
edges_of n s = total (edge_at n) s.edges

-- how often a number is awaited
abbrev pub awaited : ℕ → Board → ℕ
awaited n b = total (looks_of n) b.shelf + total (edges_of n) b.starts

-- so often a number is awaited, beside another count: at most once, and never from the next number on
pub record IsOnce (next : ℕ) (count : ℕ → ℕ) : Type 0 where
  pub once : (n : ℕ) → count n ≤ 1
  pub below : (n : ℕ) → next ≤ n → count n ≡ 0

-- the numbers that a board awaits are apart
abbrev pub AreApart : Board → Type 0
AreApart b = IsOnce b.next (λ n. awaited n b)

-- so are they beside a spool that was taken from it
abbrev pub SpoolApart : SpoolAt → Board → Type 0
SpoolApart s b = IsOnce b.next (λ n. looks_of n s + awaited n b)

-- and beside a start that was taken from it
abbrev pub StartApart : StartingAt → Board → Type 0
StartApart s b = IsOnce b.next (λ n. edges_of n s + awaited n b)

-- each call keeps the numbers apart
abbrev pub KeepsApart : Type 0
KeepsApart = IsKept AnyNews AnyAnswer AnyLast AnyKey AnyFind AreApart SpoolApart StartApart
