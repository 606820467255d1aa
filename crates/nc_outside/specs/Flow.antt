-- What a read moves.
use Rattle.std.specs.Prelude.{◌≡◌, ℕ, ◌<◌, ◌≤◌, List, [], length, take, drop, Option, Some, None}

-- the first n of the bytes left stand at the front of the room, and are left no more; none into a room that isn't empty is the end
pub record MovesTo (bytes : List ℕ) (new : Option (List ℕ)) (room : List ℕ) (n : ℕ) : Type 0 where
  pub left : new ≡ Some (drop n bytes)
  pub front : take n room ≡ take n bytes
  pub within : n ≤ length bytes
  pub at_end : n ≡ 0 → 0 < length room → bytes ≡ []

-- the same of a source that tells the bytes left; one that doesn't goes on so
abbrev pub MovesFront : Option (List ℕ) → Option (List ℕ) → List ℕ → ℕ → Type 0
MovesFront None new room n = new ≡ None
MovesFront (Some bytes) new room n = MovesTo bytes new room n
