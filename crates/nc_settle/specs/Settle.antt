-- Settling: at most so many moves, turn by turn in rounds that go on for ever, until the machine is idle.
use Rattle.std.specs.Prelude.{ℕ, zero, suc, Bool, List, [], if◌then◌else◌, Option, None, Some}
use Rattle.nc_settle.specs.Turns.{first_turn}

module _ {W : Type 0} (can : W → ℕ → Bool) (moved : ℕ → W → W) (idle : W → Bool) where
  -- the world once a turn was made, if there is one that has something to do, and what follows it
  abbrev pub turned : Option (ℕ × List ℕ) → W → (List ℕ → W → W) → W
  turned None w go = w
  turned (Some turn) w go = go turn.1 (moved turn.0 w)

  -- the world after at most so many moves, whoever makes them
  abbrev pub settled : ℕ → List ℕ → W → W
  settled zero turns w = w
  settled (suc n) turns w = if idle w then w else turned (first_turn (can w) [] turns) w (λ rest x. settled n rest x)

-- one move more
abbrev pub one_more : Option ℕ → Option ℕ
one_more None = None
one_more (Some m) = Some (suc m)

module _ {W : Type 0} (can worn : W → ℕ → Bool) (moved : ℕ → W → W) (idle : W → Bool) where
  -- the moves before a turn that meets somebody worn: none where the first turn does
  abbrev pub turned_worn : Option (ℕ × List ℕ) → W → (List ℕ → W → Option ℕ) → Option ℕ
  turned_worn None w go = None
  turned_worn (Some turn) w go = if worn w turn.0 then Some 0 else one_more (go turn.1 (moved turn.0 w))

  -- how many of at most so many moves come before the first that meets somebody worn, if one does
  abbrev pub before_worn : ℕ → List ℕ → W → Option ℕ
  before_worn zero turns w = None
  before_worn (suc n) turns w = if idle w then None else turned_worn (first_turn (can w) [] turns) w (λ rest x. before_worn n rest x)
