-- A tree of marks in one list: the root stands at 1, the two below the one at k at 2 * k and 2 * k + 1,
-- and the leaves from the tree's width on.
use Rattle.std.specs.Prelude.{◌≡◌, ◌⊎◌, ℕ, ◌+◌, ◌*◌, ◌^◌, ◌<◌, ◌≤◌, List, length}
use Rattle.nc_buffer.specs.declared.mark.Mark.{Mark}
use Rattle.nc_buffer.specs.Marks.{mark_at, both}

-- each mark above the leaves is that of both below it
abbrev pub IsSummed : (ℕ → Mark) → ℕ → Type 0
IsSummed f width = (k : ℕ) → 0 < k → k < width → f k ≡ both (f (2 * k)) (f (2 * k + 1))

-- a tree of marks: its leaves are as many as a power of two, or none
pub record IsTree (marks : List Mark) (width height : ℕ) : Type 0 where
  pub size : length marks ≡ 2 * width
  pub full : (width ≡ 0) ⊎ (width ≡ 2 ^ height)
  pub summed : IsSummed (mark_at marks) width
  pub few : (k : ℕ) → k * (mark_at marks k).kept ≤ 2 * width
