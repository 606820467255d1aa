-- What a step leaves as it was of the slots and holds of other owners.
use Rattle.std.specs.Prelude.{◌≡◌, ℕ, List, [], if◌then◌else◌, ◌==◌}

-- what the owners have, but for one of them
abbrev pub except : {X : Type 0} → ℕ → (ℕ → List X) → ℕ → List X
except me all o = if o == me then [] else all o

-- all but one owner have what they had
abbrev pub SameOthers : {X : Type 0} → ℕ → (ℕ → List X) → (ℕ → List X) → Type 0
SameOthers me old new = except me new ≡ except me old
