-- Pieces of bytes, the newest first, and the text that they are.
use Rattle.std.specs.Prelude.{◌≡◌, ◌≢◌, ℕ, ◌<◌, List, [], ◌∷◌, ◌++◌, length}

-- the text that pieces are, from the oldest to the newest
abbrev pub joined : List (List ℕ) → List ℕ
joined [] = []
joined (piece ∷ pieces) = joined pieces ++ piece

-- none of the pieces is empty
abbrev pub AreFull : List (List ℕ) → Type 0
AreFull [] = Unit {0}
AreFull (piece ∷ pieces) = (piece ≢ []) × AreFull pieces

-- the reads of a source between two moments gave this text, piece by piece
pub record Gives (bytes : List ℕ) (old new : List (List ℕ)) : Type 0 where
  pub pieces : List (List ℕ)
  pub full : AreFull pieces
  pub is_text : bytes ≡ joined pieces
  pub given : new ≡ pieces ++ old

-- and then they came to the end
pub record GivesAll (bytes : List ℕ) (old new : List (List ℕ)) : Type 0 where
  pub before : List (List ℕ)
  pub gives : Gives bytes old before
  pub at_end : new ≡ [] ∷ before

-- more than so many bytes came
pub record GivesMore (most : ℕ) (old new : List (List ℕ)) : Type 0 where
  pub bytes : List ℕ
  pub gives : Gives bytes old new
  pub more : most < length bytes
