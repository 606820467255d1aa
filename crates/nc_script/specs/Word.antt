-- The words of a line, with their places.
use Rattle.std.specs.Prelude.{◌≡◌, ℕ, ◌+◌, Bool, List, [], ◌∷◌, Option, Some, None, filter, length, ◌==◌, nat_lt}
use Rattle.std.specs.Borrow.{Bor}
use Rattle.std.specs.List.{slice_split}

-- bytes that stand together in a line, and the place of the first
pub record Word : Type 0 where
  pub at : ℕ
  pub bytes : List ℕ

-- pieces with their places, where one byte stands between each two and the first begins at a place
abbrev pub placed : ℕ → List (List ℕ) → List Word
placed at [] = []
placed at (piece ∷ pieces) = record { at = at; bytes = piece } ∷ placed (at + length piece + 1) pieces

-- what stands between such bytes, in a text that begins at a place
abbrev pub pieces_from : ℕ → ℕ → List ℕ → List Word
pieces_from sign at text = placed at (slice_split (λ b. b == sign) text)

-- the pieces that are left where the text is, or none
abbrev pub pieces_left : ℕ → ℕ → Option (Bor (List ℕ)) → List Word
pieces_left sign at None = []
pieces_left sign at (Some rest) = pieces_from sign at rest.now

-- the first of these words was taken, if there is one, and the others are left
abbrev pub Takes : List Word → Option Word → List Word → Type 0
Takes words None left = words ≡ []
Takes words (Some word) left = words ≡ word ∷ left

abbrev pub is_some : Word → Bool
is_some word = nat_lt 0 (length word.bytes)

-- the words of a text that begins at a place: what stands between spaces, but for what is empty
abbrev pub words_from : ℕ → List ℕ → List Word
words_from at text = filter is_some (pieces_from 32 at text)
