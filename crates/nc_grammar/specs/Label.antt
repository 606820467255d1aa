-- Fixed texts, and one of some words.
use Rattle.std.specs.Prelude.{◌≡◌, ◌⊎◌, ℕ, ◌+◌, Bool, true, false, List, [], ◌∷◌, length, drop, max, Option, Some, None, ◌&&◌, ◌||◌, ◌==◌, if◌then◌else◌}
use Rattle.nc_grammar.specs.Reading.{Read, Found, Stuck, go_on}

-- a label is just its own text
abbrev pub IsLabel : List ℕ → Unit {0} → List ℕ → Type 0
IsLabel label x u = u ≡ label

-- no byte goes on
abbrev pub nothing : ℕ → Bool
nothing c = false

-- reads a fixed text
abbrev pub label_at : List ℕ → List ℕ → Read (Unit {0})
label_at [] t = Found tt t
label_at (l ∷ ls) [] = Stuck []
label_at (l ∷ ls) (c ∷ r) = if l == c then label_at ls r else Stuck (c ∷ r)

-- a value behind a fixed text
abbrev pub field_at : {A : Type 0} → List ℕ → (List ℕ → Read A) → List ℕ → Read A
field_at label read t = go_on (label_at label t) (λ x r. read r)

-- how many first bytes two texts share
abbrev pub shared : List ℕ → List ℕ → ℕ
shared [] t = 0
shared (w ∷ ws) [] = 0
shared (w ∷ ws) (c ∷ r) = if w == c then shared ws r + 1 else 0

-- the most that a word shares with a text
abbrev pub reach : List (List ℕ) → List ℕ → ℕ
reach [] t = 0
reach (w ∷ ws) t = max (shared w t) (reach ws t)

-- a word is just the first n bytes of a text
abbrev pub is_front : ℕ → List ℕ → List ℕ → Bool
is_front n t w = (length w == n) && (shared w t == n)

-- the place of the first word that is just the first n bytes, where the words begin at place k
abbrev pub place_from : ℕ → ℕ → List ℕ → List (List ℕ) → Option ℕ
place_from k n t [] = None
place_from k n t (w ∷ ws) = if is_front n t w then Some k else place_from (k + 1) n t ws

-- the word at a place, if there is one
abbrev pub word_found : Option ℕ → List ℕ → Read ℕ
word_found (Some i) r = Found i r
word_found None r = Stuck r

-- the place of the word at the front of a text
abbrev pub word_at : List (List ℕ) → List ℕ → Read ℕ
word_at words t = word_found (place_from 0 (reach words t) t words) (drop (reach words t) t)

-- a text is the word at a place, where the words begin at place k
abbrev pub IsWordFrom : ℕ → List (List ℕ) → ℕ → List ℕ → Type 0
IsWordFrom k [] i u = ⊥
IsWordFrom k (w ∷ ws) i u = ((i ≡ k) × (u ≡ w)) ⊎ IsWordFrom (k + 1) ws i u

-- a text is the word at a place
abbrev pub IsWord : List (List ℕ) → ℕ → List ℕ → Type 0
IsWord words i u = IsWordFrom 0 words i u

-- ---- tests of the words, that compute

-- two texts are the same
abbrev pub is_text : List ℕ → List ℕ → Bool
is_text [] [] = true
is_text [] (d ∷ v) = false
is_text (a ∷ w) [] = false
is_text (a ∷ w) (d ∷ v) = (a == d) && is_text w v

-- a word stands in a list
abbrev pub stands : List ℕ → List (List ℕ) → Bool
stands w [] = false
stands w (v ∷ ws) = is_text w v || stands w ws

-- some word stands twice
abbrev pub repeats : List (List ℕ) → Bool
repeats [] = false
repeats (w ∷ ws) = stands w ws || repeats ws

-- a word goes on as another does, with a byte
abbrev pub goes_past : List ℕ → List ℕ → ℕ → Bool
goes_past [] [] c = false
goes_past [] (d ∷ v) c = d == c
goes_past (a ∷ w) [] c = false
goes_past (a ∷ w) (d ∷ v) c = (a == d) && goes_past w v c

-- some word of a list goes on so
abbrev pub some_past : List ℕ → List (List ℕ) → ℕ → Bool
some_past w [] c = false
some_past w (v ∷ ws) c = goes_past w v c || some_past w ws c

-- some word goes on as one of all does
abbrev pub word_past : List (List ℕ) → List (List ℕ) → ℕ → Bool
word_past [] all c = false
word_past (w ∷ ws) all c = some_past w all c || word_past ws all c

-- the bytes that can go on behind a whole word
abbrev pub word_stays : List (List ℕ) → ℕ → Bool
word_stays ws c = word_past ws ws c
