-- The rule over the words of slots and over what all seats know, the slots of each owner and the live holds.
use Rattle.std.specs.Prelude.{◌≡◌, ℕ, ◌+◌, ◌*◌, ◌<◌, ◌≤◌, ◌==◌, if◌then◌else◌, List, [], ◌∷◌, length, slice_index, Option, Some, None}
use Rattle.nc_slots.specs.Slot.{most_holds}
use Rattle.nc_slot_rule.specs.Views.{Bare, bit_of}
use Rattle.nc_slot_rule.specs.declared.view.Seen.{Seen}

-- the sum of f over a list
abbrev pub total : {A : Type 0} → (A → ℕ) → List A → ℕ
total f [] = 0
total f (x ∷ xs) = f x + total f xs

-- f of the slot of a word, in a row whose first slot is that of word first, and 0 where it isn't there
abbrev pub value_at : (Bare → ℕ) → ℕ → ℕ → List Bare → ℕ
value_at f first word [] = 0
value_at f first word (slot ∷ slots) = if first == word then f slot else value_at f (first + 1) word slots

-- 1 of each slot
abbrev pub one : Bare → ℕ
one slot = 1

-- 1 where it is this word
abbrev pub is_of : ℕ → Option ℕ → ℕ
is_of word None = 0
is_of word (Some k) = if k == word then 1 else 0

-- what a seat has of a word: the slot, its bit, how many holds the slot can have, and live holds, with a grant that isn't split off yet
abbrev pub own : ℕ → Seen → ℕ
own word v = value_at one v.first word v.row

abbrev pub bit : ℕ → Seen → ℕ
bit word v = value_at bit_of v.first word v.row

abbrev pub most : ℕ → Seen → ℕ
most word v = value_at most_holds v.first word v.row

abbrev pub held : ℕ → Seen → ℕ
held word v = is_of word v.granting + is_of word v.hold

-- the live holds of a word
abbrev pub live : ℕ → List Seen → ℕ
live word views = total (held word) views

-- the rule of one word
pub record IsKept (words : List ℕ) (views : List Seen) (word : ℕ) : Type 0 where
  -- the word is 1 where its slot is buffered, and 2 for each live hold
  pub counts : slice_index words word ≡ total (bit word) views + 2 * live word views
  -- no more live holds than the slot can have: none where it is unused or known to be clear, else as many as its grants
  pub few : live word views ≤ total (most word) views
  pub bound : total (most word) views ≤ 4294967295
  -- one owner at most, and only of a word that is there
  pub one_owner : total (own word) views ≤ 1
  pub there : 0 < total (own word) views → word < length words

-- the rule
abbrev pub Kept : List ℕ → List Seen → Type 0
Kept words views = (word : ℕ) → IsKept words views word
