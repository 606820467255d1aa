-- The values and items of the fields of a request's head.
use Rattle.std.specs.Prelude.{ℕ, ◌-◌, Bool, List, [], ◌∷◌, length, take, drop, ◌==◌, ◌||◌, Option, Some, None, map, bytes_eq}
use Rattle.std.specs.List.{filter, list_any, flat_map, prefix_len, suffix_len, slice_split}
use Rattle.std.specs.Char.{to_ascii_lowercase}
use Rattle.nc_types.specs.declared.request.Field.{Field}

-- the same without regard to the case of ASCII letters
abbrev pub is_same_word : List ℕ → List ℕ → Bool
is_same_word left right = bytes_eq (map to_ascii_lowercase left) (map to_ascii_lowercase right)

-- a space or a tab
abbrev pub is_blank : ℕ → Bool
is_blank b = (b == 32) || (b == 9)

-- a text without the blanks behind its last other byte
abbrev pub freed_behind : List ℕ → List ℕ
freed_behind text = take (length text - suffix_len is_blank text) text

-- a text without the blanks on both sides
abbrev pub freed : List ℕ → List ℕ
freed text = freed_behind (drop (prefix_len is_blank text) text)

abbrev pub is_comma : ℕ → Bool
is_comma b = b == 44

-- the items of the value of a list field: what stands between its commas, freed of blanks
abbrev pub items_of : List ℕ → List (List ℕ)
items_of value = map freed (slice_split is_comma value)

-- a field has this name
abbrev pub is_called : List ℕ → Field → Bool
is_called name field = is_same_word field.name name

abbrev pub value_of : Field → List ℕ
value_of field = field.value

-- the values of the fields of a name, in their order
abbrev pub values : List ℕ → List Field → List (List ℕ)
values name fields = map value_of (filter (is_called name) fields)

-- the items of the list fields of a name, in their order
abbrev pub items : List ℕ → List Field → List (List ℕ)
items name fields = flat_map items_of (values name fields)

-- a text is one of these
abbrev pub is_among : List ℕ → List (List ℕ) → Bool
is_among text texts = list_any (bytes_eq text) texts

-- a word is one of these, without regard to case
abbrev pub is_word_among : List ℕ → List (List ℕ) → Bool
is_word_among word texts = list_any (is_same_word word) texts

-- the text of a list that has one alone
abbrev pub only : List (List ℕ) → Option (List ℕ)
only [] = None
only (text ∷ []) = Some text
only (text ∷ other ∷ texts) = None

-- the first text of a list that has one
abbrev pub first : List (List ℕ) → Option (List ℕ)
first [] = None
first (text ∷ texts) = Some text
