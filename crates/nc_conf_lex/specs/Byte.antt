-- The bytes of a configuration, by what they may do.
use Rattle.std.specs.Prelude.{ℕ, Bool, true, not, List, [], ◌∷◌, ◌==◌, ◌&&◌, ◌||◌, nat_lt}

-- space, tab, CR and LF
abbrev pub is_blank : ℕ → Bool
is_blank b = (b == 32) || (b == 9) || (b == 13) || (b == 10)

-- a blank, `;`, `{` or `}`: it ends a plain word, and may stand behind a quoted one
abbrev pub ends_word : ℕ → Bool
ends_word b = is_blank b || (b == 59) || (b == 123) || (b == 125)

abbrev pub goes_on : ℕ → Bool
goes_on b = not (ends_word b)

-- a byte below 32 that is no blank, and 127: they stand in comments alone
abbrev pub is_refused : ℕ → Bool
is_refused b = (nat_lt b 32 && not (is_blank b)) || (b == 127)

abbrev pub is_allowed : ℕ → Bool
is_allowed b = not (is_refused b)

-- `"` and `'`
abbrev pub is_quote : ℕ → Bool
is_quote b = (b == 34) || (b == 39)

-- what may stand behind a word: nothing, or a byte that ends words
abbrev pub may_follow : List ℕ → Bool
may_follow [] = true
may_follow (b ∷ bs) = ends_word b
