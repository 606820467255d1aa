-- When a text is refused.
use Rattle.std.specs.Prelude.{◌≡◌, ◌≢◌, ℕ, ℤ, List, length}
use Rattle.nc_grammar.specs.declared.fault.Unread.{Unread}
use Rattle.nc_grammar.specs.declared.fault.Unread.TheVariants as unread
use Rattle.nc_grammar.specs.Whole.{IsBad}
use Rattle.nc_ident.specs.declared.refusal.IdRefusal.{IdRefusal}
use Rattle.nc_ident.specs.declared.refusal.IdRefusal.TheVariants.{Malformed, TagCount, NoMemory}
use Rattle.nc_ident.specs.Spelling.{IsIdOf, AreTagsOf}

-- where n tags are wanted: the text is no value's, and its longest prefix that begins one ends at the place; or it is one's with another number of tags
abbrev pub IsRefused : {A : Type 0} → (A → List ℕ → Type 0) → (A → List ℤ) → List ℕ → ℕ → IdRefusal → Type 0
IsRefused L tags text n (Malformed at) = IsBad L text at
IsRefused {A} L tags text n (TagCount found) = (a : A) × L a text × (length (tags a) ≡ found) × (found ≢ n)
IsRefused L tags text n NoMemory = Unit {0}

-- a text is refused as an id
abbrev pub IsRefusedId : List ℕ → ℕ → IdRefusal → Type 0
IsRefusedId text n refusal = IsRefused IsIdOf (λ cursor. cursor.tags) text n refusal

-- a text is refused as tags
abbrev pub AreRefusedTags : List ℕ → ℕ → IdRefusal → Type 0
AreRefusedTags text n refusal = IsRefused AreTagsOf (λ tags. tags) text n refusal

-- the refusal of a whole text that isn't read
abbrev pub refusal_of : Unread → IdRefusal
refusal_of (unread.Bad place) = Malformed place
refusal_of unread.NoMemory = NoMemory
