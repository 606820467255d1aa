-- Tags that are changed stay tags.
use Rattle.std.proofs.Common.{ℕ, ℤ, zero, suc, Bool, true, false, List, [], ◌∷◌, replicate, negsuc, arith, length, refl, ◌≡◌, ap, set, cond, ◌∙◌}
use Rattle.std.proofs.lemmas.Int.{ints}
use Rattle.std.proofs.lemmas.List.{length-replicate, length-set}
use Rattle.nc_types.specs.Id.{IsTag}
use Rattle.nc_types.specs.Cursor.{AreTags, blank_tags}

all-blank : (n : ℕ) → AreTags (replicate n (negsuc 0))
all-blank zero = tt
all-blank (suc n) = ((grind (arith, ints), grind (arith, ints)), all-blank n)

kept-or-blank : (b : Bool) (tags : List ℤ) → AreTags tags → AreTags (cond b tags (blank_tags tags))
kept-or-blank true tags h = h
kept-or-blank false tags h = all-blank (length tags)

length-kept-or-blank : (b : Bool) (tags : List ℤ) → length (cond b tags (blank_tags tags)) ≡ length tags
length-kept-or-blank true tags = refl
length-kept-or-blank false tags = length-replicate (length tags) (negsuc 0)

set-are-tags : (tags : List ℤ) (i : ℕ) (g : ℤ) → AreTags tags → IsTag g → AreTags (set tags i g)
set-are-tags [] i g h k = tt
set-are-tags (x ∷ tags) zero g h k = (k, h.1)
set-are-tags (x ∷ tags) (suc i) g h k = (h.0, set-are-tags tags i g h.1 k)

-- tags that are kept or blank, with that of an id at a place
pub moved-are-tags : (b : Bool) (tags : List ℤ) (i : ℕ) (g : ℤ) (items : List ℤ) → items ≡ set (cond b tags (blank_tags tags)) i g → AreTags tags → IsTag g → AreTags items
moved-are-tags b tags i g items is h k = rw is (set-are-tags (cond b tags (blank_tags tags)) i g (kept-or-blank b tags h) k)

pub length-moved : (b : Bool) (tags : List ℤ) (i : ℕ) (g : ℤ) (items : List ℤ) → items ≡ set (cond b tags (blank_tags tags)) i g → length items ≡ length tags
length-moved b tags i g items is = ap length is ∙ length-set (cond b tags (blank_tags tags)) i g ∙ length-kept-or-blank b tags
