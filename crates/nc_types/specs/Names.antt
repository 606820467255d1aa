-- Sets of names.
use Rattle.std.specs.Prelude.{◌≡◌, ℕ, List, bytes_eq}
use Rattle.std.specs.List.{list_any}
use Rattle.std.specs.Ordering.{nat_cmp}
use Rattle.std.specs.Cmp.Lexicographic.{slice_cmp}
use Rattle.std.specs.BTreeSet.{BTreeSet, contains_by}
use Rattle.std.specs.Global.{Vec}

-- the set has the names of a list, and no other
abbrev pub IsSetOf : List (List ℕ) → BTreeSet (Vec ℕ) → Type 0
IsSetOf names set = (name : List ℕ) → contains_by (λ key. slice_cmp nat_cmp name key.items) set ≡ list_any (bytes_eq name) names
