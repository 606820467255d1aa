-- Values of digits, and bounds.
use Rattle.std.proofs.Common.{◌≡◌, ℕ, ◌+◌, ◌*◌, ◌-◌, ◌<◌, List, [], ◌∷◌, None, sym, ◌∙◌, ap, subst, drop, length, get_or, arith}
use Rattle.std.specs.Prelude.{fold}
use Rattle.std.proofs.lemmas.Bool.Decides.{nat_tests}
use Rattle.std.proofs.lemmas.List.{drop_more}
use Rattle.nc_conf.specs.Value.{digits_value, if_within}

-- the value of digits behind digits of a value
abbrev pub onto : ℕ → List ℕ → ℕ
onto v digits = fold (λ v d. v * 10 + (d - 48)) v digits

pub grows : (high v : ℕ) (digits : List ℕ) → high < v → high < onto v digits
grows high v [] h = h
grows high v (d ∷ ds) h = grows high (v * 10 + (d - 48)) ds (omega (arith, h))

above : (low high n : ℕ) → high < n → if_within low high n ≡ None
above low high n h = grind (arith, nat_tests)

pub none_above : (low high n : ℕ) → high < n → None ≡ if_within low high n
none_above low high n h = sym (above low high n h)

pub too_large : (low high value i : ℕ) (digits : List ℕ) → i < length digits → onto 0 digits ≡ onto value (drop i digits) → high < value * 10 + (get_or digits i 0 - 48) → None ≡ if_within low high (digits_value digits)
too_large low high value i digits lt left over =
    none_above low high (onto 0 digits) (subst (λ (n : ℕ). high < n) (sym (left ∙ ap (onto value) (drop_more digits i 0 lt))) (grows high (value * 10 + (get_or digits i 0 - 48)) (drop (i + 1) digits) over))
