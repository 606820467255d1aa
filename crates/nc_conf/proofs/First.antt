-- The first of a list of faults.
use Rattle.std.proofs.Common.{◌≡◌, Bool, true, false, List, [], ◌∷◌, ◌++◌, Option, Some, None, refl, sym, ◌∙◌, subst, ap, inl, inr, arith}
use Rattle.std.specs.Prelude.{if◌then◌else◌}
use Rattle.std.proofs.lemmas.Bool.Decides.{nat_tests}
use Rattle.std.proofs.lemmas.Grind.{fold-append}
use Rattle.nc_conf.specs.declared.fault.Fault.{Fault}
use Rattle.nc_conf.specs.First.{is_before, IsFirstFault, before, earlier, first_with}

not_before : (f g r : Fault) → is_before g f ≡ false → is_before f r ≡ false → is_before g r ≡ false
not_before f g r p q = grind (arith, nat_tests)

later : (f g r : Fault) → is_before g f ≡ true → is_before g r ≡ false → is_before f r ≡ false
later f g r p q = grind (arith, nat_tests)

before_self : (f : Fault) → is_before f f ≡ false
before_self f = grind (arith, nat_tests)

no_list : {P : Type 0} (f : Fault) (fs : List Fault) → f ∷ fs ≡ [] → P
no_list f fs e = absurd (cc)

-- the earlier of two stands for both
step : (f g : Fault) (fs : List Fault) (r : Option Fault) → IsFirstFault (before f g ∷ fs) r → IsFirstFault (f ∷ g ∷ fs) r
step f g fs None h = no_list (before f g) fs h
step f g fs (Some r) h = by_test (is_before g f) refl h
  where
    by_test : (b : Bool) → is_before g f ≡ b → IsFirstFault ((if b then g else f) ∷ fs) (Some r) → IsFirstFault (f ∷ g ∷ fs) (Some r)
    by_test true e k = (elim k.0 [ inl i ↦ inr (inl i) | inr i ↦ inr (inr i) ], (later f g r e k.1.0, k.1))
    by_test false e k = (elim k.0 [ inl i ↦ inl i | inr i ↦ inr (inr i) ], (k.1.0, (not_before f g r e k.1.0, k.1.1)))

first_behind : (f : Fault) (fs : List Fault) → IsFirstFault (f ∷ fs) (first_with (Some f) fs)
first_behind f [] = (inl refl, (before_self f, tt))
first_behind f (g ∷ fs) = step f g fs (first_with (Some (before f g)) fs) (first_behind (before f g) fs)

pub is_first : (fs : List Fault) → IsFirstFault fs (first_with None fs)
is_first [] = refl
is_first (f ∷ fs) = first_behind f fs

-- lists behind one another

pub two : (first : Option Fault) (xs ys : List Fault) → first_with first (xs ++ ys) ≡ first_with (first_with first xs) ys
two first xs ys = fold-append earlier first xs ys

pub in_two : (first a b : Option Fault) (xs ys : List Fault) → a ≡ first_with first xs → b ≡ first_with a ys → b ≡ first_with first (xs ++ ys)
in_two first a b xs ys p q = q ∙ ap (λ (o : Option Fault). first_with o ys) p ∙ sym (two first xs ys)

pub in_three : (a b r : Option Fault) (xs ys zs : List Fault) → a ≡ first_with None xs → b ≡ first_with a ys → r ≡ first_with b zs → IsFirstFault (xs ++ ys ++ zs) r
in_three a b r xs ys zs p q s = subst (λ (o : Option Fault). IsFirstFault (xs ++ ys ++ zs) o) (sym (in_two None b r (xs ++ ys) zs (in_two None a b xs ys p q) s)) (is_first (xs ++ ys ++ zs))
