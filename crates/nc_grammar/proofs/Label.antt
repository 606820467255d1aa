-- Reading fixed texts and words.
use Rattle.std.proofs.Common.{◌≡◌, ℕ, ◌<◌, true, false, cond, eqb, List, [], ◌∷◌, ◌++◌, length, refl, sym, ap, subst, ◌∙◌, append_assoc, arith, length-append}
use Rattle.std.proofs.lemmas.Bool.{eqb-true, eqb-false}
use Rattle.std.proofs.lemmas.List.{append-nil}
use Rattle.nc_grammar.specs.Reading.{Stuck}
pub use Rattle.nc_grammar.specs.Label.{IsLabel, nothing}
use Rattle.nc_grammar.specs.Label.{label_at, shared}
use Rattle.nc_grammar.proofs.Split.{head_is, tail_is}
use Rattle.nc_grammar.proofs.Exact.{Blocked, IsStuck, IsRightReading, IsSet, IsExact}

pub label_short : (l : List ℕ) (t : List ℕ) → 0 < length l → length t < 1 → label_at l t ≡ Stuck t
label_short [] t some short = absurd (omega (arith, some))
label_short (b ∷ l) [] some short = refl
label_short (b ∷ l) (c ∷ t) some short = absurd (omega (arith, short))

pub shared_short : (l : List ℕ) (t : List ℕ) → length t < 1 → shared l t ≡ 0
shared_short [] t short = refl
shared_short (b ∷ l) [] short = refl
shared_short (b ∷ l) (c ∷ t) short = absurd (omega (arith, short))

next_of_label : (p : List ℕ) (l : ℕ) (ls s : List ℕ) (c : ℕ) → p ++ c ∷ s ≡ p ++ l ∷ ls → c ≡ l
next_of_label [] l ls s c e = head_is c l s ls e
next_of_label (b ∷ p) l ls s c e = next_of_label p l ls s c (tail_is b b (p ++ c ∷ s) (p ++ l ∷ ls) e)

longer_than : (p : List ℕ) (l : ℕ) (ls : List ℕ) → p ≡ p ++ l ∷ ls → ⊥
longer_than p l ls e = absurd (omega (arith, ap length e, length-append p (l ∷ ls)))

label_stuck : (p : List ℕ) (l : ℕ) (ls r t : List ℕ) → t ≡ p ++ r → Blocked (IsLabel (p ++ l ∷ ls)) p r → IsStuck (IsLabel (p ++ l ∷ ls)) t r
label_stuck p l ls r t e b = record { front = p; begun = record { value = tt; rest = l ∷ ls; text = refl }; parts = e; blocked = b; none = λ a h. longer_than p l ls h }

label_tells : (p ls t r : List ℕ) → t ≡ p ++ r → IsRightReading (IsLabel (p ++ ls)) t (label_at ls r)
label_tells p [] t r e = record { front = p; text = sym (append-nil p); parts = e; blocked = no_more r }
  where
    no_more : (r : List ℕ) → Blocked (IsLabel (p ++ [])) p r
    no_more [] = tt
    no_more (c ∷ r) = λ a s h. longer_than p c s (sym (h ∙ append-nil p))
label_tells p (l ∷ ls) t [] e = label_stuck p l ls [] t e tt
label_tells p (l ∷ ls) t (c ∷ r) e =
    (elim (eqb l c) as (λ b. eqb l c ≡ b → IsRightReading (IsLabel (p ++ l ∷ ls)) t (cond b (label_at ls r) (Stuck (c ∷ r)))) [
      | true ↦ λ g. (let i = eqb-true l c g in
          subst (λ (k : List ℕ). IsRightReading (IsLabel k) t (label_at ls r)) (append_assoc p (l ∷ []) ls)
          (label_tells (p ++ l ∷ []) ls t r (e ∙ ap (λ (k : ℕ). p ++ k ∷ r) (sym i) ∙ sym (append_assoc p (l ∷ []) r))))
      | false ↦ λ g. label_stuck p l ls (c ∷ r) t e (λ a s h. eqb-false l c g (sym (next_of_label p l ls s c h)))
    ]) refl

pub label_set : (label : List ℕ) → IsSet (IsLabel label) nothing
label_set label =
    record {
      unique = λ a b u m n. refl;
      stay = λ a b u c s m n. absurd (longer_than u c s (m ∙ sym n));
      some = tt;
      some_text = label;
      has_some = refl;
    }

pub label_exact : (label : List ℕ) → IsExact (IsLabel label) nothing (label_at label)
label_exact label = record { set = label_set label; tells = λ t. label_tells [] label t t refl }
