-- Reading a value or `-` is right.
use Rattle.std.proofs.Common.{◌≡◌, ℕ, Bool, true, false, cond, eqb, List, [], ◌∷◌, ◌++◌, Option, Some, None, refl, sym, ap, subst, ◌∙◌}
use Rattle.std.proofs.lemmas.Bool.{eqb-true, eqb-false}
use Rattle.nc_grammar.specs.Reading.{Read, Found, Stuck, map_read}
use Rattle.nc_grammar.specs.Maybe.{option_at}
use Rattle.nc_grammar.proofs.Texts.{IsMaybe}
use Rattle.nc_grammar.proofs.Split.{head_is, tail_is, not_nil}
use Rattle.nc_grammar.proofs.Exact.{Blocked, IsRightReading, IsSet, IsExact}

-- no text is empty or begins with `-`
pub record NoDash {A : Type 0} (L : A → List ℕ → Type 0) : Type 0 where
  pub some : (a : A) → L a [] → ⊥
  pub other : (a : A) (s : List ℕ) → L a (45 ∷ s) → ⊥

not_dash : (p : List ℕ) (c : ℕ) (s r : List ℕ) → p ++ c ∷ s ≡ 45 ∷ [] → (w : List ℕ) × (p ++ c ∷ r ≡ 45 ∷ w)
not_dash [] c s r e = (r, ap (λ (k : ℕ). k ∷ r) (head_is c 45 s [] e))
not_dash (d ∷ p) c s r e = absurd (nothing_left p c s (tail_is d 45 (p ++ c ∷ s) [] e))
  where
    nothing_left : (p : List ℕ) (c : ℕ) (s : List ℕ) → p ++ c ∷ s ≡ [] → ⊥
    nothing_left [] c s e = not_nil c s e
    nothing_left (d ∷ p) c s e = not_nil d (p ++ c ∷ s) e

maybe_blocked : {A : Type 0} (L : A → List ℕ → Type 0) (t p r : List ℕ) → ((w : List ℕ) → t ≡ 45 ∷ w → ⊥) → t ≡ p ++ r → Blocked L p r → Blocked (IsMaybe L) p r
maybe_blocked L t p [] other e b = tt
maybe_blocked {A = A} L t p (c ∷ r) other e b = λ o s m. by_option o s m
  where
    by_option : (o : Option A) (s : List ℕ) → IsMaybe L o (p ++ c ∷ s) → ⊥
    by_option None s m = (let h = not_dash p c s r m in other h.0 (e ∙ h.1))
    by_option (Some a) s m = b a s m

maybe_none : {A : Type 0} (L : A → List ℕ → Type 0) (t p r : List ℕ) → ((w : List ℕ) → t ≡ 45 ∷ w → ⊥) → t ≡ p ++ r → ((a : A) → L a p → ⊥) → (o : Option A) → IsMaybe L o p → ⊥
maybe_none L t p r other e n None m = other r (e ∙ ap (λ (l : List ℕ). l ++ r) m)
maybe_none L t p r other e n (Some a) m = n a m

maybe_some : {A : Type 0} (L : A → List ℕ → Type 0) (t : List ℕ) (x : Read A) → ((w : List ℕ) → t ≡ 45 ∷ w → ⊥) → IsRightReading L t x → IsRightReading (IsMaybe L) t (map_read Some x)
maybe_some L t (Found a r) other m = record { front = m.front; text = m.text; parts = m.parts; blocked = maybe_blocked L t m.front r other m.parts m.blocked }
maybe_some L t (Stuck r) other m =
    record {
      front = m.front;
      begun = record { value = Some m.begun.value; rest = m.begun.rest; text = m.begun.text };
      parts = m.parts;
      blocked = maybe_blocked L t m.front r other m.parts m.blocked;
      none = maybe_none L t m.front r other m.parts m.none;
    }

dash_blocked : {A : Type 0} (L : A → List ℕ → Type 0) → NoDash L → (r : List ℕ) → Blocked (IsMaybe L) (45 ∷ []) r
dash_blocked L d [] = tt
dash_blocked {A = A} L d (c ∷ r) = λ o s m. by_option o s m
  where
    by_option : (o : Option A) (s : List ℕ) → IsMaybe L o (45 ∷ c ∷ s) → ⊥
    by_option None s m = not_nil c s (tail_is 45 45 (c ∷ s) [] m)
    by_option (Some a) s m = d.other a (c ∷ s) m

maybe_tells : {A : Type 0} (L : A → List ℕ → Type 0) (read : List ℕ → Read A) → NoDash L → ((t : List ℕ) → IsRightReading L t (read t)) → (t : List ℕ) → IsRightReading (IsMaybe L) t (option_at read t)
maybe_tells L read d h [] = maybe_some L [] (read []) (λ w e. not_nil 45 w (sym e)) (h [])
maybe_tells L read d h (c ∷ r) =
    (elim (eqb c 45) as (λ b. eqb c 45 ≡ b → IsRightReading (IsMaybe L) (c ∷ r) (cond b (Found None r) (map_read Some (read (c ∷ r))))) [
      | true ↦ λ g. record { front = 45 ∷ []; text = refl; parts = ap (λ (k : ℕ). k ∷ r) (eqb-true c 45 g); blocked = dash_blocked L d r }
      | false ↦ λ g. maybe_some L (c ∷ r) (read (c ∷ r)) (λ w e. eqb-false c 45 g (head_is c 45 r w e)) (h (c ∷ r))
    ]) refl

maybe_unique : {A : Type 0} (L : A → List ℕ → Type 0) (stays : ℕ → Bool) → NoDash L → IsSet L stays → (o q : Option A) (u : List ℕ) → IsMaybe L o u → IsMaybe L q u → o ≡ q
maybe_unique L stays d x None None u m n = refl
maybe_unique L stays d x None (Some b) u m n = absurd (d.other b [] (subst (L b) m n))
maybe_unique L stays d x (Some a) None u m n = absurd (d.other a [] (subst (L a) n m))
maybe_unique L stays d x (Some a) (Some b) u m n = ap Some (x.unique a b u m n)

maybe_stay : {A : Type 0} (L : A → List ℕ → Type 0) (stays : ℕ → Bool) → NoDash L → IsSet L stays → (o q : Option A) (u : List ℕ) (c : ℕ) (s : List ℕ) → IsMaybe L o u → IsMaybe L q (u ++ c ∷ s) → stays c ≡ true
maybe_stay L stays d x None None u c s m n = absurd (not_nil c s (tail_is 45 45 (c ∷ s) [] (ap (λ (l : List ℕ). l ++ c ∷ s) (sym m) ∙ n)))
maybe_stay L stays d x None (Some b) u c s m n = absurd (d.other b (c ∷ s) (subst (L b) (ap (λ (l : List ℕ). l ++ c ∷ s) m) n))
maybe_stay L stays d x (Some a) None [] c s m n = absurd (d.some a m)
maybe_stay L stays d x (Some a) None (e ∷ u) c s m n = absurd (by_tail u (tail_is e 45 (u ++ c ∷ s) [] n))
  where
    by_tail : (u : List ℕ) → u ++ c ∷ s ≡ [] → ⊥
    by_tail [] e = not_nil c s e
    by_tail (d ∷ u) e = not_nil d (u ++ c ∷ s) e
maybe_stay L stays d x (Some a) (Some b) u c s m n = x.stay a b u c s m n

pub maybe_exact : {A : Type 0} (L : A → List ℕ → Type 0) (stays : ℕ → Bool) (read : List ℕ → Read A) → NoDash L → IsExact L stays read → IsExact (IsMaybe L) stays (option_at read)
maybe_exact L stays read d x =
    record {
      set = record {
        unique = maybe_unique L stays d x.set;
        stay = maybe_stay L stays d x.set;
        some = None;
        some_text = 45 ∷ [];
        has_some = refl;
      };
      tells = maybe_tells L read d x.tells;
    }
