-- From a reader of the front to the whole text.
use Rattle.std.proofs.Common.{◌≡◌, ◌⊎◌, inl, inr, ℕ, suc, ◌-◌, ◌<◌, ◌≤◌, List, [], ◌∷◌, ◌++◌, length, take, refl, sym, ap, subst, ◌∙◌, append_assoc, arith, length-append, Bool, Result, Ok, Err}
use Rattle.std.proofs.lemmas.List.{append-nil, take_at}
use Rattle.std.proofs.lemmas.Bool.{cases_lt}
use Rattle.nc_grammar.specs.declared.fault.Fault.{Fault}
use Rattle.nc_grammar.specs.declared.fault.Fault.TheVariants as faults
use Rattle.nc_grammar.specs.Reading.{Read, Found, Stuck, Begins, IsLongest}
use Rattle.nc_grammar.specs.Exact.{Blocked, IsRightReading, IsExact}
use Rattle.nc_grammar.specs.Gives.{Gives}
use Rattle.nc_grammar.specs.Whole.{IsBad, IsWhole, ended}

pub whole_ok : {A : Type 0} (L : A → List ℕ → Type 0) (t : List ℕ) (a : A) → IsRightReading L t (Found a []) → L a t
whole_ok L t a m = subst (L a) (sym (m.parts ∙ append-nil m.front)) m.text

-- the longest prefix ends where nothing goes on
longer_none : {A : Type 0} (L : A → List ℕ → Type 0) (p r : List ℕ) → Blocked L p r → (m : ℕ) → length p < m → m ≤ length (p ++ r) → Begins L (take m (p ++ r)) → ⊥
longer_none L p [] b m lt le h = absurd (omega (arith, lt, le, ap length (append-nil p)))
longer_none L p (c ∷ r) b m lt le h =
    let k = m - length p in
    let cut : take m (p ++ c ∷ r) ≡ p ++ c ∷ take (m - length p - 1) r = take_past p c r m lt in
    b h.value (take (m - length p - 1) r ++ h.rest) (subst (L h.value) (ap (λ (l : List ℕ). l ++ h.rest) cut ∙ append_assoc p (c ∷ take (m - length p - 1) r) h.rest) h.text)
  where
    take_past : (p : List ℕ) (c : ℕ) (r : List ℕ) (m : ℕ) → length p < m → take m (p ++ c ∷ r) ≡ p ++ c ∷ take (m - length p - 1) r
    take_past [] c r m lt = let e : m ≡ suc (m - 0 - 1) = omega (arith, lt) in ap (λ (n : ℕ). take n (c ∷ r)) e
    take_past (a ∷ p) c r m lt = let e : m ≡ suc (m - 1) = omega (arith, lt) in let f : m - 1 - length p - 1 ≡ m - length (a ∷ p) - 1 = omega arith in ap (λ (n : ℕ). take n (a ∷ (p ++ c ∷ r))) e ∙ ap (λ (l : List ℕ). a ∷ l) (take_past p c r (m - 1) (omega (arith, lt)) ∙ ap (λ (n : ℕ). p ++ c ∷ take n r) f)

longest : {A : Type 0} (L : A → List ℕ → Type 0) (t p r : List ℕ) → t ≡ p ++ r → Begins L p → Blocked L p r → IsLongest L t (length t - length r)
longest L t p r e h b =
    let n : length t - length r ≡ length p = omega (arith, ap length e, length-append p r) in
    subst (λ (k : ℕ). IsLongest L t k) (sym n) (record {
      within = omega (arith, ap length e, length-append p r);
      begun = subst (λ (l : List ℕ). Begins L (take (length p) l)) (sym e) (subst (λ (l : List ℕ). Begins L l) (sym (take_at p r (length p) refl)) h);
      longest = λ m le g. by_length m le g (cases_lt (length p) m);
    })
  where
    by_length : (m : ℕ) → m ≤ length t → Begins L (take m t) → (length p < m) ⊎ (m ≤ length p) → m ≤ length p
    by_length m le g (inl lt) = absurd (longer_none L p r b m lt (subst (λ (l : List ℕ). m ≤ length l) e le) (subst (λ (l : List ℕ). Begins L (take m l)) e g))
    by_length m le g (inr no_more) = no_more

pub whole_more : {A : Type 0} (L : A → List ℕ → Type 0) (t : List ℕ) (a : A) (r : List ℕ) → 0 < length r → IsRightReading L t (Found a r) → IsBad L t (length t - length r)
whole_more L t a [] some m = absurd (omega (arith, some))
whole_more L t a (c ∷ r) some m =
    record {
      none = λ b h. m.blocked b r (subst (L b) m.parts h);
      place = longest L t m.front (c ∷ r) m.parts (record { value = a; rest = []; text = subst (L a) (sym (append-nil m.front)) m.text }) m.blocked;
    }

pub whole_stuck : {A : Type 0} (L : A → List ℕ → Type 0) (t r : List ℕ) → IsRightReading L t (Stuck r) → IsBad L t (length t - length r)
whole_stuck L t [] m = record { none = λ a h. m.none a (subst (L a) (m.parts ∙ append-nil m.front) h); place = longest L t m.front [] m.parts m.begun m.blocked }
whole_stuck L t (c ∷ r) m = record { none = λ a h. m.blocked a r (subst (L a) m.parts h); place = longest L t m.front (c ∷ r) m.parts m.begun m.blocked }

-- what is made of a reading that is right is told rightly of the whole text
pub whole_is : {A : Type 0} (L : A → List ℕ → Type 0) (stays : ℕ → Bool) (read : List ℕ → Read A) → IsExact L stays read → (t rest : List ℕ) (outcome : Result A Fault) → Gives rest outcome (read t) → IsWhole L t (ended (length t) rest outcome)
whole_is L stays read x t [] (Ok a) e = whole_ok L t a (subst (λ (y : Read _). IsRightReading L t y) e (x.tells t))
whole_is L stays read x t (c ∷ r) (Ok a) e = whole_more L t a (c ∷ r) (omega arith) (subst (λ (y : Read _). IsRightReading L t y) e (x.tells t))
whole_is L stays read x t [] (Err faults.Stuck) e = whole_stuck L t [] (subst (λ (y : Read _). IsRightReading L t y) e (x.tells t))
whole_is L stays read x t (c ∷ r) (Err faults.Stuck) e = whole_stuck L t (c ∷ r) (subst (λ (y : Read _). IsRightReading L t y) e (x.tells t))
whole_is L stays read x t [] (Err faults.NoMemory) e = tt
whole_is L stays read x t (c ∷ r) (Err faults.NoMemory) e = tt
