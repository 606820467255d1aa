-- Reading numbers joined by commas is right, also where there is none.
use Rattle.std.proofs.Common.{◌≡◌, ℕ, ◌+◌, ◌*◌, ◌-◌, Bool, true, false, cond, List, [], ◌∷◌, ◌++◌, length, Option, Some, None, refl, sym, ap, subst, ◌∙◌, arith, length-append}
use Rattle.std.specs.Prelude.{nat_le, ◌&&◌}
use Rattle.std.specs.List.{flat_map}
use Rattle.std.specs.Fmt.{decimal}
use Rattle.nc_grammar.specs.Reading.{Read, Found, Stuck, go_on, with_first}
use Rattle.nc_grammar.specs.Number.{is_digit, goes_on, more_digits_at, number_at}
use Rattle.nc_grammar.specs.Maybe.{option_at, joined_at, more_at, add_first, OrNone}
use Rattle.nc_grammar.proofs.Texts.{or_dash, SomeFit}
use Rattle.nc_grammar.specs.Whole.{IsLine}
use Rattle.nc_grammar.proofs.Split.{head_is, not_nil}
use Rattle.nc_grammar.proofs.Exact.{Blocked, IsFound, IsStuck, IsRightReading, IsExact, IsExact-same, IsExact-named, Named}
use Rattle.nc_grammar.proofs.Seq.{either}
use Rattle.nc_grammar.proofs.More.{or_comma, Shortens, shortens}
use Rattle.nc_grammar.proofs.Forms.{maybe_form, joined_form}
use Rattle.std.proofs.lemmas.Bool.{or_left}
use Rattle.nc_journal_field.specs.Field.{numbers_text, subs_text}
use Rattle.nc_types.specs.Written.{comma, joined}
use Rattle.nc_journal_read.specs.Fit.{IsU64, AreNumbers}
use Rattle.nc_journal_read.specs.ValueReader.{u64_at, from_first, numbers_at, or_empty, subs_at}
use Rattle.nc_journal_read.proofs.Values.{IsNumberFront, front_some, front_first, digit_first, no_dash, u64_form, u64_first}

abbrev Numbers : List ℕ → List ℕ → Type 0
Numbers = IsLine AreNumbers numbers_text

abbrev SomeNumbers : List ℕ → List ℕ → Type 0
SomeNumbers = IsLine (SomeFit IsU64) (joined decimal)

abbrev Number : ℕ → List ℕ → Type 0
Number = IsLine IsU64 decimal

abbrev numbers_stay : ℕ → Bool
numbers_stay = either is_digit (or_comma is_digit)

some_form : IsExact (IsLine (SomeFit IsU64) (joined decimal)) (either is_digit (or_comma is_digit)) (joined_at u64_at)
some_form = joined_form IsU64 decimal is_digit u64_at refl u64_form

pub u64_shortens : Shortens u64_at
u64_shortens = shortens (IsLine IsU64 decimal) is_digit u64_at u64_form

-- ---- a number is stuck only at its first byte

found_clash : {A : Type 0} (a : A) (q r : List ℕ) → (let y : Read A = Found a q in y) ≡ Stuck r → ⊥
found_clash a q r e = absurd cc

stuck_rest : {A : Type 0} (q r : List ℕ) → (let y : Read A = Stuck q in y) ≡ Stuck r → q ≡ r
stuck_rest q r e = cc

digits_found : (limit v : ℕ) (t r : List ℕ) → more_digits_at limit v t ≡ Stuck r → ⊥
digits_found limit v [] r e = found_clash v [] r e
digits_found limit v (c ∷ t) r e =
    (elim (goes_on limit v c) as (λ b. cond b (more_digits_at limit (v * 10 + (c - 48)) t) (Found v (c ∷ t)) ≡ Stuck r → ⊥) [
      | true ↦ λ h. digits_found limit (v * 10 + (c - 48)) t r h
      | false ↦ λ h. found_clash v (c ∷ t) r h
    ]) e

pub number_stuck : (limit : ℕ) (t r : List ℕ) → number_at limit t ≡ Stuck r → t ≡ r
number_stuck limit [] r e = stuck_rest {A = ℕ} [] r e
number_stuck limit (c ∷ t) r e =
    (elim (is_digit c && nat_le (c - 48) limit) as (λ b. cond b (more_digits_at limit (c - 48) t) (Stuck (c ∷ t)) ≡ Stuck r → c ∷ t ≡ r) [
      | true ↦ λ h. absurd (digits_found limit (c - 48) t r h)
      | false ↦ λ h. stuck_rest {A = ℕ} (c ∷ t) r h
    ]) e

-- ---- some numbers, or none

nil : (p : List ℕ) → p ++ [] ≡ p
nil [] = refl
nil (c ∷ p) = ap (λ (l : List ℕ). c ∷ l) (nil p)

append_some : (p : List ℕ) (c : ℕ) (s : List ℕ) → p ++ c ∷ s ≡ [] → ⊥
append_some [] c s e = not_nil c s e
append_some (b ∷ p) c s e = not_nil b (p ++ c ∷ s) e

to_numbers : (xs u : List ℕ) → SomeNumbers xs u → Numbers xs u
to_numbers [] u m = absurd m.fits
to_numbers (n ∷ ns) u m = record { fits = m.fits; text = m.text }

to_some : (n : ℕ) (ns u : List ℕ) → Numbers (n ∷ ns) u → SomeNumbers (n ∷ ns) u
to_some n ns u m = record { fits = m.fits; text = m.text }

numbers_front : (n : ℕ) (ns u : List ℕ) → Numbers (n ∷ ns) u → IsNumberFront u
numbers_front n ns u m = record { number = n; within = omega (arith, m.fits.0); behind = flat_map (comma decimal) ns; text = m.text }

some_front : (xs u : List ℕ) → SomeNumbers xs u → IsNumberFront u
some_front [] u m = absurd m.fits
some_front (n ∷ ns) u m = numbers_front n ns u (to_numbers (n ∷ ns) u m)

widen : (p q : List ℕ) → Blocked SomeNumbers p q → Blocked Numbers p q
widen p [] h = tt
widen p (c ∷ q) h = λ xs s m. by_list xs s m
  where
    by_list : (xs s : List ℕ) → Numbers xs (p ++ c ∷ s) → ⊥
    by_list [] s m = append_some p c s m.text
    by_list (n ∷ ns) s m = h (n ∷ ns) s (to_some n ns (p ++ c ∷ s) m)

-- where a number was read, something goes on at the front
not_at_front : (t : List ℕ) (n : ℕ) (r : List ℕ) → IsFound Number t n r → (p q : List ℕ) → p ≡ [] → t ≡ p ++ q → Blocked SomeNumbers p q → ⊥
not_at_front t n r f p q e g b = by_front f.front refl
  where
    by_front : (w : List ℕ) → f.front ≡ w → ⊥
    by_front [] h = u64_first.some n (subst (Number n) h f.text)
    by_front (c ∷ w) h =
        let is : q ≡ c ∷ (w ++ r) = sym (ap (λ (l : List ℕ). l ++ q) e) ∙ sym g ∙ f.parts ∙ ap (λ (l : List ℕ). l ++ r) h in
        let at_front : Blocked SomeNumbers [] (c ∷ (w ++ r)) = subst (λ (l : List ℕ). Blocked SomeNumbers [] l) is (subst (λ (l : List ℕ). Blocked SomeNumbers l q) e b) in
        let one : Number n (c ∷ w) = subst (Number n) h f.text in
        at_front (n ∷ []) w (record { fits = (one.fits, tt); text = one.text ∙ sym (nil (decimal n)) })

found_tells : (t : List ℕ) (n : ℕ) (r : List ℕ) → IsFound Number t n r → (x : Read (List ℕ)) → IsRightReading SomeNumbers t x → IsRightReading Numbers t x
found_tells t n r f (Found xs q) m = record { front = m.front; text = to_numbers xs m.front m.text; parts = m.parts; blocked = widen m.front q m.blocked }
found_tells t n r f (Stuck q) m =
    record {
      front = m.front;
      begun = record { value = m.begun.value; rest = m.begun.rest; text = to_numbers m.begun.value (m.front ++ m.begun.rest) m.begun.text };
      parts = m.parts;
      blocked = widen m.front q m.blocked;
      none = λ xs k. by_list xs k;
    }
  where
    by_list : (xs : List ℕ) → Numbers xs m.front → ⊥
    by_list [] k = not_at_front t n r f m.front q k.text m.parts m.blocked
    by_list (n ∷ ns) k = m.none (n ∷ ns) (to_some n ns m.front k)

stuck_blocked : (r : List ℕ) → IsStuck Number r r → Blocked Numbers [] r
stuck_blocked [] m = tt
stuck_blocked (c ∷ r) m = λ xs s h. by_list xs s h
  where
    front_nil : (p : List ℕ) → c ∷ r ≡ p ++ c ∷ r → p ≡ []
    front_nil [] e = refl
    front_nil (b ∷ p) e = absurd (omega (arith, ap length e, length-append (b ∷ p) (c ∷ r)))

    at_front : Blocked Number [] (c ∷ r)
    at_front = subst (λ (l : List ℕ). Blocked Number l (c ∷ r)) (front_nil m.front m.parts) m.blocked

    by_list : (xs s : List ℕ) → Numbers xs (c ∷ s) → ⊥
    by_list [] s h = not_nil c s h.text
    by_list (n ∷ ns) s h = by_digits (decimal n) refl
      where
        by_digits : (d : List ℕ) → decimal n ≡ d → ⊥
        by_digits [] e = u64_first.some n (record { fits = h.fits.0; text = sym e })
        by_digits (b ∷ d) e =
            let is : c ≡ b = head_is c b s (d ++ flat_map (comma decimal) ns) (h.text ∙ ap (λ (l : List ℕ). l ++ flat_map (comma decimal) ns) e) in
            at_front n d (record { fits = h.fits.0; text = ap (λ (k : ℕ). k ∷ d) is ∙ sym e })

stuck_tells : (t r : List ℕ) → t ≡ r → IsRightReading Number t (Stuck r) → IsRightReading Numbers t (Found [] r)
stuck_tells t r e m = record { front = []; text = record { fits = tt; text = refl }; parts = e; blocked = stuck_blocked r (subst (λ (l : List ℕ). IsStuck Number l r) e m) }

numbers_tells : (t : List ℕ) → IsRightReading Numbers t (numbers_at t)
numbers_tells t =
    (elim (u64_at t) as (λ y. u64_at t ≡ y → IsRightReading Numbers t (from_first y)) [
      | Found n r ↦ λ e. found_tells t n r (subst (λ (y : Read ℕ). IsRightReading Number t y) e (u64_form.tells t)) (from_first (Found n r))
          (subst (λ (y : Read ℕ). IsRightReading SomeNumbers t (add_first (go_on y (λ a rest. with_first a (more_at (length rest) u64_at rest))))) e (some_form.tells t))
      | Stuck r ↦ λ e. stuck_tells t r (number_stuck 18446744073709551615 t r e) (subst (λ (y : Read ℕ). IsRightReading Number t y) e (u64_form.tells t))
    ]) refl

numbers_unique : (a b u : List ℕ) → Numbers a u → Numbers b u → a ≡ b
numbers_unique [] [] u m n = refl
numbers_unique [] (b ∷ bs) u m n = absurd (front_some u (numbers_front b bs u n) m.text)
numbers_unique (a ∷ xs) [] u m n = absurd (front_some u (numbers_front a xs u m) n.text)
numbers_unique (a ∷ xs) (b ∷ bs) u m n = some_form.set.unique (a ∷ xs) (b ∷ bs) u (to_some a xs u m) (to_some b bs u n)

numbers_go_on : (a b u : List ℕ) (c : ℕ) (s : List ℕ) → Numbers a u → Numbers b (u ++ c ∷ s) → numbers_stay c ≡ true
numbers_go_on a [] u c s m n = absurd (append_some u c s n.text)
numbers_go_on [] (b ∷ bs) u c s m n = or_left (is_digit c) (or_comma is_digit c) (front_first (u ++ c ∷ s) (numbers_front b bs (u ++ c ∷ s) n) c s (ap (λ (l : List ℕ). l ++ c ∷ s) m.text))
numbers_go_on (a ∷ xs) (b ∷ bs) u c s m n = some_form.set.stay (a ∷ xs) (b ∷ bs) u c s (to_some a xs u m) (to_some b bs (u ++ c ∷ s) n)

pub numbers_form : IsExact (IsLine AreNumbers numbers_text) (either is_digit (or_comma is_digit)) numbers_at
numbers_form =
    record {
      set = record { unique = numbers_unique; stay = numbers_go_on; some = []; some_text = []; has_some = record { fits = tt; text = refl } };
      tells = numbers_tells;
    }

-- ---- numbers, or `-` where there is none

subs_there : (xs u : List ℕ) → Named or_empty (IsLine (OrNone (SomeFit IsU64)) (or_dash (joined decimal))) xs u → IsLine AreNumbers subs_text xs u
subs_there xs u m = by_option m.0 m.1 m.2
  where
    by_option : (o : Option (List ℕ)) → xs ≡ or_empty o → IsLine (OrNone (SomeFit IsU64)) (or_dash (joined decimal)) o u → IsLine AreNumbers subs_text xs u
    by_option None e l = subst (λ (y : List ℕ). IsLine AreNumbers subs_text y u) (sym e) (record { fits = tt; text = l.text })
    by_option (Some []) e l = absurd l.fits
    by_option (Some (n ∷ ns)) e l = subst (λ (y : List ℕ). IsLine AreNumbers subs_text y u) (sym e) (record { fits = l.fits; text = l.text })

subs_back : (xs u : List ℕ) → IsLine AreNumbers subs_text xs u → Named or_empty (IsLine (OrNone (SomeFit IsU64)) (or_dash (joined decimal))) xs u
subs_back [] u m = (None, refl, record { fits = tt; text = m.text })
subs_back (n ∷ ns) u m = (Some (n ∷ ns), refl, record { fits = m.fits; text = m.text })

pub subs_form : IsExact (IsLine AreNumbers subs_text) (either is_digit (or_comma is_digit)) subs_at
subs_form =
    IsExact-same (Named or_empty (IsLine (OrNone (SomeFit IsU64)) (or_dash (joined decimal)))) (IsLine AreNumbers subs_text) (either is_digit (or_comma is_digit)) subs_at subs_there subs_back
    (IsExact-named or_empty (IsLine (OrNone (SomeFit IsU64)) (or_dash (joined decimal))) (either is_digit (or_comma is_digit)) (option_at (joined_at u64_at))
    (maybe_form (SomeFit IsU64) (joined decimal) (either is_digit (or_comma is_digit)) (joined_at u64_at) (no_dash SomeNumbers (digit_first SomeNumbers some_front)) some_form))
