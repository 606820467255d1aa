-- What each step of reading a list of channels leaves to be read.
use Rattle.std.proofs.Common.{◌≡◌, ◌≢◌, ℕ, zero, suc, ◌-◌, ◌<◌, ◌≤◌, Bool, true, false, cond, eqb, drop, List, [], ◌∷◌, ◌++◌, length, refl, sym, ap, subst, ◌∙◌, append_assoc, arith, length-append}
use Rattle.std.specs.Prelude.{◌||◌, take, bytes_eq}
use Rattle.std.specs.List.{AllByRecursion}
use Rattle.std.specs.Cmp.Lexicographic.{other_text}
use Rattle.nc_types.specs.Channel.{AreDistinct}
use Rattle.nc_types.specs.Text.{quoted_byte, quoted}
use Rattle.nc_grammar.specs.Reading.{Read, Found, Stuck, go_on, map_read, with_first}
use Rattle.nc_grammar.specs.Quoted.{AreBytes, quoted_at}
use Rattle.nc_grammar.specs.Maybe.{begins_with, add_first}
use Rattle.nc_grammar.specs.Whole.{IsLine}
use Rattle.nc_grammar.proofs.Exact.{IsRightReading}
use Rattle.nc_grammar.proofs.Forms.{text_form}
use Rattle.std.specs.List.{flat_map}
use Rattle.nc_journal_list.specs.NameReader.{is_among, if_new, new_name_at, more_names_at, list_at}
use Rattle.nc_journal_list.proofs.Put.{found_value, found_rest, append_front, firsts_are}

-- a name that was read ends with a closing sign
pub record Closing (t r : List ℕ) : Type 0 where
  pub shorter : length r < length t
  pub sign : drop (length t - length r - 1) t ≡ 34 ∷ r

pub closing : (t name r : List ℕ) → quoted_at t ≡ Found name r → Closing t r
closing t name r e =
    let m : IsRightReading (IsLine AreBytes quoted) t (Found name r) = subst (λ (y : Read (List ℕ)). IsRightReading (IsLine AreBytes quoted) t y) e (text_form.tells t) in
    let cut : t ≡ (34 ∷ flat_map quoted_byte name) ++ (34 ∷ r) = m.parts ∙ ap (λ (l : List ℕ). l ++ r) m.text.text ∙ append_assoc (34 ∷ flat_map quoted_byte name) (34 ∷ []) r in
    let n : length t - length r - 1 ≡ length (34 ∷ flat_map quoted_byte name) = omega (arith, ap length cut, length-append (34 ∷ flat_map quoted_byte name) (34 ∷ r)) in
    record {
      shorter = omega (arith, ap length cut, length-append (34 ∷ flat_map quoted_byte name) (34 ∷ r));
      sign = ap (λ (k : ℕ). drop k t) n ∙ ap (drop (length (34 ∷ flat_map quoted_byte name))) cut ∙ drop_front (34 ∷ flat_map quoted_byte name) (34 ∷ r);
    }
  where
    drop_front : (p r : List ℕ) → drop (length p) (p ++ r) ≡ r
    drop_front [] r = refl
    drop_front (c ∷ p) r = drop_front p r

pub distinct_last : (names : List (List ℕ)) (name : List ℕ) → is_among name names ≡ false → AreDistinct names → AreDistinct (names ++ name ∷ [])
distinct_last [] name e h = (tt, tt)
distinct_last (other ∷ names) name e h =
    let k = neither (bytes_eq name other) (is_among name names) e in
    (all_last names (other_text name other (sym k.0)) h.0, distinct_last names name k.1 h.1)
  where
    neither : (a b : Bool) → (a || b) ≡ false → (a ≡ false) × (b ≡ false)
    neither true b e = absurd cc
    neither false b e = (refl, e)

    all_last : (xs : List (List ℕ)) → name ≢ other → AllByRecursion (λ y. y ≢ other) xs → AllByRecursion (λ y. y ≢ other) (xs ++ name ∷ [])
    all_last [] f g = (f, tt)
    all_last (x ∷ xs) f g = (g.0, all_last xs f g.1)

pub new_shortens : (names : List (List ℕ)) (t name r : List ℕ) → new_name_at names t ≡ Found name r → length r < length t
new_shortens names t name r e =
    (elim (quoted_at t) as (λ y. quoted_at t ≡ y → if_new names y ≡ Found name r → length r < length t) [
      | Found other q ↦ λ f g. by_test other q f (is_among other names) g
      | Stuck q ↦ λ f g. absurd cc
    ]) refl e
  where
    by_test : (other q : List ℕ) → quoted_at t ≡ Found other q → (b : Bool) → cond b (Stuck (34 ∷ q)) (Found other q) ≡ Found name r → length r < length t
    by_test other q f true g = absurd cc
    by_test other q f false g = subst (λ (l : List ℕ). length l < length t) (found_rest other name q r g) (closing t other q f).shorter

names_enough : (n m : ℕ) (names : List (List ℕ)) (t : List ℕ) → length t ≤ n → length t ≤ m → more_names_at n names t ≡ more_names_at m names t
names_enough zero zero names t le ge = refl
names_enough zero (suc m) names [] le ge = refl
names_enough zero (suc m) names (c ∷ t) le ge = absurd (omega (arith, le))
names_enough (suc n) zero names [] le ge = refl
names_enough (suc n) zero names (c ∷ t) le ge = absurd (omega (arith, ge))
names_enough (suc n) (suc m) names [] le ge = refl
names_enough (suc n) (suc m) names (c ∷ t) le ge =
    elim (eqb c 44) as (λ b. cond b (add_first (go_on (new_name_at names t) (λ name rest. with_first name (more_names_at n (names ++ name ∷ []) rest)))) (Found [] (c ∷ t)) ≡ cond b (add_first (go_on (new_name_at names t) (λ name rest. with_first name (more_names_at m (names ++ name ∷ []) rest)))) (Found [] (c ∷ t))) [
      | true ↦ (elim (new_name_at names t) as (λ y. new_name_at names t ≡ y → add_first (go_on y (λ name rest. with_first name (more_names_at n (names ++ name ∷ []) rest))) ≡ add_first (go_on y (λ name rest. with_first name (more_names_at m (names ++ name ∷ []) rest)))) [
        | Found name r ↦ λ e. ap (λ (y : Read (List (List ℕ))). add_first (with_first name y)) (names_enough n m (names ++ name ∷ []) r (omega (arith, le, new_shortens names t name r e)) (omega (arith, ge, new_shortens names t name r e)))
        | Stuck r ↦ λ e. refl
      ]) refl
      | false ↦ refl
    ]

names_onto : (n : ℕ) (names : List (List ℕ)) (y : Read (List ℕ)) (xs : List (List ℕ)) (r : List ℕ) → map_read (λ name. names ++ name ∷ []) y ≡ Found xs r → map_read (λ zs. names ++ zs) (add_first (go_on y (λ name rest. with_first name (more_names_at n (names ++ name ∷ []) rest)))) ≡ map_read (λ zs. xs ++ zs) (more_names_at n xs r)
names_onto n names (Stuck q) xs r e = absurd cc
names_onto n names (Found name q) xs r e =
    ap (map_read (λ zs. names ++ zs)) (firsts_are name (more_names_at n (names ++ name ∷ []) q)) ∙ append_front names name (more_names_at n (names ++ name ∷ []) q)
    ∙ ap (λ (l : List (List ℕ)). map_read (λ zs. l ++ zs) (more_names_at n l q)) (found_value (names ++ name ∷ []) xs q r e) ∙ ap (λ (l : List ℕ). map_read (λ zs. xs ++ zs) (more_names_at n xs l)) (found_rest (names ++ name ∷ []) xs q r e)

pub put_shortens : (names xs : List (List ℕ)) (t r : List ℕ) → map_read (λ name. names ++ name ∷ []) (new_name_at names t) ≡ Found xs r → length r < length t
put_shortens names xs t r e =
    (elim (new_name_at names t) as (λ y. new_name_at names t ≡ y → map_read (λ name. names ++ name ∷ []) y ≡ Found xs r → length r < length t) [
      | Found name q ↦ λ f g. subst (λ (l : List ℕ). length l < length t) (found_rest (names ++ name ∷ []) xs q r g) (new_shortens names t name q f)
      | Stuck q ↦ λ f g. absurd cc
    ]) refl e

-- one name more behind a comma
pub more_name : (names xs : List (List ℕ)) (t u r : List ℕ) (whole : Read (List (List ℕ))) → begins_with 44 t ≡ true → u ≡ cond (begins_with 44 t) (drop 1 t) t → map_read (λ name. names ++ name ∷ []) (new_name_at names u) ≡ Found xs r
    → map_read (λ zs. names ++ zs) (more_names_at (length t) names t) ≡ whole → map_read (λ zs. xs ++ zs) (more_names_at (length r) xs r) ≡ whole
more_name names xs [] u r whole b f e so_far = absurd cc
more_name names xs (c ∷ t) u r whole b f e so_far =
    let is : u ≡ t = f ∙ ap (λ (i : Bool). cond i t (c ∷ t)) b in
    let here : map_read (λ name. names ++ name ∷ []) (new_name_at names t) ≡ Found xs r = ap (λ (l : List ℕ). map_read (λ name. names ++ name ∷ []) (new_name_at names l)) (sym is) ∙ e in
    ap (map_read (λ zs. xs ++ zs)) (names_enough (length r) (length t) xs r (omega arith) (omega (arith, put_shortens names xs t r here)))
    ∙ sym (names_onto (length t) names (new_name_at names t) xs r here)
    ∙ ap (map_read (λ zs. names ++ zs)) (sym (ap (λ (i : Bool). cond i (add_first (go_on (new_name_at names t) (λ name rest. with_first name (more_names_at (length t) (names ++ name ∷ []) rest)))) (Found [] (c ∷ t))) b)) ∙ so_far

-- a name behind a comma is stuck
pub more_name_stuck : (names : List (List ℕ)) (t u r : List ℕ) (whole : Read (List (List ℕ))) → begins_with 44 t ≡ true → u ≡ cond (begins_with 44 t) (drop 1 t) t → map_read (λ name. names ++ name ∷ []) (new_name_at names u) ≡ Stuck r
    → map_read (λ zs. names ++ zs) (more_names_at (length t) names t) ≡ whole → whole ≡ Stuck r
more_name_stuck names [] u r whole b f e so_far = absurd cc
more_name_stuck names (c ∷ t) u r whole b f e so_far =
    let is : u ≡ t = f ∙ ap (λ (i : Bool). cond i t (c ∷ t)) b in
    sym so_far ∙ ap (λ (i : Bool). map_read (λ zs. names ++ zs) (cond i (add_first (go_on (new_name_at names t) (λ name rest. with_first name (more_names_at (length t) (names ++ name ∷ []) rest)))) (Found [] (c ∷ t)))) b
    ∙ by_read (new_name_at names t) (ap (λ (l : List ℕ). map_read (λ name. names ++ name ∷ []) (new_name_at names l)) (sym is) ∙ e)
  where
    by_read : (y : Read (List ℕ)) → map_read (λ name. names ++ name ∷ []) y ≡ Stuck r → map_read (λ zs. names ++ zs) (add_first (go_on y (λ name rest. with_first name (more_names_at (length t) (names ++ name ∷ []) rest)))) ≡ Stuck r
    by_read (Found name q) g = absurd cc
    by_read (Stuck q) g = ap (λ (l : List ℕ). (let y : Read (List (List ℕ)) = Stuck l in y)) (stuck_is q g)
      where
        stuck_is : (q : List ℕ) → (let y : Read (List (List ℕ)) = Stuck q in y) ≡ Stuck r → q ≡ r
        stuck_is q e = cc

new_of_none : (y : Read (List ℕ)) → if_new [] y ≡ y
new_of_none (Found name r) = refl
new_of_none (Stuck r) = refl

pub first_name : (xs : List (List ℕ)) (t r : List ℕ) → map_read (λ name. [] ++ name ∷ []) (new_name_at [] t) ≡ Found xs r → map_read (λ zs. xs ++ zs) (more_names_at (length r) xs r) ≡ list_at t
first_name xs t r e = by_read (quoted_at t) (ap (map_read (λ name. [] ++ name ∷ [])) (sym (new_of_none (quoted_at t))) ∙ e)
  where
    by_read : (y : Read (List ℕ)) → map_read (λ name. [] ++ name ∷ []) y ≡ Found xs r → map_read (λ zs. xs ++ zs) (more_names_at (length r) xs r) ≡ add_first (go_on y (λ name rest. with_first name (more_names_at (length rest) (name ∷ []) rest)))
    by_read (Stuck q) g = absurd cc
    by_read (Found name q) g =
        ap (λ (l : List ℕ). map_read (λ zs. xs ++ zs) (more_names_at (length l) xs l)) (sym (found_rest (name ∷ []) xs q r g))
        ∙ ap (λ (l : List (List ℕ)). map_read (λ zs. l ++ zs) (more_names_at (length q) l q)) (sym (found_value (name ∷ []) xs q r g))
        ∙ sym (firsts_are name (more_names_at (length q) (name ∷ []) q))

pub first_name_stuck : (t r : List ℕ) → map_read (λ name. [] ++ name ∷ []) (new_name_at [] t) ≡ Stuck r → list_at t ≡ Stuck r
first_name_stuck t r e = by_read (quoted_at t) (ap (map_read (λ name. [] ++ name ∷ [])) (sym (new_of_none (quoted_at t))) ∙ e)
  where
    by_read : (y : Read (List ℕ)) → map_read (λ name. [] ++ name ∷ []) y ≡ Stuck r → add_first (go_on y (λ name rest. with_first name (more_names_at (length rest) (name ∷ []) rest))) ≡ Stuck r
    by_read (Found name q) g = absurd cc
    by_read (Stuck q) g = ap (λ (l : List ℕ). (let y : Read (List (List ℕ)) = Stuck l in y)) (stuck_is q g)
      where
        stuck_is : (q : List ℕ) → (let y : Read (List (List ℕ)) = Stuck q in y) ≡ Stuck r → q ≡ r
        stuck_is q e = cc

take_all : (l : List ℕ) (n : ℕ) → n ≡ length l → take n l ≡ l
take_all [] n e = ap (λ (k : ℕ). take k []) e
take_all (c ∷ l) n e = ap (λ (k : ℕ). take k (c ∷ l)) e ∙ ap (λ (k : List ℕ). c ∷ k) (take_all l (length l) refl)

-- a name that stands among those before
pub repeated_name : (names : List (List ℕ)) (t name r u : List ℕ) (n : ℕ) → quoted_at t ≡ Found name r → is_among name names ≡ true → n ≡ length t - length r - 1 → u ≡ take (length t - n) (drop n t) → map_read (λ x. names ++ x ∷ []) (new_name_at names t) ≡ Stuck u
repeated_name names t name r u n e among at is =
    let k = closing t name r e in
    let sign : drop n t ≡ 34 ∷ r = ap (λ (m : ℕ). drop m t) at ∙ k.sign in
    let rest : take (length t - n) (drop n t) ≡ 34 ∷ r = ap (take (length t - n)) sign ∙ take_all (34 ∷ r) (length t - n) (omega (arith, k.shorter, at)) in
    ap (λ (y : Read (List ℕ)). map_read (λ x. names ++ x ∷ []) (if_new names y)) e
    ∙ ap (λ (b : Bool). map_read (λ x. names ++ x ∷ []) (cond b (Stuck (34 ∷ r)) (Found name r))) among
    ∙ ap (λ (l : List ℕ). (let y : Read (List (List ℕ)) = Stuck l in y)) (sym rest ∙ sym is)

pub distinct_put : (names xs : List (List ℕ)) (name : List ℕ) → is_among name names ≡ false → xs ≡ names ++ name ∷ [] → AreDistinct names → (0 < length xs) × AreDistinct xs
distinct_put names xs name e is h = (omega (arith, ap length is, length-append names (name ∷ [])), subst AreDistinct (sym is) (distinct_last names name e h))
