-- Reading a list of channels is right.
use Rattle.std.proofs.Common.{◌≡◌, ◌≢◌, ℕ, zero, suc, ◌+◌, ◌<◌, ◌≤◌, Bool, true, false, cond, eqb, List, [], ◌∷◌, ◌++◌, length, replicate, refl, sym, ap, subst, ◌∙◌, append_assoc, arith, length-append}
use Rattle.std.specs.Prelude.{◌||◌, bytes_eq}
use Rattle.std.specs.List.{flat_map, AllByRecursion}
use Rattle.std.specs.Cmp.Lexicographic.{same_text, other_text}
use Rattle.std.proofs.lemmas.Bool.{eqb-true, eqb-false, both_ways}
use Rattle.std.proofs.lemmas.Grind.{flat_map-append}
use Rattle.std.proofs.lemmas.List.{append-nil, length-replicate}
use Rattle.nc_types.specs.Channel.{AreDistinct}
use Rattle.nc_types.specs.Text.{quoted_byte, quoted}
use Rattle.nc_grammar.specs.Reading.{Read, Found, Stuck, go_on, with_first}
use Rattle.nc_grammar.specs.Quoted.{AreBytes, quoted_at}
use Rattle.nc_grammar.specs.Maybe.{add_first}
use Rattle.nc_grammar.specs.Whole.{IsLine}
use Rattle.nc_grammar.proofs.Split.{Split, longer, shorter, same, split, head_is, tail_is, not_nil}
use Rattle.nc_grammar.proofs.Exact.{Blocked, IsFound, IsStuck, IsRightReading, IsSet, IsExact, IsExact-same, Named, IsSet-named, IsRightReading-named}
use Rattle.nc_grammar.proofs.Seq.{Both, IsSeq, both_set, both_tells, either}
use Rattle.nc_grammar.proofs.Maybe.{NoDash}
use Rattle.nc_grammar.proofs.More.{IsMore, more_set, or_comma}
use Rattle.nc_grammar.specs.Label.{nothing}
use Rattle.nc_grammar.proofs.Forms.{text_form}
use Rattle.nc_journal_field.specs.Field.{list_text}
use Rattle.nc_types.specs.Written.{comma}
use Rattle.nc_journal_read.specs.Fit.{IsList}
use Rattle.nc_journal_list.specs.NameReader.{is_among, if_new, new_name_at, more_names_at, list_at}

abbrev Quote : List ℕ → List ℕ → Type 0
Quote = IsLine AreBytes quoted

abbrev body : List ℕ → List ℕ
body name = flat_map quoted_byte name

-- ---- a name that is longer than all others is none of them

abbrev total : List (List ℕ) → ℕ
total [] = 0
total (name ∷ names) = length name + total names

among_length : (name : List ℕ) (names : List (List ℕ)) → is_among name names ≡ true → length name ≤ total names
among_length name [] e = absurd cc
among_length name (other ∷ names) e =
    (elim (bytes_eq name other) as (λ b. bytes_eq name other ≡ b → (b || is_among name names) ≡ true → length name ≤ length other + total names) [
      | true ↦ λ g h. omega (arith, ap length (same_text name other (sym g)))
      | false ↦ λ g h. omega (arith, among_length name names h)
    ]) refl e

long_is_new : (name : List ℕ) (names : List (List ℕ)) → total names < length name → is_among name names ≡ false
long_is_new name names lt =
    (elim (is_among name names) as (λ b. is_among name names ≡ b → b ≡ false) [
      | true ↦ λ g. absurd (omega (arith, lt, among_length name names g))
      | false ↦ λ g. refl
    ]) refl

are_bytes : (a b : List ℕ) → AreBytes a → AreBytes b → AreBytes (a ++ b)
are_bytes [] b h k = k
are_bytes (c ∷ a) b h k = (h.0, are_bytes a b h.1 k)

letters_are_bytes : (n : ℕ) → AreBytes (replicate n 97)
letters_are_bytes zero = tt
letters_are_bytes (suc n) = (omega arith, letters_are_bytes n)

-- a name that is open can go on to one that is longer than n
record Longer (p : List ℕ) (n : ℕ) : Type 0 where
  name : List ℕ
  rest : List ℕ
  text : Quote name (p ++ rest)
  long : n < length name

-- the text of a name with w behind it, cut behind p
open_by : (b w p : List ℕ) (c : ℕ) (s : List ℕ) → Split p (c ∷ s) (34 ∷ body b) (34 ∷ []) → (q : List ℕ) × (quoted (b ++ w) ≡ p ++ q)
open_by b w p c s x =
    let whole : quoted (b ++ w) ≡ (34 ∷ body b) ++ (body w ++ (34 ∷ [])) = ap (λ (l : List ℕ). 34 ∷ l ++ (34 ∷ [])) (flat_map-append quoted_byte b w) ∙ append_assoc (34 ∷ body b) (body w) (34 ∷ []) in
    elim x [
      | longer d z h k ↦ absurd (omega (arith, ap length k, length-append z (c ∷ s)))
      | shorter d z h k ↦ ((d ∷ z) ++ (body w ++ (34 ∷ [])), whole ∙ ap (λ (l : List ℕ). l ++ (body w ++ (34 ∷ []))) h ∙ append_assoc p (d ∷ z) (body w ++ (34 ∷ [])))
      | same h k ↦ (body w ++ (34 ∷ []), whole ∙ ap (λ (l : List ℕ). l ++ (body w ++ (34 ∷ []))) (sym h))
    ]

open_name : (b p : List ℕ) (c : ℕ) (s : List ℕ) → Quote b (p ++ c ∷ s) → (n : ℕ) → Longer p n
open_name b p c s m n =
    let w : List ℕ = replicate (suc n) 97 in
    let x = open_by b (replicate (suc n) 97) p c s (split p (c ∷ s) (34 ∷ body b) (34 ∷ []) m.text) in
    record {
      name = b ++ replicate (suc n) 97;
      rest = x.0;
      text = record { fits = are_bytes b (replicate (suc n) 97) m.fits (letters_are_bytes (suc n)); text = sym x.1 };
      long = omega (arith, length-append b (replicate (suc n) 97), length-replicate {A = ℕ} (suc n) 97);
    }

-- ---- a name that is none of some

record IsNew (names : List (List ℕ)) (name u : List ℕ) : Type 0 where
  text : Quote name u
  new : is_among name names ≡ false

new_longer : (names : List (List ℕ)) (p : List ℕ) (x : Longer p (total names)) → IsNew names x.name (p ++ x.rest)
new_longer names p x = record { text = x.text; new = long_is_new x.name names x.long }

narrow : (names : List (List ℕ)) (p r : List ℕ) → Blocked Quote p r → Blocked (IsNew names) p r
narrow names p [] h = tt
narrow names p (c ∷ r) h = λ b s m. h b s m.text

-- the text of a name is closed, so nothing goes on behind it
closed : (a b u s : List ℕ) → Quote a u → Quote b (u ++ s) → a ≡ b
closed a b u [] m n = text_form.set.unique a b u m (subst (Quote b) (append-nil u) n)
closed a b u (c ∷ s) m n = absurd (both_ways (nothing c) refl (text_form.set.stay a b u c s m n))

new_found : (names : List (List ℕ)) (t name r : List ℕ) → IsFound Quote t name r → IsRightReading (IsNew names) t (if_new names (Found name r))
new_found names t name r f =
    (elim (is_among name names) as (λ b. is_among name names ≡ b → IsRightReading (IsNew names) t (cond b (Stuck (34 ∷ r)) (Found name r))) [
      | true ↦ λ e. repeated e
      | false ↦ λ e. record { front = f.front; text = record { text = f.text; new = e }; parts = f.parts; blocked = narrow names f.front r f.blocked }
    ]) refl
  where
    is : f.front ≡ (34 ∷ body name) ++ (34 ∷ [])
    is = f.text.text

    of_same : is_among name names ≡ true → (b s : List ℕ) → IsNew names b ((34 ∷ body name) ++ 34 ∷ s) → ⊥
    of_same e b s m =
        let whole : (34 ∷ body name) ++ 34 ∷ s ≡ f.front ++ s = sym (append_assoc (34 ∷ body name) (34 ∷ []) s) ∙ ap (λ (l : List ℕ). l ++ s) (sym is) in
        let one : name ≡ b = closed name b f.front s f.text (subst (Quote b) whole m.text) in
        both_ways (is_among name names) (subst (λ (l : List ℕ). is_among l names ≡ false) (sym one) m.new) e

    open_none : (b : List ℕ) → Quote b (34 ∷ body name) → ⊥
    open_none b m = both_ways (nothing 34) refl (text_form.set.stay b name (34 ∷ body name) 34 [] m (subst (Quote name) is f.text))

    repeated : is_among name names ≡ true → IsStuck (IsNew names) t (34 ∷ r)
    repeated e =
        let x = open_name name (34 ∷ body name) 34 [] (subst (Quote name) is f.text) (total names) in
        record {
          front = 34 ∷ body name;
          begun = record { value = x.name; rest = x.rest; text = new_longer names (34 ∷ body name) x };
          parts = f.parts ∙ ap (λ (l : List ℕ). l ++ r) is ∙ append_assoc (34 ∷ body name) (34 ∷ []) r;
          blocked = of_same e;
          none = λ b m. open_none b m.text;
        }

new_stuck : (names : List (List ℕ)) (t r : List ℕ) → IsStuck Quote t r → IsStuck (IsNew names) t r
new_stuck names t r m = by_rest m.begun.rest refl
  where
    by_rest : (q : List ℕ) → m.begun.rest ≡ q → IsStuck (IsNew names) t r
    by_rest [] e = absurd (m.none m.begun.value (subst (Quote m.begun.value) (ap (λ (l : List ℕ). m.front ++ l) e ∙ append-nil m.front) m.begun.text))
    by_rest (c ∷ s) e =
        let x = open_name m.begun.value m.front c s (subst (λ (l : List ℕ). Quote m.begun.value (m.front ++ l)) e m.begun.text) (total names) in
        record {
          front = m.front;
          begun = record { value = x.name; rest = x.rest; text = new_longer names m.front x };
          parts = m.parts;
          blocked = narrow names m.front r m.blocked;
          none = λ b k. m.none b k.text;
        }

new_tells : (names : List (List ℕ)) (t : List ℕ) → IsRightReading (IsNew names) t (new_name_at names t)
new_tells names t =
    (elim (quoted_at t) as (λ y. quoted_at t ≡ y → IsRightReading (IsNew names) t (if_new names y)) [
      | Found name r ↦ λ e. new_found names t name r (subst (λ (y : Read (List ℕ)). IsRightReading Quote t y) e (text_form.tells t))
      | Stuck r ↦ λ e. new_stuck names t r (subst (λ (y : Read (List ℕ)). IsRightReading Quote t y) e (text_form.tells t))
    ]) refl

new_set : (names : List (List ℕ)) → IsSet (IsNew names) nothing
new_set names =
    let x = open_name [] [] 34 (34 ∷ []) (record { fits = tt; text = refl }) (total names) in
    record {
      unique = λ a b u m n. text_form.set.unique a b u m.text n.text;
      stay = λ a b u c s m n. text_form.set.stay a b u c s m.text n.text;
      some = x.name;
      some_text = x.rest;
      has_some = new_longer names [] x;
    }

-- ---- names each behind a comma, none of which stands before

abbrev IsMoreNew : List (List ℕ) → List (List ℕ) → List ℕ → Type 0
IsMoreNew names [] u = u ≡ []
IsMoreNew names (x ∷ xs) u = (v w : List ℕ) × IsNew names x v × IsMoreNew (names ++ x ∷ []) xs w × (u ≡ 44 ∷ v ++ w)

any_more : (names xs : List (List ℕ)) (u : List ℕ) → IsMoreNew names xs u → IsMore Quote xs u
any_more names [] u m = m
any_more names (x ∷ xs) u m = (m.0, m.1, m.2.text, any_more (names ++ x ∷ []) xs m.1 m.3, m.4)

more_set_new : (names : List (List ℕ)) → IsSet (IsMoreNew names) (or_comma nothing)
more_set_new names =
    let x = more_set Quote nothing refl text_form.set in
    record {
      unique = λ a b u m n. x.unique a b u (any_more names a u m) (any_more names b u n);
      stay = λ a b u c s m n. x.stay a b u c s (any_more names a u m) (any_more names b (u ++ c ∷ s) n);
      some = [];
      some_text = [];
      has_some = refl;
    }

new_comma : (names xs : List (List ℕ)) (c : ℕ) (v : List ℕ) → IsMoreNew names xs (c ∷ v) → c ≡ 44
new_comma names [] c v m = absurd (not_nil c v m)
new_comma names (x ∷ xs) c v m = head_is c 44 v (m.0 ++ m.1) m.4

abbrev Behind : List (List ℕ) → List ℕ → List (List ℕ) → List ℕ → Type 0
Behind names name = IsMoreNew (names ++ name ∷ [])

abbrev Pair : List (List ℕ) → List ℕ × List (List ℕ) → List ℕ → Type 0
Pair names = Both (IsNew names) (Behind names)

new_seq : (names : List (List ℕ)) → IsSeq (IsNew names) (Behind names) nothing (or_comma nothing)
new_seq names = record { left = new_set names; right = λ a u h. more_set_new (names ++ a ∷ []); apart = λ a b c v h. refl }

comma_blocked : (names : List (List ℕ)) (p r : List ℕ) → Blocked (Pair names) p r → Blocked (IsMoreNew names) (44 ∷ p) r
comma_blocked names p [] b = tt
comma_blocked names p (c ∷ r) b = λ xs s m. by_list xs s m
  where
    by_list : (xs : List (List ℕ)) (s : List ℕ) → IsMoreNew names xs (44 ∷ p ++ c ∷ s) → ⊥
    by_list [] s m = not_nil 44 (p ++ c ∷ s) m
    by_list (a ∷ xs) s m = b (a, xs) s (record { left = m.0; right = m.1; first = m.2; second = m.3; parts = tail_is 44 44 (p ++ c ∷ s) (m.0 ++ m.1) m.4 })

comma_none : (names : List (List ℕ)) (p : List ℕ) → ((y : List ℕ × List (List ℕ)) → Pair names y p → ⊥) → (xs : List (List ℕ)) → IsMoreNew names xs (44 ∷ p) → ⊥
comma_none names p h [] m = not_nil 44 p m
comma_none names p h (a ∷ xs) m = h (a, xs) (record { left = m.0; right = m.1; first = m.2; second = m.3; parts = tail_is 44 44 p (m.0 ++ m.1) m.4 })

comma_text : (names : List (List ℕ)) (y : List ℕ × List (List ℕ)) (u : List ℕ) → Pair names y u → IsMoreNew names (y.0 ∷ y.1) (44 ∷ u)
comma_text names y u m = (m.left, m.right, m.first, m.second, ap (λ (l : List ℕ). 44 ∷ l) m.parts)

comma_tells : (names : List (List ℕ)) (t : List ℕ) (x : Read (List ℕ × List (List ℕ))) → IsRightReading (Pair names) t x → IsRightReading (IsMoreNew names) (44 ∷ t) (add_first x)
comma_tells names t (Found y r) m = record { front = 44 ∷ m.front; text = comma_text names y m.front m.text; parts = ap (λ (l : List ℕ). 44 ∷ l) m.parts; blocked = comma_blocked names m.front r m.blocked }
comma_tells names t (Stuck r) m =
    record {
      front = 44 ∷ m.front;
      begun = record { value = m.begun.value.0 ∷ m.begun.value.1; rest = m.begun.rest; text = comma_text names m.begun.value (m.front ++ m.begun.rest) m.begun.text };
      parts = ap (λ (l : List ℕ). 44 ∷ l) m.parts;
      blocked = comma_blocked names m.front r m.blocked;
      none = comma_none names m.front m.none;
    }

more_tells_new : (n : ℕ) (names : List (List ℕ)) (t : List ℕ) → length t ≤ n → IsRightReading (IsMoreNew names) t (more_names_at n names t)
more_tells_new zero names [] le = record { front = []; text = refl; parts = refl; blocked = tt }
more_tells_new zero names (c ∷ r) le = absurd (omega (arith, le))
more_tells_new (suc n) names [] le = record { front = []; text = refl; parts = refl; blocked = tt }
more_tells_new (suc n) names (c ∷ r) le =
    (elim (eqb c 44) as (λ b. eqb c 44 ≡ b → IsRightReading (IsMoreNew names) (c ∷ r) (cond b (add_first (go_on (new_name_at names r) (λ name rest. with_first name (more_names_at n (names ++ name ∷ []) rest)))) (Found [] (c ∷ r)))) [
      | true ↦ λ g. subst (λ (k : ℕ). IsRightReading (IsMoreNew names) (k ∷ r) (add_first (go_on (new_name_at names r) (λ name rest. with_first name (more_names_at n (names ++ name ∷ []) rest))))) (sym (eqb-true c 44 g))
          (comma_tells names r (go_on (new_name_at names r) (λ name rest. with_first name (more_names_at n (names ++ name ∷ []) rest)))
          (both_tells (IsNew names) (Behind names) nothing (or_comma nothing) (new_seq names) (λ name. more_names_at n (names ++ name ∷ [])) r (new_name_at names r)
          (λ name rest h. more_tells_new n (names ++ name ∷ []) rest (omega (arith, le, ap length h.parts, length-append h.front rest))) (new_tells names r)))
      | false ↦ λ g. record { front = []; text = refl; parts = refl; blocked = λ xs s m. eqb-false c 44 g (new_comma names xs c s m) }
    ]) refl

-- ---- the whole list

abbrev Whole : List ℕ × List (List ℕ) → List ℕ → Type 0
Whole = Both Quote (λ name. IsMoreNew (name ∷ []))

abbrev IsNames : List (List ℕ) → List ℕ → Type 0
IsNames = Named (λ (p : List ℕ × List (List ℕ)). p.0 ∷ p.1) Whole

whole_seq : IsSeq Quote (λ name. IsMoreNew (name ∷ [])) nothing (or_comma nothing)
whole_seq = record { left = text_form.set; right = λ a u h. more_set_new (a ∷ []); apart = λ a b c v h. refl }

abbrev list_stays : ℕ → Bool
list_stays = either nothing (or_comma nothing)

names_exact : IsExact IsNames (either nothing (or_comma nothing)) list_at
names_exact =
    record {
      set = IsSet-named (λ (p : List ℕ × List (List ℕ)). p.0 ∷ p.1) Whole list_stays (both_set Quote (λ name. IsMoreNew (name ∷ [])) nothing (or_comma nothing) whole_seq);
      tells = λ t. IsRightReading-named (λ (p : List ℕ × List (List ℕ)). p.0 ∷ p.1) Whole t (go_on (quoted_at t) (λ name rest. with_first name (more_names_at (length rest) (name ∷ []) rest)))
          (both_tells Quote (λ name. IsMoreNew (name ∷ [])) nothing (or_comma nothing) whole_seq (λ name rest. more_names_at (length rest) (name ∷ []) rest) t (quoted_at t)
          (λ name rest h. more_tells_new (length rest) (name ∷ []) rest (omega arith)) (text_form.tells t));
    }

-- ---- no name stands twice

abbrev AreNew : List (List ℕ) → List (List ℕ) → Type 0
AreNew names [] = Unit {0}
AreNew names (x ∷ xs) = (is_among x names ≡ false) × AreNew (names ++ x ∷ []) xs

among_last : (y : List ℕ) (names : List (List ℕ)) (x : List ℕ) → is_among y (names ++ x ∷ []) ≡ (is_among y names || bytes_eq y x)
among_last y [] x = or_false (bytes_eq y x)
  where
    or_false : (b : Bool) → (b || false) ≡ b
    or_false true = refl
    or_false false = refl
among_last y (other ∷ names) x = ap (λ (b : Bool). bytes_eq y other || b) (among_last y names x) ∙ or_assoc (bytes_eq y other) (is_among y names) (bytes_eq y x)
  where
    or_assoc : (a b c : Bool) → (a || (b || c)) ≡ ((a || b) || c)
    or_assoc true b c = refl
    or_assoc false b c = refl

neither : (a b : Bool) → (a || b) ≡ false → (a ≡ false) × (b ≡ false)
neither true b e = absurd cc
neither false b e = (refl, e)

both_false : (a b : Bool) → a ≡ false → b ≡ false → (a || b) ≡ false
both_false true b e f = absurd cc
both_false false b e f = f

not_same : (y x : List ℕ) → y ≢ x → bytes_eq y x ≡ false
not_same y x h =
    (elim (bytes_eq y x) as (λ b. bytes_eq y x ≡ b → b ≡ false) [
      | true ↦ λ g. absurd (h (same_text y x (sym g)))
      | false ↦ λ g. refl
    ]) refl

abbrev Others : List (List ℕ) → List (List ℕ) → Type 0
Others names xs = AllByRecursion (λ y. is_among y names ≡ false) xs

apart_there : (names : List (List ℕ)) (x : List ℕ) (xs : List (List ℕ)) → Others (names ++ x ∷ []) xs → Others names xs × AllByRecursion (λ y. y ≢ x) xs
apart_there names x [] h = (tt, tt)
apart_there names x (y ∷ xs) h =
    let k = neither (is_among y names) (bytes_eq y x) (sym (among_last y names x) ∙ h.0) in
    let more = apart_there names x xs h.1 in
    ((k.0, more.0), (other_text y x (sym k.1), more.1))

apart_back : (names : List (List ℕ)) (x : List ℕ) (xs : List (List ℕ)) → Others names xs → AllByRecursion (λ y. y ≢ x) xs → Others (names ++ x ∷ []) xs
apart_back names x [] h k = tt
apart_back names x (y ∷ xs) h k = (among_last y names x ∙ both_false (is_among y names) (bytes_eq y x) h.0 (not_same y x k.0), apart_back names x xs h.1 k.1)

new_there : (names xs : List (List ℕ)) → AreNew names xs → Others names xs × AreDistinct xs
new_there names [] h = (tt, tt)
new_there names (x ∷ xs) h =
    let more = new_there (names ++ x ∷ []) xs h.1 in
    let k = apart_there names x xs more.0 in
    ((h.0, k.0), (k.1, more.1))

new_back : (names xs : List (List ℕ)) → Others names xs → AreDistinct xs → AreNew names xs
new_back names [] h k = tt
new_back names (x ∷ xs) h k = (h.0, new_back (names ++ x ∷ []) xs (apart_back names x xs h.1 k.0) k.1)

first_back : (x : List ℕ) (xs : List (List ℕ)) → AllByRecursion (λ y. y ≢ x) xs → Others (x ∷ []) xs
first_back x xs h = apart_back [] x xs (none_among xs) h
  where
    none_among : (ys : List (List ℕ)) → Others [] ys
    none_among [] = tt
    none_among (y ∷ ys) = (refl, none_among ys)

record MoreNames (names xs : List (List ℕ)) (u : List ℕ) : Type 0 where
  bytes : AllByRecursion AreBytes xs
  new : AreNew names xs
  text : u ≡ flat_map (comma quoted) xs

more_there : (names xs : List (List ℕ)) (u : List ℕ) → IsMoreNew names xs u → MoreNames names xs u
more_there names [] u m = record { bytes = tt; new = tt; text = m }
more_there names (x ∷ xs) u m =
    let h = more_there (names ++ x ∷ []) xs m.1 m.3 in
    record { bytes = (m.2.text.fits, h.bytes); new = (m.2.new, h.new); text = m.4 ∙ ap (λ (l : List ℕ). 44 ∷ l ++ m.1) m.2.text.text ∙ ap (λ (l : List ℕ). 44 ∷ quoted x ++ l) h.text }

more_back : (names xs : List (List ℕ)) (u : List ℕ) → MoreNames names xs u → IsMoreNew names xs u
more_back names [] u m = m.text
more_back names (x ∷ xs) u m = (quoted x, flat_map (comma quoted) xs, record { text = record { fits = m.bytes.0; text = refl }; new = m.new.0 }, more_back (names ++ x ∷ []) xs (flat_map (comma quoted) xs) (record { bytes = m.bytes.1; new = m.new.1; text = refl }), m.text)

list_there : (xs : List (List ℕ)) (u : List ℕ) → IsNames xs u → IsLine IsList list_text xs u
list_there xs u m =
    let p = m.2 in
    let h = more_there (m.0.0 ∷ []) m.0.1 p.right p.second in
    let k = new_there [] (m.0.0 ∷ m.0.1) (refl, h.new) in
    subst (λ (ys : List (List ℕ)). IsLine IsList list_text ys u) (sym m.1) (record {
      fits = record { some = omega arith; distinct = k.1; bytes = (p.first.fits, h.bytes) };
      text = p.parts ∙ ap (λ (l : List ℕ). l ++ p.right) p.first.text ∙ ap (λ (l : List ℕ). quoted m.0.0 ++ l) h.text;
    })

list_back : (xs : List (List ℕ)) (u : List ℕ) → IsLine IsList list_text xs u → IsNames xs u
list_back [] u m = absurd (omega (arith, m.fits.some))
list_back (x ∷ xs) u m = (
  (x, xs),
  refl,
  record {
    left = quoted x;
    right = flat_map (comma quoted) xs;
    first = record { fits = m.fits.bytes.0; text = refl };
    second = more_back (x ∷ []) xs (flat_map (comma quoted) xs) (record { bytes = m.fits.bytes.1; new = new_back (x ∷ []) xs (first_back x xs m.fits.distinct.0) m.fits.distinct.1; text = refl });
    parts = m.text;
  },
)

pub list_form : IsExact (IsLine IsList list_text) (either nothing (or_comma nothing)) list_at
list_form = IsExact-same IsNames (IsLine IsList list_text) (either nothing (or_comma nothing)) list_at list_there list_back names_exact

pub list_no_dash : NoDash (IsLine IsList list_text)
list_no_dash = record { some = no_text; other = no_dash }
  where
    no_text : (xs : List (List ℕ)) → IsLine IsList list_text xs [] → ⊥
    no_text [] m = absurd (omega (arith, m.fits.some))
    no_text (x ∷ xs) m = not_nil 34 _ (sym m.text)

    no_dash : (xs : List (List ℕ)) (s : List ℕ) → IsLine IsList list_text xs (45 ∷ s) → ⊥
    no_dash [] s m = absurd (omega (arith, m.fits.some))
    no_dash (x ∷ xs) s m = absurd (omega (arith, head_is 45 34 s _ m.text))
