-- Lists cut at the first byte that a test tells.
use Rattle.std.proofs.Common.{◌≡◌, ℕ, ◌+◌, Bool, true, false, not, List, [], ◌∷◌, ◌++◌, length, drop, Option, Some, None, refl, sym, ◌∙◌, ap, arith, add-one, ◌⊎◌, inl, inr, subst}
use Rattle.std.specs.Prelude.{position, nat_lt, if◌then◌else◌}
use Rattle.std.specs.List.{list_all, take_while, prefix_len}
use Rattle.std.proofs.lemmas.List.Sums.{take_while-cons}
use Rattle.std.proofs.Math.Seq.{take-append_seam}
use Rattle.std.proofs.lemmas.Bool.Decides.{nat_tests}
use Rattle.nc_conf_lex.specs.Byte.{ends_word, goes_on, is_refused, is_allowed, may_follow}
use Rattle.nc_conf_lex.proofs.Bytes.{both}

-- the first refused byte of a list, with what stands before and behind it
pub record Refused (xs : List ℕ) (n : ℕ) : Type 0 where
  pub before : List ℕ
  pub byte : ℕ
  pub later : List ℕ
  pub split : xs ≡ before ++ byte ∷ later
  pub allowed : list_all is_allowed before ≡ true
  pub refused : is_refused byte ≡ true
  pub place : n ≡ length before

abbrev pub Refuses : List ℕ → Option ℕ → Type 0
Refuses xs None = list_all is_allowed xs ≡ true
Refuses xs (Some n) = Refused xs n

below_more : (m n : ℕ) → nat_lt (1 + m) (1 + n) ≡ nat_lt m n
below_more m n = grind (arith, nat_tests)

not_below : (n : ℕ) → nat_lt n n ≡ false
not_below n = grind (arith, nat_tests)

below : (m n : ℕ) → nat_lt m (m + 1 + n) ≡ true
below m n = grind (arith, nat_tests)

-- the place is what the std word says
abbrev Place : List ℕ → ℕ → Type 0
Place xs n = Refused xs n ⊎ ((n ≡ length xs) × (list_all is_allowed xs ≡ true))

one_more : (x : ℕ) (xs : List ℕ) (n : ℕ) → is_refused x ≡ false → Place xs n → Place (x ∷ xs) (1 + n)
one_more x xs n e (inl h) = inl (record {
  before = x ∷ h.before;
  byte = h.byte;
  later = h.later;
  split = ap (λ (l : List ℕ). x ∷ l) h.split;
  allowed = rw (e, h.allowed) refl;
  refused = h.refused;
  place = omega (arith, h.place);
})
one_more x xs n e (inr h) = inr (omega (arith, h.0), rw (e, h.1) refl)

at_once : (x : ℕ) (xs : List ℕ) → is_refused x ≡ true → Place (x ∷ xs) 0
at_once x xs e = inl (record { before = []; byte = x; later = xs; split = refl; allowed = refl; refused = e; place = refl })

places : (xs : List ℕ) → Place xs (prefix_len is_allowed xs)
places [] = inr (refl, refl)
places (x ∷ xs) =
    (elim (is_refused x) as (λ t. is_refused x ≡ t → Place (x ∷ xs) (if not t then 1 + prefix_len is_allowed xs else 0)) [
      | true ↦ λ e. at_once x xs e
      | false ↦ λ e. one_more x xs (prefix_len is_allowed xs) e (places xs)
    ]) refl

pub none_refused : (xs : List ℕ) → list_all is_allowed xs ≡ true → position is_refused xs ≡ None
none_refused xs h = rw (all_len xs h, not_below (length xs)) refl
  where
    all_len : (ys : List ℕ) → list_all is_allowed ys ≡ true → prefix_len is_allowed ys ≡ length ys
    all_len [] k = refl
    all_len (y ∷ ys) k =
        let here = both (is_allowed y) (list_all is_allowed ys) k in
        rw here.0 (omega (arith, all_len ys here.1))

pub one_refused : (before : List ℕ) (byte : ℕ) (later : List ℕ) → list_all is_allowed before ≡ true → is_refused byte ≡ true → position is_refused (before ++ byte ∷ later) ≡ Some (length before)
one_refused before byte later h r =
    let long : nat_lt (length before) (length (before ++ byte ∷ later)) ≡ true = longer before in
    rw (len before h, long) refl
  where
    len : (ys : List ℕ) → list_all is_allowed ys ≡ true → prefix_len is_allowed (ys ++ byte ∷ later) ≡ length ys
    len [] k = rw r refl
    len (y ∷ ys) k =
        let here = both (is_allowed y) (list_all is_allowed ys) k in
        rw here.0 (omega (arith, len ys here.1))

    longer : (ys : List ℕ) → nat_lt (length ys) (length (ys ++ byte ∷ later)) ≡ true
    longer [] = grind (arith, nat_tests)
    longer (y ∷ ys) = grind (arith, nat_tests, longer ys)

pub refuses : (xs : List ℕ) → Refuses xs (position is_refused xs)
refuses xs = by_place (places xs)
  where
    by_place : Place xs (prefix_len is_allowed xs) → Refuses xs (position is_refused xs)
    by_place (inl h) =
        subst (λ (o : Option ℕ). Refuses xs o) (sym (ap (λ (l : List ℕ). position is_refused l) h.split ∙ one_refused h.before h.byte h.later h.allowed h.refused))
        (record { before = h.before; byte = h.byte; later = h.later; split = h.split; allowed = h.allowed; refused = h.refused; place = refl })
    by_place (inr h) = subst (λ (o : Option ℕ). Refuses xs o) (sym (none_refused xs h.1)) h.1

-- the bytes up to the first that ends a word

pub taken_through : (xs ys : List ℕ) → list_all goes_on xs ≡ true → take_while goes_on (xs ++ ys) ≡ xs ++ take_while goes_on ys
taken_through [] ys h = refl
taken_through (x ∷ xs) ys h =
    let here = both (goes_on x) (list_all goes_on xs) h in
    take_while-cons goes_on x (xs ++ ys) ∙ rw (here.0, taken_through xs ys here.1) refl

pub taken_whole : (xs after : List ℕ) → list_all goes_on xs ≡ true → may_follow after ≡ true → take_while goes_on (xs ++ after) ≡ xs
taken_whole xs after h k = rw (len xs h) (take-append_seam xs after)
  where
    stops : (bs : List ℕ) → may_follow bs ≡ true → prefix_len goes_on bs ≡ 0
    stops [] f = refl
    stops (b ∷ bs) f = rw f refl

    len : (ys : List ℕ) → list_all goes_on ys ≡ true → prefix_len goes_on (ys ++ after) ≡ length ys
    len [] f = stops after k
    len (y ∷ ys) f =
        let here = both (goes_on y) (list_all goes_on ys) f in
        rw here.0 (omega (arith, len ys here.1))

pub all_taken : (xs : List ℕ) → list_all goes_on (take_while goes_on xs) ≡ true
all_taken [] = refl
all_taken (x ∷ xs) = subst (λ (l : List ℕ). list_all goes_on l ≡ true) (sym (take_while-cons goes_on x xs)) (by_test (goes_on x) refl (all_taken xs))
  where
    by_test : (t : Bool) → goes_on x ≡ t → list_all goes_on (take_while goes_on xs) ≡ true → list_all goes_on (if t then x ∷ take_while goes_on xs else []) ≡ true
    by_test true e ih = rw (e, ih) refl
    by_test false e ih = refl

pub follows : (xs : List ℕ) → may_follow (drop (prefix_len goes_on xs) xs) ≡ true
follows [] = refl
follows (x ∷ xs) = by_test (goes_on x) refl (follows xs)
  where
    one_more_is : (n : ℕ) → 1 + n ≡ n + 1
    one_more_is n = omega arith

    ends : (b : ℕ) → goes_on b ≡ false → ends_word b ≡ true
    ends b k = grind (arith, nat_tests)

    by_test : (t : Bool) → goes_on x ≡ t → may_follow (drop (prefix_len goes_on xs) xs) ≡ true → may_follow (drop (prefix_len goes_on (x ∷ xs)) (x ∷ xs)) ≡ true
    by_test true e h = rw (e, one_more_is (prefix_len goes_on xs), add-one) h
    by_test false e h = rw e (ends x e)
