-- Sets as ascending lists: what is in them after one is put in or taken out.
use Rattle.std.proofs.Common.{◌≡◌, ℕ, ◌<◌, Bool, true, false, cond, not, List, [], ◌∷◌, ◌++◌, Ordering, refl, sym, ap, ◌∙◌, arith, take, drop, eqb}
use Rattle.std.specs.Prelude.{◌&&◌, ◌||◌, nat_eq}
use Rattle.std.specs.declared.cmp.Ordering.TheVariants.{Less, Equal, Greater}
use Rattle.std.specs.Cmp.{IsTotalOrder}
use Rattle.std.specs.Ordering.{is_eq, match_ordering, ordering_reverse, ordering_then, nat_cmp}
use Rattle.std.specs.List.{AllByRecursion, list_any}
use Rattle.std.specs.List.Sorted.{IsStrictlySortedBy}
use Rattle.std.specs.Set.{remove_key}
use Rattle.std.specs.BTreeMap.{is_at}
use Rattle.std.specs.BTreeSet.{insert_key}
use Rattle.std.proofs.lemmas.Bool.{true≢false, eq-eqb, ne_eqb, eqb-true}
use Rattle.std.proofs.lemmas.Cmp.{alike_right, ranked, nat_cmp_total, on_total, then_total}
use Rattle.std.proofs.lemmas.List.{take-append-drop}
use Rattle.std.proofs.lemmas.Map.Keys.{sorted_head, sorted_tail}
use Rattle.nc_owner.specs.declared.member.Member.{Member}
use Rattle.nc_owner.specs.Ascending.{place_above, with_number, has_number, with_new_number}
use Rattle.nc_owner.specs.Members.{member_cmp}
use Rattle.nc_owner_laws.specs.Filters.{is_same}
use Rattle.nc_owner_laws.proofs.Shelf.{lower, equal_is, sorted_cons, sorted_none}

twice : (a b : Bool) → (a || b) ≡ (a || (a || b))
twice true b = refl
twice false b = refl

swap : (a b c : Bool) → (a || (b || c)) ≡ (b || (a || c))
swap true true c = refl
swap true false c = refl
swap false b c = refl

module _ {K : Type 0} {R : K → K → Ordering} (o : IsTotalOrder R) where
  pub any_inserted : (q k : K) (ks : List K) → list_any (is_at (R q)) (insert_key R ks k) ≡ (is_eq (R q k) || list_any (is_at (R q)) ks)
  any_inserted q k [] = refl
  any_inserted q k (x ∷ ks) = by (R k x) refl (any_inserted q k ks)
    where
      by : (r : Ordering) → R k x ≡ r → list_any (is_at (R q)) (insert_key R ks k) ≡ (is_eq (R q k) || list_any (is_at (R q)) ks)
          → list_any (is_at (R q)) (match_ordering r (k ∷ x ∷ ks) (x ∷ ks) (x ∷ insert_key R ks k)) ≡ (is_eq (R q k) || (is_eq (R q x) || list_any (is_at (R q)) ks))
      by Less is h = refl
      by Equal is h = ap (λ b. is_eq b || list_any (is_at (R q)) ks) (sym (alike_right o k x q is)) ∙ twice (is_eq (R q k)) (list_any (is_at (R q)) ks) ∙ ap (λ b. is_eq (R q k) || (is_eq b || list_any (is_at (R q)) ks)) (alike_right o k x q is)
      by Greater is h = ap (λ b. is_eq (R q x) || b) h ∙ swap (is_eq (R q x)) (is_eq (R q k)) (list_any (is_at (R q)) ks)

  none_after : (q x : K) (ks : List K) → R q x ≡ Equal → AllByRecursion (λ y. R x y ≡ Less) ks → list_any (is_at (R q)) ks ≡ false
  none_after q x [] e a = refl
  none_after q x (y ∷ ks) e a = ap (λ r. is_eq r || list_any (is_at (R q)) ks) (o.congr q x y e ∙ a.0) ∙ none_after q x ks e a.1

  pub any_removed : (q k : K) (ks : List K) → IsStrictlySortedBy R ks → list_any (is_at (R q)) (remove_key (is_at (R k)) ks) ≡ (not (is_eq (R k q)) && list_any (is_at (R q)) ks)
  any_removed q k [] s = both (is_eq (R k q))
    where
      both : (b : Bool) → false ≡ (not b && false)
      both true = refl
      both false = refl
  any_removed q k (x ∷ ks) s = by (is_eq (R k x)) (is_eq (R k q)) (is_eq (R q x)) refl refl refl (any_removed q k ks (sorted_tail R x ks s))
    where
      by : (a b c : Bool) → is_eq (R k x) ≡ a → is_eq (R k q) ≡ b → is_eq (R q x) ≡ c → list_any (is_at (R q)) (remove_key (is_at (R k)) ks) ≡ (not (is_eq (R k q)) && list_any (is_at (R q)) ks)
          → list_any (is_at (R q)) (cond a ks (x ∷ remove_key (is_at (R k)) ks)) ≡ (not b && (c || list_any (is_at (R q)) ks))
      by true true c ea eb ec h = none_after q x ks (sym (o.congr k q x (equal_is (R k q) eb)) ∙ equal_is (R k x) ea) (sorted_head R x ks s)
      by true false true ea eb ec h = absurd (true≢false (sym (ap is_eq (alike_right o q x k (equal_is (R q x) ec)) ∙ ea) ∙ eb))
      by true false false ea eb ec h = refl
      by false true true ea eb ec h = absurd (true≢false (sym (ap is_eq (o.congr k q x (equal_is (R k q) eb)) ∙ ec) ∙ ea))
      by false true false ea eb ec h = ap (λ b. b || list_any (is_at (R q)) (remove_key (is_at (R k)) ks)) ec ∙ h ∙ ap (λ b. not b && list_any (is_at (R q)) ks) eb
      by false false c ea eb ec h = ap (λ b. b || list_any (is_at (R q)) (remove_key (is_at (R k)) ks)) ec ∙ ap (λ b. c || b) (h ∙ ap (λ b. not b && list_any (is_at (R q)) ks) eb)

  keys_kept : (P : K → Type 0) (test : K → Bool) (ks : List K) → AllByRecursion P ks → AllByRecursion P (remove_key test ks)
  keys_kept P test [] a = tt
  keys_kept P test (x ∷ ks) a = by (test x) (keys_kept P test ks a.1)
    where
      by : (b : Bool) → AllByRecursion P (remove_key test ks) → AllByRecursion P (cond b ks (x ∷ remove_key test ks))
      by true h = a.1
      by false h = (a.0, h)

  pub sorted_removed : (test : K → Bool) (ks : List K) → IsStrictlySortedBy R ks → IsStrictlySortedBy R (remove_key test ks)
  sorted_removed test [] s = sorted_none R
  sorted_removed test (x ∷ ks) s = by (test x) (sorted_removed test ks (sorted_tail R x ks s))
    where
      by : (b : Bool) → IsStrictlySortedBy R (remove_key test ks) → IsStrictlySortedBy R (cond b ks (x ∷ remove_key test ks))
      by true h = sorted_tail R x ks s
      by false h = sorted_cons R x (remove_key test ks) (keys_kept (λ y. R x y ≡ Less) test ks (sorted_head R x ks s)) h

  keys_put : (P : K → Type 0) (k : K) (ks : List K) → AllByRecursion P ks → P k → AllByRecursion P (insert_key R ks k)
  keys_put P k [] a p = (p, tt)
  keys_put P k (x ∷ ks) a p = by (R k x) (keys_put P k ks a.1 p)
    where
      by : (r : Ordering) → AllByRecursion P (insert_key R ks k) → AllByRecursion P (match_ordering r (k ∷ x ∷ ks) (x ∷ ks) (x ∷ insert_key R ks k))
      by Less h = (p, a)
      by Equal h = a
      by Greater h = (a.0, h)

  pub sorted_inserted : (k : K) (ks : List K) → IsStrictlySortedBy R ks → IsStrictlySortedBy R (insert_key R ks k)
  sorted_inserted k [] s = sorted_cons R k [] tt (sorted_none R)
  sorted_inserted k (x ∷ ks) s = by (R k x) refl (sorted_inserted k ks (sorted_tail R x ks s))
    where
      by : (r : Ordering) → R k x ≡ r → IsStrictlySortedBy R (insert_key R ks k) → IsStrictlySortedBy R (match_ordering r (k ∷ x ∷ ks) (x ∷ ks) (x ∷ insert_key R ks k))
      by Less is h = sorted_cons R k (x ∷ ks) (is, lower R o k x ks is (sorted_head R x ks s)) s
      by Equal is h = s
      by Greater is h = sorted_cons R x (insert_key R ks k) (keys_put (λ y. R x y ≡ Less) k ks (sorted_head R x ks s) (o.antisymm x k ∙ ap ordering_reverse is)) h

-- ---- members

pub member_total : IsTotalOrder member_cmp
member_total = then_total (on_total (λ (m : Member). m.from) nat_cmp_total) (on_total (λ (m : Member). m.k) nat_cmp_total)

number_is : (a b : ℕ) (r : Ordering) → r ≡ nat_cmp a b → is_eq r ≡ eqb a b
number_is a b Less e = let h : a < b = ranked a b Less e in sym (ne_eqb a b (λ same. omega (arith, h, same)))
number_is a b Equal e = let h : a ≡ b = ranked a b Equal e in sym (eq-eqb a b h)
number_is a b Greater e = let h : b < a = ranked a b Greater e in sym (ne_eqb a b (λ same. omega (arith, h, same)))

then_is : (r t : Ordering) → is_eq (ordering_then r t) ≡ (is_eq r && is_eq t)
then_is Less t = refl
then_is Equal t = refl
then_is Greater t = refl

pub member_is : (m : Member) (from k : ℕ) → is_eq (member_cmp m (record { from = from; k = k })) ≡ is_same m from k
member_is m from k = then_is (nat_cmp m.from from) (nat_cmp m.k k) ∙ (λ i. (number_is m.from from (nat_cmp m.from from) refl) i && (number_is m.k k (nat_cmp m.k k) refl) i)

-- ---- numbers

any_between : (test : ℕ → Bool) (xs ys : List ℕ) (x : ℕ) → list_any test (xs ++ x ∷ ys) ≡ (test x || list_any test (xs ++ ys))
any_between test [] ys x = refl
any_between test (y ∷ xs) ys x = ap (λ b. test y || b) (any_between test xs ys x) ∙ swap (test y) (test x) (list_any test (xs ++ ys))

pub has_with : (u x : ℕ) (xs : List ℕ) → has_number u (with_number xs x) ≡ (nat_eq u x || has_number u xs)
has_with u x xs = any_between (nat_eq u) (take (place_above x xs) xs) (drop (place_above x xs) xs) x ∙ ap (λ l. nat_eq u x || list_any (nat_eq u) l) (take-append-drop (place_above x xs) xs)

absorbed : (u x : ℕ) (xs : List ℕ) (b : Bool) → nat_eq u x ≡ b → has_number x xs ≡ true → has_number u xs ≡ (b || has_number u xs)
absorbed u x xs true e h = ap (λ k. has_number k xs) (eqb-true u x e) ∙ h
absorbed u x xs false e h = refl

pub has_with_new : (u x : ℕ) (xs : List ℕ) → has_number u (with_new_number xs x) ≡ (nat_eq u x || has_number u xs)
has_with_new u x xs = by (has_number x xs) refl
  where
    by : (b : Bool) → has_number x xs ≡ b → has_number u (cond b xs (with_number xs x)) ≡ (nat_eq u x || has_number u xs)
    by true h = absorbed u x xs (nat_eq u x) refl h
    by false h = has_with u x xs
