-- Maps, as one entry is taken out and put back.
use Rattle.std.proofs.Common.{◌≡◌, Bool, true, false, cond, List, [], ◌∷◌, Some, None, Ordering, refl, sym, ap, ◌∙◌}
use Rattle.std.specs.Prelude.{unwrap_or}
use Rattle.std.specs.declared.cmp.Ordering.TheVariants.{Less, Equal, Greater}
use Rattle.std.specs.Cmp.{IsTotalOrder}
use Rattle.std.specs.Ordering.{is_eq, match_ordering, ordering_reverse}
use Rattle.std.specs.List.{AllByRecursion}
use Rattle.std.specs.List.Sorted.{IsStrictlySortedBy}
use Rattle.std.specs.Map.{keys_of, values_of, lookup, remove_entry}
use Rattle.std.specs.BTreeMap.{insert_entry, is_at}
use Rattle.std.proofs.lemmas.Cmp.{tied_itself, eq_by_cmp_equiv}
use Rattle.std.proofs.lemmas.Map.{lookup-remove_entry}
use Rattle.std.proofs.lemmas.Map.Keys.{sorted_head, sorted_tail, IsDistinct-from_sorted}

pub sorted_cons : {K : Type 0} (R : K → K → Ordering) (k : K) (ks : List K) → AllByRecursion (λ y. R k y ≡ Less) ks → IsStrictlySortedBy R ks → IsStrictlySortedBy R (k ∷ ks)
unfolding IsStrictlySortedBy
sorted_cons R k ks a s = (a, s)

pub sorted_none : {K : Type 0} (R : K → K → Ordering) → IsStrictlySortedBy R []
unfolding IsStrictlySortedBy
sorted_none R = tt

pub lower : {K : Type 0} (R : K → K → Ordering) (o : IsTotalOrder R) (a b : K) (ks : List K) → R a b ≡ Less → AllByRecursion (λ y. R b y ≡ Less) ks → AllByRecursion (λ y. R a y ≡ Less) ks
lower R o a b [] l h = tt
lower R o a b (y ∷ ks) l h = (o.trans a b y l h.0, lower R o a b ks l h.1)

pub equal_is : (r : Ordering) → is_eq r ≡ true → r ≡ Equal
equal_is Less e = cc
equal_is Equal e = refl
equal_is Greater e = cc

is_eq_turned : (r : Ordering) → is_eq (ordering_reverse r) ≡ is_eq r
is_eq_turned Less = refl
is_eq_turned Equal = refl
is_eq_turned Greater = refl

pub turned : {K : Type 0} {R : K → K → Ordering} (o : IsTotalOrder R) (a b : K) → is_eq (R a b) ≡ is_eq (R b a)
turned {R = R} o a b = ap is_eq (o.antisymm a b) ∙ is_eq_turned (R b a)

module _ {K X : Type 0} where
  -- what holds of all keys or all values holds of those that stay
  pub keys_remove : (P : K → Type 0) (test : K → Bool) (es : List (K × X)) → AllByRecursion P (keys_of es) → AllByRecursion P (keys_of (remove_entry test es))
  keys_remove P test [] a = tt
  keys_remove P test (e ∷ es) a = by (test e.0) (keys_remove P test es a.1)
    where
      by : (b : Bool) → AllByRecursion P (keys_of (remove_entry test es)) → AllByRecursion P (keys_of (cond b es (e ∷ remove_entry test es)))
      by true h = a.1
      by false h = (a.0, h)

  pub values_remove : (P : X → Type 0) (test : K → Bool) (es : List (K × X)) → AllByRecursion P (values_of es) → AllByRecursion P (values_of (remove_entry test es))
  values_remove P test [] a = tt
  values_remove P test (e ∷ es) a = by (test e.0) (values_remove P test es a.1)
    where
      by : (b : Bool) → AllByRecursion P (values_of (remove_entry test es)) → AllByRecursion P (values_of (cond b es (e ∷ remove_entry test es)))
      by true h = a.1
      by false h = (a.0, h)

  pub values_lookup : (P : X → Type 0) (test : K → Bool) (es : List (K × X)) (d : X) → P d → AllByRecursion P (values_of es) → P (unwrap_or (lookup test es) d)
  values_lookup P test [] d p a = p
  values_lookup P test (e ∷ es) d p a = by (test e.0) (values_lookup P test es d p a.1)
    where
      by : (b : Bool) → P (unwrap_or (lookup test es) d) → P (unwrap_or (cond b (Some e.1) (lookup test es)) d)
      by true h = a.0
      by false h = h

  module _ (R : K → K → Ordering) (k : K) (v : X) where
    pub keys_insert : (P : K → Type 0) (es : List (K × X)) → AllByRecursion P (keys_of es) → P k → AllByRecursion P (keys_of (insert_entry R es k v))
    keys_insert P [] a p = (p, tt)
    keys_insert P (e ∷ es) a p = by (R k e.0) (keys_insert P es a.1 p)
      where
        by : (r : Ordering) → AllByRecursion P (keys_of (insert_entry R es k v)) → AllByRecursion P (keys_of (match_ordering r ((k, v) ∷ e ∷ es) ((e.0, v) ∷ es) (e ∷ insert_entry R es k v)))
        by Less h = (p, a)
        by Equal h = a
        by Greater h = (a.0, h)

    pub values_insert : (P : X → Type 0) (es : List (K × X)) → AllByRecursion P (values_of es) → P v → AllByRecursion P (values_of (insert_entry R es k v))
    values_insert P [] a p = (p, tt)
    values_insert P (e ∷ es) a p = by (R k e.0) (values_insert P es a.1 p)
      where
        by : (r : Ordering) → AllByRecursion P (values_of (insert_entry R es k v)) → AllByRecursion P (values_of (match_ordering r ((k, v) ∷ e ∷ es) ((e.0, v) ∷ es) (e ∷ insert_entry R es k v)))
        by Less h = (p, a)
        by Equal h = (p, a.1)
        by Greater h = (a.0, h)

  module _ {R : K → K → Ordering} (o : IsTotalOrder R) where
    pub sorted_remove : (test : K → Bool) (es : List (K × X)) → IsStrictlySortedBy R (keys_of es) → IsStrictlySortedBy R (keys_of (remove_entry test es))
    sorted_remove test [] s = sorted_none R
    sorted_remove test (e ∷ es) s = by (test e.0) (sorted_remove test es (sorted_tail R e.0 (keys_of es) s))
      where
        by : (b : Bool) → IsStrictlySortedBy R (keys_of (remove_entry test es)) → IsStrictlySortedBy R (keys_of (cond b es (e ∷ remove_entry test es)))
        by true h = sorted_tail R e.0 (keys_of es) s
        by false h = sorted_cons R e.0 (keys_of (remove_entry test es)) (keys_remove (λ y. R e.0 y ≡ Less) test es (sorted_head R e.0 (keys_of es) s)) h

    pub sorted_insert : (k : K) (v : X) (es : List (K × X)) → IsStrictlySortedBy R (keys_of es) → IsStrictlySortedBy R (keys_of (insert_entry R es k v))
    sorted_insert k v [] s = sorted_cons R k [] tt (sorted_none R)
    sorted_insert k v (e ∷ es) s = by (R k e.0) refl (sorted_insert k v es (sorted_tail R e.0 (keys_of es) s))
      where
        by : (r : Ordering) → R k e.0 ≡ r → IsStrictlySortedBy R (keys_of (insert_entry R es k v)) → IsStrictlySortedBy R (keys_of (match_ordering r ((k, v) ∷ e ∷ es) ((e.0, v) ∷ es) (e ∷ insert_entry R es k v)))
        by Less is h = sorted_cons R k (e.0 ∷ keys_of es) (is, lower R o k e.0 (keys_of es) is (sorted_head R e.0 (keys_of es) s)) s
        by Equal is h = s
        by Greater is h = sorted_cons R e.0 (keys_of (insert_entry R es k v)) (keys_insert R k v (λ y. R e.0 y ≡ Less) es (sorted_head R e.0 (keys_of es) s) (o.antisymm e.0 k ∙ ap ordering_reverse is)) h

    -- what is taken out is found no more
    pub lookup_removed : (k : K) (es : List (K × X)) → IsStrictlySortedBy R (keys_of es) → lookup (is_at (R k)) (remove_entry (is_at (R k)) es) ≡ None
    lookup_removed k es s =
        lookup-remove_entry (eq_by_cmp_equiv o) (is_at (R k)) (λ x y is. ap is_eq (o.congr k x y (equal_is (R k x) is))) k es (IsDistinct-from_sorted R (keys_of es) s)
        ∙ ap (λ b. cond b None (lookup (is_at (R k)) es)) (ap is_eq (tied_itself o k))

    -- what is put in is found, and what else is found stays
    pub lookup_inserted : (q k : K) (v : X) (es : List (K × X)) → lookup (is_at (R k)) es ≡ None → lookup (is_at (R q)) (insert_entry R es k v) ≡ cond (is_eq (R k q)) (Some v) (lookup (is_at (R q)) es)
    lookup_inserted q k v [] n = ap (λ b. cond b (Some v) None) (turned o q k)
    lookup_inserted q k v (e ∷ es) n = by (R k e.0) refl n (lookup_inserted q k v es)
      where
        by : (r : Ordering) → R k e.0 ≡ r → cond (is_eq r) (Some e.1) (lookup (is_at (R k)) es) ≡ None
            → (lookup (is_at (R k)) es ≡ None → lookup (is_at (R q)) (insert_entry R es k v) ≡ cond (is_eq (R k q)) (Some v) (lookup (is_at (R q)) es))
            → lookup (is_at (R q)) (match_ordering r ((k, v) ∷ e ∷ es) ((e.0, v) ∷ es) (e ∷ insert_entry R es k v)) ≡ cond (is_eq (R k q)) (Some v) (lookup (is_at (R q)) (e ∷ es))
        by Less is m h = ap (λ b. cond b (Some v) (lookup (is_at (R q)) (e ∷ es))) (turned o q k)
        by Equal is m h = absurd cc
        by Greater is m h = ap (cond (is_eq (R q e.0)) (Some e.1)) (h m) ∙ swap (is_eq (R q e.0)) (is_eq (R k q)) (λ a b. apart is a b)
          where
            swap : (a b : Bool) → (a ≡ true → b ≡ true → ⊥) → cond a (Some e.1) (cond b (Some v) (lookup (is_at (R q)) es)) ≡ cond b (Some v) (cond a (Some e.1) (lookup (is_at (R q)) es))
            swap true true f = absurd (f refl refl)
            swap true false f = refl
            swap false true f = refl
            swap false false f = refl

            apart : R k e.0 ≡ Greater → is_eq (R q e.0) ≡ true → is_eq (R k q) ≡ true → ⊥
            apart is a b = (let same : R k e.0 ≡ R q e.0 = o.congr k q e.0 (equal_is (R k q) b) in let bad : Greater ≡ Equal = sym is ∙ same ∙ equal_is (R q e.0) a in cc)

    pub lookup_other : (q k : K) (es : List (K × X)) → IsStrictlySortedBy R (keys_of es) → lookup (is_at (R q)) (remove_entry (is_at (R k)) es) ≡ cond (is_eq (R k q)) None (lookup (is_at (R q)) es)
    lookup_other q k es s = lookup-remove_entry (eq_by_cmp_equiv o) (is_at (R k)) (λ x y is. ap is_eq (o.congr k x y (equal_is (R k x) is))) q es (IsDistinct-from_sorted R (keys_of es) s)
