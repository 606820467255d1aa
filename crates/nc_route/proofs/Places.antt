-- The location that is looked for is the location of a path.
use Rattle.std.proofs.Common.{◌≡◌, ℕ, ◌<◌, ◌≤◌, Bool, true, false, List, [], ◌∷◌, ◌++◌, length, Option, Some, None, refl, sym, ◌∙◌, ap, subst, inl, inr, arith, append_assoc}
use Rattle.std.specs.Prelude.{cond, nat_lt, ◌&&◌, fold}
use Rattle.std.specs.List.{AllByRecursion, find}
use Rattle.std.specs.Option.{option_or}
use Rattle.std.proofs.lemmas.Bool.{both_ways}
use Rattle.std.proofs.lemmas.List.{append-nil}
use Rattle.nc_types.specs.declared.config.Location.{Location}
use Rattle.nc_route.specs.Place.{is_exactly, is_front, NoneOf, IsFirstPassing, IsLongest, IsLocationOf}
use Rattle.nc_route.specs.Steps.{longer, longest, location_of}

-- ---- the first that passes a test

-- the first, or none
abbrev IsFound : (Location → Bool) → List Location → Option Location → Type 0
IsFound test ls None = NoneOf test ls
IsFound test ls (Some l) = IsFirstPassing test ls l

behind : (test : Location → Bool) (x : Location) (ls : List Location) (o : Option Location) → test x ≡ false → IsFound test ls o → IsFound test (x ∷ ls) o
behind test x ls None e h = (e, h)
behind test x ls (Some l) e h = record {
  earlier = x ∷ h.earlier;
  later = h.later;
  place = ap (λ (more : List Location). x ∷ more) h.place;
  passes = h.passes;
  none = (e, h.none);
}

found : (test : Location → Bool) (ls : List Location) → IsFound test ls (find test ls)
found test [] = tt
found test (x ∷ ls) =
    (elim (test x) as (λ b. test x ≡ b → IsFound test (x ∷ ls) (cond b (Some x) (find test ls))) [
      | true ↦ λ e. record { earlier = []; later = ls; place = refl; passes = e; none = tt }
      | false ↦ λ e. behind test x ls (find test ls) e (found test ls)
    ]) refl

-- ---- the longest

abbrev IsBest : List ℕ → List Location → Option Location → Type 0
IsBest path ls None = NoneOf (is_front path) ls
IsBest path ls (Some l) = IsLongest path ls l

all_and_one : (P : Location → Type 0) (ls : List Location) (x : Location) → AllByRecursion P ls → P x → AllByRecursion P (ls ++ x ∷ [])
all_and_one P [] x h p = (p, tt)
all_and_one P (l ∷ ls) x h p = (h.0, all_and_one P ls x h.1 p)

all_of_both : (P : Location → Type 0) (xs ys : List Location) → AllByRecursion P xs → AllByRecursion P ys → AllByRecursion P (xs ++ ys)
all_of_both P [] ys h k = k
all_of_both P (x ∷ xs) ys h k = (h.0, all_of_both P xs ys h.1 k)

weaker : (P Q : Location → Type 0) (ls : List Location) → ((l : Location) → P l → Q l) → AllByRecursion P ls → AllByRecursion Q ls
weaker P Q [] f h = tt
weaker P Q (l ∷ ls) f h = (f l h.0, weaker P Q ls f h.1)

lt_of : (a b : ℕ) → nat_lt a b ≡ true → a < b
lt_of a b e = grind (arith, e)

le_of : (a b : ℕ) → nat_lt a b ≡ false → b ≤ a
le_of a b e = grind (arith, e)

-- a first one that begins the path
first_one : (path : List ℕ) (ls : List Location) (x : Location) → NoneOf (is_front path) ls → is_front path x ≡ true → IsLongest path (ls ++ x ∷ []) x
first_one path ls x none e = record {
  earlier = ls;
  later = [];
  place = refl;
  begins = e;
  shorter = weaker (λ l. is_front path l ≡ false) (λ other. is_front path other ≡ true → length other.path < length x.path) ls (λ l f g. absurd (both_ways (is_front path l) f g)) none;
  no_longer = tt;
}

-- a longer one
longer_one : (path : List ℕ) (ls : List Location) (best x : Location) → IsLongest path ls best → is_front path x ≡ true → length best.path < length x.path → IsLongest path (ls ++ x ∷ []) x
longer_one path ls best x h e lt = record {
  earlier = ls;
  later = [];
  place = refl;
  begins = e;
  shorter = subst (λ (all : List Location). AllByRecursion (λ other. is_front path other ≡ true → length other.path < length x.path) all) (sym h.place)
      (all_of_both (λ other. is_front path other ≡ true → length other.path < length x.path) h.earlier (best ∷ h.later)
      (weaker (λ other. is_front path other ≡ true → length other.path < length best.path) (λ other. is_front path other ≡ true → length other.path < length x.path) h.earlier (λ l f g. omega (arith, f g, lt)) h.shorter)
      (λ g. lt, weaker (λ other. is_front path other ≡ true → length other.path ≤ length best.path) (λ other. is_front path other ≡ true → length other.path < length x.path) h.later (λ l f g. omega (arith, f g, lt)) h.no_longer));
  no_longer = tt;
}

-- one that isn't longer
other_one : (path : List ℕ) (ls : List Location) (best x : Location) → IsLongest path ls best → (is_front path x ≡ true → length x.path ≤ length best.path) → IsLongest path (ls ++ x ∷ []) best
other_one path ls best x h le = record {
  earlier = h.earlier;
  later = h.later ++ x ∷ [];
  place = ap (λ (all : List Location). all ++ x ∷ []) h.place ∙ append_assoc h.earlier (best ∷ h.later) (x ∷ []);
  begins = h.begins;
  shorter = h.shorter;
  no_longer = all_and_one (λ other. is_front path other ≡ true → length other.path ≤ length best.path) h.later x h.no_longer le;
}

one_more : (path : List ℕ) (ls : List Location) (best : Option Location) (x : Location) → IsBest path ls best → IsBest path (ls ++ x ∷ []) (longer path best x)
one_more path ls None x h =
    (elim (is_front path x) as (λ b. is_front path x ≡ b → IsBest path (ls ++ x ∷ []) (cond b (Some x) None)) [
      | true ↦ λ e. first_one path ls x h e
      | false ↦ λ e. all_and_one (λ l. is_front path l ≡ false) ls x h e
    ]) refl
one_more path ls (Some best) x h =
    (elim (is_front path x) as (λ b. is_front path x ≡ b → IsBest path (ls ++ x ∷ []) (cond (b && nat_lt (length best.path) (length x.path)) (Some x) (Some best))) [
      | true ↦ λ e. (elim (nat_lt (length best.path) (length x.path)) as (λ b. nat_lt (length best.path) (length x.path) ≡ b → IsBest path (ls ++ x ∷ []) (cond b (Some x) (Some best))) [
        | true ↦ λ f. longer_one path ls best x h e (lt_of (length best.path) (length x.path) f)
        | false ↦ λ f. other_one path ls best x h (λ g. le_of (length best.path) (length x.path) f)
      ]) refl
      | false ↦ λ e. other_one path ls best x h (λ g. absurd (both_ways (is_front path x) e g))
    ]) refl

best_of : (path : List ℕ) (seen ls : List Location) (best : Option Location) → IsBest path seen best → IsBest path (seen ++ ls) (fold (longer path) best ls)
best_of path seen [] best h = subst (λ (all : List Location). IsBest path all best) (sym (append-nil seen)) h
best_of path seen (x ∷ ls) best h =
    subst (λ (all : List Location). IsBest path all (fold (longer path) (longer path best x) ls)) (append_assoc seen (x ∷ []) ls)
    (best_of path (seen ++ x ∷ []) ls (longer path best x) (one_more path seen best x h))

-- ---- both

either : (path : List ℕ) (ls : List Location) (exact best : Option Location) → IsFound (is_exactly path) ls exact → IsBest path ls best → IsLocationOf path ls (option_or exact best)
either path ls (Some l) best h k = inl h
either path ls None (Some l) h k = inr (h, k)
either path ls None None h k = (h, k)

pub is_location : (path : List ℕ) (ls : List Location) → IsLocationOf path ls (location_of path ls)
is_location path ls = either path ls (find (is_exactly path) ls) (longest path ls) (found (is_exactly path) ls) (best_of path [] ls None tt)
