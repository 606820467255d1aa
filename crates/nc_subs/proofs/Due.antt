-- Who is due: nobody where the first one is none, and else nobody with a lower number.
use Rattle.std.proofs.Common.{◌≡◌, ℕ, ◌≤◌, Bool, true, false, cond, List, [], ◌∷◌, refl, None, Some, All, arith}
use Rattle.std.specs.List.{AllByRecursion}
use Rattle.std.specs.List.Sorted.{IsStrictlySortedBy}
use Rattle.std.specs.Ordering.{nat_cmp}
use Rattle.std.specs.declared.cmp.Ordering.TheVariants.{Less}
use Rattle.std.specs.Map.{keys_of}
use Rattle.std.proofs.lemmas.List.Elements.{All-head, All-tail}
use Rattle.std.proofs.lemmas.Map.Keys.{sorted_tail}
use Rattle.std.proofs.lemmas.Map.Views.{All-after_first}
use Rattle.std.proofs.lemmas.Bool.Decides.{nat_tests}
use Rattle.nc_subs.specs.declared.sub.Sub.{Sub}
use Rattle.nc_subs.specs.Subs.{is_due, due_of, NoneDue, IsLeastDue}

pub none-due : (now : ℕ) (subs : List (ℕ × Sub)) → due_of now subs ≡ None → NoneDue now subs
none-due now [] e = tt
none-due now (sub ∷ subs) e = by (is_due now sub.1) refl e (λ f. none-due now subs f)
  where
    by : (t : Bool) → is_due now sub.1 ≡ t → cond t (Some sub.0) (due_of now subs) ≡ None → (due_of now subs ≡ None → NoneDue now subs) → NoneDue now (sub ∷ subs)
    by true was e rest = absurd cc
    by false was e rest = (was, rest e)

-- whoever stands behind a number in ascending order has a greater one
behind : (k : ℕ) (subs : List (ℕ × Sub)) → All (λ q. nat_cmp k q ≡ Less) (keys_of subs) → AllByRecursion (λ sub. k ≤ sub.0) subs
behind k [] a = tt
behind k (sub ∷ subs) a = (upto (head-of a), behind k subs (All-tail (λ q. nat_cmp k q ≡ Less) sub.0 (keys_of subs) a))
  where
    head-of : All (λ q. nat_cmp k q ≡ Less) (sub.0 ∷ keys_of subs) → nat_cmp k sub.0 ≡ Less
    head-of a = All-head (λ q. nat_cmp k q ≡ Less) sub.0 (keys_of subs) a

    upto : nat_cmp k sub.0 ≡ Less → k ≤ sub.0
    upto e = grind (arith, nat_tests)

pub least-due : (now k : ℕ) (subs : List (ℕ × Sub)) → IsStrictlySortedBy nat_cmp (keys_of subs) → due_of now subs ≡ Some k → IsLeastDue now k subs
least-due now k [] sorted e = tt
least-due now k (sub ∷ subs) sorted e = by (is_due now sub.1) refl e (λ f. least-due now k subs (sorted_tail nat_cmp sub.0 (keys_of subs) sorted) f)
  where
    ordered : AllByRecursion (λ x. sub.0 ≤ x.0) subs
    ordered = behind sub.0 subs (All-after_first nat_cmp sub.0 (keys_of subs) sorted)

    all : (xs : List (ℕ × Sub)) → sub.0 ≡ k → AllByRecursion (λ x. sub.0 ≤ x.0) xs → IsLeastDue now k xs
    all [] same a = tt
    all (x ∷ xs) same a = let upto = a.0 in ((λ due. omega (arith, upto, same)), all xs same a.1)

    by : (t : Bool) → is_due now sub.1 ≡ t → cond t (Some sub.0) (due_of now subs) ≡ Some k → (due_of now subs ≡ Some k → IsLeastDue now k subs) → IsLeastDue now k (sub ∷ subs)
    by true was e rest = let same : sub.0 ≡ k = cc in ((λ due. omega (arith, same)), all subs same ordered)
    by false was e rest = ((λ due. let wrong : false ≡ true = cc in absurd cc), rest e)
