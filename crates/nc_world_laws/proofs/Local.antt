-- The events of one worker, and the local histories of all.
use Rattle.std.proofs.Common.{◌≡◌, ℕ, Bool, true, false, cond, List, [], ◌∷◌, ◌++◌, refl, ap, ◌∙◌, arith}
use Rattle.std.specs.Prelude.{◌==◌}
use Rattle.std.specs.List.{AllByRecursion}
use Rattle.std.proofs.lemmas.Bool.Decides.{nat_tests}
use Rattle.nc_journal.specs.History.{own, onto, is_by}
use Rattle.nc_journal.specs.declared.event.Event.{Event}
use Rattle.nc_journal.specs.declared.event.Event.TheVariants.{Clock, Opened, Got, Asked, Answered, Subscribed, Started, Joined, Parted, Raised, Stored, Left, Looked, Edged, Granted, Released, Freed, Removed, Sent, Ended, Replied, Wrote, Shut, Made, Took, Pending, Quiet}
use Rattle.nc_world_laws.proofs.WorkerKinds.{IsBy}

pub eqb_self : (n : ℕ) → (n == n) ≡ true
eqb_self n = grind (arith, nat_tests)

pub eq_of : (v w : ℕ) → (v == w) ≡ true → v ≡ w
eq_of v w e = grind (arith, nat_tests)

pub eqb_of : (v w : ℕ) → w ≡ v → (v == w) ≡ true
eqb_of v w is = ap (λ x. v == x) is ∙ eqb_self v

pub differs : (v w x : ℕ) → (v == w) ≡ false → (w == x) ≡ true → (v == x) ≡ false
differs v w x d b = grind (arith, nat_tests)

-- one of two, by a test
pub either : {X : Type 0} (P : X → Type 0) (b : Bool) (x y : X) → P x → P y → P (cond b x y)
either P true x y p q = p
either P false x y p q = q

-- ---- all of some events

pub all_of : {X : Type 0} (P Q : X → Type 0) → ((x : X) → P x → Q x) → (xs : List X) → AllByRecursion P xs → AllByRecursion Q xs
all_of P Q f [] a = tt
all_of P Q f (x ∷ xs) a = (f x a.0, all_of P Q f xs a.1)

pub all_append : {X : Type 0} (P : X → Type 0) (xs ys : List X) → AllByRecursion P xs → AllByRecursion P ys → AllByRecursion P (xs ++ ys)
all_append P [] ys a b = b
all_append P (x ∷ xs) ys a b = (a.0, all_append P xs ys a.1 b)

-- ---- local histories

-- what a worker does, no other does
pub other_by : (v w : ℕ) (e : Event) → (v == w) ≡ false → IsBy w e → is_by v e ≡ false
other_by v w (Clock x t) d b = differs v w x d b
other_by v w (Opened x conn) d b = differs v w x d b
other_by v w (Got x conn bytes) d b = differs v w x d b
other_by v w (Asked x r conn act list status rule) d b = differs v w x d b
other_by v w (Answered x r conn status info json close) d b = differs v w x d b
other_by v w (Subscribed x k conn list mode start timeout close) d b = differs v w x d b
other_by v w (Started x k cur) d b = differs v w x d b
other_by v w (Joined x c from k) d b = differs v w x d b
other_by v w (Parted x c from k) d b = differs v w x d b
other_by v w (Raised x t) d b = differs v w x d b
other_by v w (Stored x c id slot len exp kept members from r ct body) d b = differs v w x d b
other_by v w (Left x c id slot cause) d b = differs v w x d b
other_by v w (Looked x q from number c after floor found) d b = differs v w x d b
other_by v w (Edged x q from number k c floor last) d b = differs v w x d b
other_by v w (Granted x g slot to) d b = differs v w x d b
other_by v w (Released x owner g slot) d b = differs v w x d b
other_by v w (Freed x slot) d b = differs v w x d b
other_by v w (Removed x c last cause) d b = differs v w x d b
other_by v w (Sent x k i c id cur looks) d b = differs v w x d b
other_by v w (Ended x k cause) d b = differs v w x d b
other_by v w (Replied x conn bytes) d b = differs v w x d b
other_by v w (Wrote x conn bytes) d b = differs v w x d b
other_by v w (Shut x conn cause) d b = differs v w x d b
other_by v w (Made x to n a) d b = differs v w x d b
other_by v w (Took x from n a) d b = differs v w x d b
other_by v w (Pending n) d b = refl
other_by v w Quiet d b = refl

pub own_one : (w : ℕ) (e : Event) (h : List Event) → IsBy w e → own w (e ∷ h) ≡ e ∷ own w h
own_one w e h b = ap (λ x. cond x (e ∷ own w h) (own w h)) b

pub own_none : (v : ℕ) (e : Event) (h : List Event) → is_by v e ≡ false → own v (e ∷ h) ≡ own v h
own_none v e h b = ap (λ x. cond x (e ∷ own v h) (own v h)) b

-- a worker's events are put on its own history, and leave that of each other one
pub own_onto : (w : ℕ) (es h : List Event) → AllByRecursion (IsBy w) es → own w (onto es h) ≡ onto es (own w h)
own_onto w [] h by = refl
own_onto w (e ∷ es) h by = own_onto w es (e ∷ h) by.1 ∙ ap (onto es) (own_one w e h by.0)

pub own_other : (v w : ℕ) (es h : List Event) → (v == w) ≡ false → AllByRecursion (IsBy w) es → own v (onto es h) ≡ own v h
own_other v w [] h d by = refl
own_other v w (e ∷ es) h d by = own_other v w es (e ∷ h) d by.1 ∙ own_none v e h (other_by v w e d by.0)

pub own_twice : (w : ℕ) (h : List Event) → own w (own w h) ≡ own w h
own_twice w [] = refl
own_twice w (e ∷ h) = by (is_by w e) refl (own_twice w h)
  where
    by : (b : Bool) → is_by w e ≡ b → own w (own w h) ≡ own w h → own w (cond b (e ∷ own w h) (own w h)) ≡ cond b (e ∷ own w h) (own w h)
    by true i k = ap (λ b. cond b (e ∷ own w (own w h)) (own w (own w h))) i ∙ ap (λ (l : List Event). e ∷ l) k
    by false i k = k
