-- The rows of the other owners after a step, in the words of the floor.
use Rattle.std.proofs.Common.{◌≡◌, ◌≢◌, ℕ, false, cond, List, [], Result, Ok, Err, subst, arith}
use Rattle.std.specs.Prelude.{◌==◌, OnOk}
use Rattle.std.proofs.lemmas.Bool.Decides.{nat_tests}
use Rattle.nc_owner.specs.Pool.{SameOthers}

is_other : (v w : ℕ) → v ≢ w → (v == w) ≡ false
is_other v w apart = grind (arith, nat_tests)

module _ {X : Type 0} (me : ℕ) (old new : ℕ → List X) where
  -- they are as they were
  same_rows : SameOthers me old new → (o : ℕ) → o ≢ me → new o ≡ old o
  same_rows same o apart = subst (λ b. cond b [] (new o) ≡ cond b [] (old o)) (is_other o me apart) (λ i. same i o)

  -- so it is where a call answers well
  pub ok_same_rows : {T E : Type 0} → (result : Result T E) → OnOk result (SameOthers me old new) → OnOk result ((o : ℕ) → o ≢ me → new o ≡ old o)
  ok_same_rows (Ok x) same = same_rows same
  ok_same_rows (Err e) same = tt
