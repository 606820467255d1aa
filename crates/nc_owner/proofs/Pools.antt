-- What all owners have, and what all but one have.
use Rattle.std.proofs.Common.{◌≡◌, ◌≢◌, ℕ, Bool, true, false, List, [], refl, sym, ◌∙◌, ap, arith, cond}
use Rattle.std.specs.Prelude.{◌==◌}
use Rattle.std.proofs.lemmas.Bool.Decides.{nat_tests}
use Rattle.nc_owner.specs.Pool.{SameOthers}

-- what is the same of each owner is the same
pub all_same : {X : Type 0} → (old new : ℕ → List X) → ((o : ℕ) → new o ≡ old o) → new ≡ old
all_same old new same = λ i o. same o i

apart : (o me : ℕ) → (o == me) ≡ false → o ≢ me
apart o me is = grind (arith, nat_tests)

test_apart : (o me : ℕ) → o ≢ me → (o == me) ≡ false
test_apart o me ne = grind (arith, nat_tests)

same_at : {X : Type 0} → (o me : ℕ) (old new : List X) (b : Bool) → (o == me) ≡ b → (o ≢ me → new ≡ old) → cond b [] new ≡ cond b [] old
same_at o me old new true is same = refl
same_at o me old new false is same = same (apart o me is)

pub others_same : {X : Type 0} → (me : ℕ) (old new : ℕ → List X) → ((o : ℕ) → o ≢ me → new o ≡ old o) → SameOthers me old new
others_same me old new same = λ i o. same_at o me (old o) (new o) (o == me) refl (same o) i

-- each other owner has what it had
pub other_same : {X : Type 0} → (me : ℕ) (old new : ℕ → List X) → SameOthers me old new → (o : ℕ) → o ≢ me → new o ≡ old o
other_same {X = X} me old new same o apart_from =
    let is = test_apart o me apart_from in
    ap (λ (b : Bool). cond b [] (new o)) (sym is) ∙ (ap (λ (f : ℕ → List X). f o) same ∙ ap (λ (b : Bool). cond b [] (old o)) is)
