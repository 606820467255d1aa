-- Where the numbers of holds are told, a leaving slot that is held once it has left was held before.
use Rattle.std.proofs.Common.{◌≡◌, ℕ, zero, ◌+◌, Bool, true, false, cond, not, List, [], ◌∷◌, refl, sym, ap, ◌∙◌, arith, map, filter, eqb}
use Rattle.std.specs.Prelude.{◌==◌, slice_index}
use Rattle.std.proofs.lemmas.Bool.{true≢false, eqb-true}
use Rattle.nc_owner.specs.declared.poll.PollAnswer.{PollAnswer}
use Rattle.nc_owner.specs.Ascending.{ascending}
use Rattle.nc_owner.specs.Poll.{slot_of, is_held, held_slots, told_answer}
use Rattle.nc_owner.specs.Publish.{leaving, slots_of, publish_cleared}
use Rattle.nc_owner_laws.specs.Used.{bit, times}
use Rattle.nc_owner_laws.specs.Keeping.{ToldHoldsFall}
use Rattle.nc_owner_laws.proofs.Room.{times-ascending}

-- of polled slots, those that are held, where the numbers of holds are told
held_told : (counts : List ℕ) (s : ℕ) (ks : List ℕ) → times s (held_slots (map (told_answer counts) ks)) ≡ cond (slice_index counts s == 0) 0 (times s ks)
held_told counts s [] = cond_same (slice_index counts s == 0)
  where
    cond_same : (b : Bool) → zero ≡ cond b zero zero
    cond_same true = refl
    cond_same false = refl
held_told counts s (k ∷ ks) =
    with_answer (not (slice_index counts k == 0)) (told_answer counts k) (filter is_held (map (told_answer counts) ks))
    ∙ step (slice_index counts k == 0) (slice_index counts s == 0) (eqb k s) (times s (held_slots (map (told_answer counts) ks))) (times s ks) (λ e. ap (λ n. slice_index counts n == 0) (sym (eqb-true k s e))) (held_told counts s ks)
  where
    with_answer : (b : Bool) (a : PollAnswer) (rest : List PollAnswer) → times s (map slot_of (cond b (a ∷ rest) rest)) ≡ cond b (bit (eqb a.slot s) + times s (map slot_of rest)) (times s (map slot_of rest))
    with_answer true a rest = refl
    with_answer false a rest = refl

    step : (b z d : Bool) (h t : ℕ) → (d ≡ true → z ≡ b) → h ≡ cond z 0 t → cond (not b) (bit d + h) h ≡ cond z 0 (bit d + t)
    step true true d h t f e = e
    step true false true h t f e = absurd (true≢false (sym (f refl)))
    step true false false h t f e = omega (arith, e)
    step false true true h t f e = absurd (true≢false (f refl))
    step false true false h t f e = omega (arith, e)
    step false false d h t f e = omega (arith, e)

pub told_holds_fall : ToldHoldsFall
told_holds_fall counts o row s polls p slot lt =
    let ks = slots_of (leaving o.length (publish_cleared o polls row s)) in
    let after_is : times slot (held_slots polls.left) ≡ cond (slice_index counts slot == 0) 0 (times slot (ascending ks)) =
    ap (λ l. times slot (held_slots l)) (p.others.after_leaving.told refl) ∙ held_told counts slot (ascending ks) in
    let before_is : times slot (held_slots polls.leaving) ≡ cond (slice_index counts slot == 0) 0 (times slot ks) =
    ap (λ l. times slot (held_slots l)) (p.others.before.told refl) ∙ held_told counts slot ks in
    omega (arith, lt, after_is, before_is, ap (cond (slice_index counts slot == 0) 0) (times-ascending slot ks))
