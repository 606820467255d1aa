-- What polls find.
use Rattle.std.proofs.Common.{◌≡◌, ℕ, ◌<◌, Bool, true, false, List, [], ◌∷◌, ◌++◌, refl, sym, ◌∙◌, ap, subst, map, arith}
use Rattle.std.specs.Prelude.{◌==◌, not}
use Rattle.nc_types.specs.Message.{Message}
use Rattle.nc_slots.specs.Slot.{most_holds}
use Rattle.nc_slots.specs.Slots.{is_held as shows_held, answer, PollFits}
use Rattle.nc_slots.specs.declared.slot.Slot.{Slot}
use Rattle.nc_slots.specs.declared.slots.Polled.{Polled}
use Rattle.nc_slots.specs.declared.slots.Polled.TheVariants.{Freed, Clear, Held}
use Rattle.nc_owner.specs.declared.poll.PollAnswer.{PollAnswer}
use Rattle.nc_owner.specs.Poll.{PollsOf, AnswerFits, AnswersFit, polled_all, told_answer, slot_of}

shown : (buffered : Bool) (b : Bool) → (n : ℕ) → (n == 0) ≡ b → shows_held (answer buffered n) ≡ not b
shown true true n is = rw is refl
shown true false n is = rw is refl
shown false true n is = rw is refl
shown false false n is = rw is refl

-- a poll that is told shows a hold exactly where there are some
pub held_told : (buffered : Bool) (n : ℕ) → shows_held (answer buffered n) ≡ not (n == 0)
held_told buffered n = shown buffered (n == 0) n refl

told_slots : (counts slots : List ℕ) → map slot_of (map (told_answer counts) slots) ≡ slots
told_slots counts [] = refl
told_slots counts (s ∷ slots) = ap (λ (l : List ℕ). s ∷ l) (told_slots counts slots)

-- what polls would find
pub polls_told : (exact : Bool) (counts slots : List ℕ) → PollsOf exact counts slots (map (told_answer counts) slots)
polls_told exact counts slots = record { each = told_slots counts slots; told = λ x. refl }

-- the numbers of holds are the same where they are told
pub polls_again : (exact : Bool) (counts later slots : List ℕ) (answers : List PollAnswer) → (exact ≡ true → later ≡ counts) → PollsOf exact later slots answers → PollsOf exact counts slots answers
polls_again exact counts later slots answers same p = record { each = p.each; told = λ x. p.told x ∙ ap (λ (cs : List ℕ). map (told_answer cs) slots) (same x) }

-- what a poll shows held can be held
pub can_hold : (slot : Slot Message) (p : Polled) → PollFits slot p → shows_held p ≡ true → 0 < most_holds slot
can_hold slot Freed fits held = absurd cc
can_hold slot Clear fits held = absurd cc
can_hold slot (Held count) fits held = omega (arith, fits.0, fits.1)

-- one poll more
pub fit_push : (answers more : List PollAnswer) (a : PollAnswer) (row later : List (Slot Message)) → more ≡ answers ++ a ∷ [] → later ≡ polled_all answers row → AnswersFit row answers → AnswerFits later a → AnswersFit row more
fit_push answers more a row later pushed is fit one = subst (AnswersFit row) (sym pushed) (each answers row fit (subst (λ (r : List (Slot Message)). AnswerFits r a) is one))
  where
    each : (xs : List PollAnswer) (r : List (Slot Message)) → AnswersFit r xs → AnswerFits (polled_all xs r) a → AnswersFit r (xs ++ a ∷ [])
    each [] r f o = (o, tt)
    each (x ∷ xs) r f o = (f.0, each xs _ f.1 o)
