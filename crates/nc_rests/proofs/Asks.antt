-- Looks that were asked for.
use Rattle.std.proofs.Common.{◌≡◌, inl, inr, ℕ, ◌≤◌, List, [], ◌∷◌, refl, sym, ap, ◌∙◌, subst, arith}
use Rattle.std.specs.Prelude.{◌==◌}
use Rattle.std.specs.List.{AllByRecursion}
use Rattle.std.proofs.lemmas.Bool.{eq-eqb, cond_both}
use Rattle.nc_types.specs.Id.{Id}
use Rattle.nc_journal.specs.History.{own, is_by}
use Rattle.nc_journal.specs.declared.event.Event.{Event}
use Rattle.nc_journal.specs.declared.event.Event.TheVariants.{Looked, Made}
use Rattle.nc_journal.specs.declared.alert.AlertLine.{AlertLine}
use Rattle.nc_journal.specs.declared.alert.AlertLine.TheVariants as lines
use Rattle.nc_journal.proofs.Cuts.{all-weaker}
use Rattle.nc_owner_laws.specs.Used.{bit, times}
use Rattle.nc_owner_laws.specs.Wake.{made_to}
use Rattle.nc_rests.specs.Asking.{HasAsk, ask_numbers, AreAsked, AskedOnce, NextAsked, AsksStay}
use Rattle.nc_rests.proofs.Answered.{all_if}
use Rattle.nc_rests.proofs.Received.{of_next}

-- ---- each number was drawn once

ask_counts : (number : ℕ) (c : List ℕ) (after : Id) (l : List Event) → HasAsk number c after l → 1 ≤ times number (ask_numbers l)
ask_counts number c after [] has = absurd has
ask_counts number c after (Made v to n (lines.Look m d a fence) ∷ l) (inl is) = let here : bit (m == number) ≡ 1 = ap bit (eq-eqb m number is.0) in omega (arith, here)
ask_counts number c after (Made v to n (lines.Look m d a fence) ∷ l) (inr has) = omega (arith, ask_counts number c after l has)
ask_counts number c after (Made v to n (lines.Edge m k d fence) ∷ l) has = omega (arith, ask_counts number c after l has)
ask_counts number c after (e ∷ l) has = ask_counts number c after l has

-- two asks by one number are one
pub one_ask : (number : ℕ) (c d : List ℕ) (after other : Id) (l : List Event) → times number (ask_numbers l) ≤ 1 → HasAsk number c after l → HasAsk number d other l → (d ≡ c) × (other ≡ after)
one_ask number c d after other [] few has more = absurd has
one_ask number c d after other (Made v to n (lines.Look m x a fence) ∷ l) few (inl is) (inl too) = (sym too.1 ∙ is.1, sym too.2 ∙ is.2)
one_ask number c d after other (Made v to n (lines.Look m x a fence) ∷ l) few (inl is) (inr more) = let here : bit (m == number) ≡ 1 = ap bit (eq-eqb m number is.0) in absurd (omega (arith, few, here, ask_counts number d other l more))
one_ask number c d after other (Made v to n (lines.Look m x a fence) ∷ l) few (inr has) (inl too) = let here : bit (m == number) ≡ 1 = ap bit (eq-eqb m number too.0) in absurd (omega (arith, few, here, ask_counts number c after l has))
one_ask number c d after other (Made v to n (lines.Look m x a fence) ∷ l) few (inr has) (inr more) = one_ask number c d after other l (omega (arith, few)) has more
one_ask number c d after other (Made v to n (lines.Edge m k x fence) ∷ l) few has more = one_ask number c d after other l (omega (arith, few)) has more
one_ask number c d after other (e ∷ l) few has more = one_ask number c d after other l few has more

pub asked_once : AskedOnce
asked_once w number c after asks [] few has are = tt
asked_once w number c after asks (Looked v q from n d a floor found ∷ l) few has are =
    ((λ mine same. one_ask number c d after a asks few has (subst (λ (m : ℕ). HasAsk m d a asks) same (are.0 mine))), asked_once w number c after asks l few has are.1)
asked_once w number c after asks (e ∷ l) few has are = asked_once w number c after asks l few has are

-- ---- asks, as the history goes on

pub ask_case : (number : ℕ) (c : List ℕ) (after : Id) (e : Event) (l : List Event) → HasAsk number c after l → HasAsk number c after (e ∷ l)
ask_case number c after (Made v to n (lines.Look m d a fence)) l has = inr has
ask_case number c after e l has = has

pub ask_more : (w number : ℕ) (c : List ℕ) (after : Id) (e : Event) (h : List Event) → HasAsk number c after (own w h) → HasAsk number c after (own w (e ∷ h))
ask_more w number c after e h has = cond_both (is_by w e) (e ∷ own w h) (own w h) (HasAsk number c after) (λ _. ask_case number c after e (own w h) has) (λ _. has)

abbrev AskOf : List Event → AlertLine → Type 0
AskOf l (lines.Look number c after fence) = HasAsk number c after l
AskOf l a = Unit {0}

ask_of_more : (e : Event) (l : List Event) (a : AlertLine) → AskOf l a → AskOf (e ∷ l) a
ask_of_more e l (lines.Look number c after fence) has = ask_case number c after e l has
ask_of_more e l a has = tt

ask_here : (v to n : ℕ) (a : AlertLine) (l : List Event) → AskOf (Made v to n a ∷ l) a
ask_here v to n (lines.Look number c after fence) l = inl (refl, refl, refl)
ask_here v to n a l = tt

made_asks : (o : ℕ) (l : List Event) → AllByRecursion (AskOf l) (made_to o l)
made_asks o [] = tt
made_asks o (Made v to n a ∷ l) = all_if (AskOf (Made v to n a ∷ l)) (to == o) (made_to o l) a (all-weaker (AskOf l) (AskOf (Made v to n a ∷ l)) (λ y has. ask_of_more (Made v to n a) l y has) (made_to o l) (made_asks o l)) (λ _. ask_here v to n a l)
made_asks o (e ∷ l) = all-weaker (AskOf l) (AskOf (e ∷ l)) (λ y has. ask_of_more e l y has) (made_to o l) (made_asks o l)

pub next_asked : NextAsked
next_asked w o number c after fence h next = of_next (AskOf (own w h)) w o (lines.Look number c after fence) h (made_asks o (own w h)) next

asks_more : (w : ℕ) (e : Event) (asks l : List Event) → AreAsked w asks l → AreAsked w (e ∷ asks) l
asks_more w e asks [] k = tt
asks_more w e asks (Looked v q from n d a floor found ∷ l) k = ((λ mine. ask_case n d a e asks (k.0 mine)), asks_more w e asks l k.1)
asks_more w e asks (x ∷ l) k = asks_more w e asks l k

pub asks_stay : AsksStay
asks_stay w e h l k = cond_both (is_by w e) (e ∷ own w h) (own w h) (λ asks. AreAsked w asks l) (λ _. asks_more w e (own w h) l k) (λ _. k)
