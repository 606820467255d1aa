-- Shared slots by their messages, and what a poll of them answers.
use Rattle.std.proofs.Common.{◌≡◌, ◌≤◌, ℕ, zero, suc, Bool, true, false, cond, eqb, ltb, List, refl, sym, ap, ◌∙◌, arith, subst, set, Some}
use Rattle.std.specs.Prelude.{Option, option_map}
use Rattle.std.specs.Arc.{arc_value}
use Rattle.std.specs.declared.sync.Arc.{Arc}
use Rattle.nc_types.specs.Message.{Message}
use Rattle.nc_slots.specs.Slot.{map_message, slot_at, is_unused, is_buffered, lowest_unused, message_of, most_holds, filled, granted, retired, polled, CanGrant}
use Rattle.nc_slots.specs.Slots.{answer, is_held, PollFits}
use Rattle.nc_slots.specs.declared.slot.Slot.{Slot}
use Rattle.nc_slots.specs.declared.slot.Slot.TheVariants.{Unused, Buffered, Retired}
use Rattle.nc_slots.specs.declared.slots.Polled.{Polled}
use Rattle.nc_slots.specs.declared.slots.Polled.TheVariants.{Freed, Clear, Held}
use Rattle.nc_slots.proofs.Shown.{shown_at, shown_granted, shown_retired, shown_polled, shown_put, shown_lowest, shown_buffered, shown_most, shown_message, shown_can}
use Rattle.nc_shared_slots.specs.Shared.{told}

module _ {Z : Type 0} where
  abbrev value : Arc Message Z → Message
  value kept = arc_value kept

  pub told_lowest : (slots : List (Slot (Arc Message Z))) (now : List (Slot Message)) (o : Option ℕ) → told slots ≡ now → o ≡ lowest_unused slots → lowest_unused now ≡ o
  told_lowest slots now o view is = ap lowest_unused (sym view) ∙ shown_lowest value slots ∙ sym is

  pub told_put : (slots after : List (Slot (Arc Message Z))) (now : List (Slot Message)) (k : ℕ) (kept : Arc Message Z) (msg : Message) → told slots ≡ now → arc_value kept ≡ msg → after ≡ set slots k (filled kept)
      → told after ≡ set now k (filled msg)
  told_put slots after now k kept msg view is after_is =
      ap told after_is ∙ shown_put value slots k kept ∙ ap (λ (m : Message). set (told slots) k (filled m)) is ∙ ap (λ (l : List (Slot Message)). set l k (filled msg)) view

  pub told_granted : (slots after : List (Slot (Arc Message Z))) (now : List (Slot Message)) (k : ℕ) → told slots ≡ now → after ≡ set slots k (granted (slot_at slots k)) → told after ≡ set now k (granted (slot_at now k))
  told_granted slots after now k view after_is = ap told after_is ∙ shown_granted value slots k ∙ ap (λ (l : List (Slot Message)). set l k (granted (slot_at l k))) view

  pub told_can : (slots : List (Slot (Arc Message Z))) (now : List (Slot Message)) (k : ℕ) → told slots ≡ now → CanGrant (slot_at slots k) → CanGrant (slot_at now k)
  told_can slots now k view can = subst (λ (l : List (Slot Message)). CanGrant (slot_at l k)) view (shown_can value slots k can)

  option_told : (o : Option (Arc Message Z)) (kept given : Arc Message Z) → o ≡ Some given → arc_value kept ≡ arc_value given → option_map value o ≡ Some (arc_value kept)
  option_told o kept given is same = ap (option_map value) is ∙ ap Some (sym same)

  pub told_message : (slots : List (Slot (Arc Message Z))) (now : List (Slot Message)) (k : ℕ) (given kept : Arc Message Z) → told slots ≡ now → message_of (slot_at slots k) ≡ Some given → arc_value kept ≡ arc_value given
      → message_of (slot_at now k) ≡ Some (arc_value kept)
  told_message slots now k given kept view is same =
      ap (λ (l : List (Slot Message)). message_of (slot_at l k)) (sym view) ∙ shown_message value slots k ∙ option_told (message_of (slot_at slots k)) kept given is same

  pub told_retired : (slots after : List (Slot (Arc Message Z))) (now : List (Slot Message)) (k : ℕ) → told slots ≡ now → after ≡ set slots k (retired (slot_at slots k)) → told after ≡ set now k (retired (slot_at now k))
  told_retired slots after now k view after_is = ap told after_is ∙ shown_retired value slots k ∙ ap (λ (l : List (Slot Message)). set l k (retired (slot_at l k))) view

  pub told_polled : (slots after : List (Slot (Arc Message Z))) (now : List (Slot Message)) (k : ℕ) (b held : Bool) → told slots ≡ now → b ≡ held → after ≡ set slots k (polled b (slot_at slots k)) → told after ≡ set now k (polled held (slot_at now k))
  told_polled slots after now k b held view is after_is =
      ap told after_is ∙ shown_polled value b slots k ∙ ap (λ (h : Bool). set (told slots) k (polled h (slot_at (told slots) k))) is ∙ ap (λ (l : List (Slot Message)). set l k (polled held (slot_at l k))) view

  shows_unused : (s : Slot (Arc Message Z)) → is_unused (map_message value s) ≡ is_unused s
  shows_unused Unused = refl
  shows_unused (Buffered m c g) = refl
  shows_unused (Retired c g) = refl

  pub told_unused : (slots : List (Slot (Arc Message Z))) (now : List (Slot Message)) (k : ℕ) → told slots ≡ now → is_unused (slot_at now k) ≡ is_unused (slot_at slots k)
  told_unused slots now k view = ap (λ (l : List (Slot Message)). is_unused (slot_at l k)) (sym view) ∙ ap is_unused (shown_at value slots k) ∙ shows_unused (slot_at slots k)

  pub told_buffered : (slots : List (Slot (Arc Message Z))) (now : List (Slot Message)) (k : ℕ) → told slots ≡ now → is_buffered (slot_at now k) ≡ is_buffered (slot_at slots k)
  told_buffered slots now k view = ap (λ (l : List (Slot Message)). is_buffered (slot_at l k)) (sym view) ∙ shown_buffered value slots k

  pub told_most : (slots : List (Slot (Arc Message Z))) (now : List (Slot Message)) (k : ℕ) → told slots ≡ now → most_holds (slot_at now k) ≡ most_holds (slot_at slots k)
  told_most slots now k view = ap (λ (l : List (Slot Message)). most_holds (slot_at l k)) (sym view) ∙ shown_most value slots k

-- an unused slot isn't buffered
pub unused_not_buffered : {M : Type 0} (s : Slot M) → is_unused s ≡ true → is_buffered s ≡ false
unused_not_buffered Unused is = refl
unused_not_buffered (Buffered m c g) is = absurd cc
unused_not_buffered (Retired c g) is = absurd cc

-- what is answered of a slot with so many holds fits it
pub answer_fits : (slot : Slot Message) (b : Bool) (n : ℕ) (p : Polled) → b ≡ is_buffered slot → n ≤ most_holds slot → p ≡ answer b n → PollFits slot p
answer_fits slot b n p is le p_is = subst (PollFits slot) (sym p_is) (fits b n is le)
  where
    fits : (b : Bool) (n : ℕ) → b ≡ is_buffered slot → n ≤ most_holds slot → PollFits slot (answer b n)
    fits true zero is le = sym is
    fits false zero is le = sym is
    fits b (suc n) is le =
        let some : eqb (suc n) 0 ≡ false = grind arith in let held : PollFits slot (Held (suc n)) = (omega arith, le) in
        subst (λ (t : Bool). PollFits slot (cond t (cond b Clear Freed) (Held (suc n)))) (sym some) held

pub answer_held : (b : Bool) (n : ℕ) (p : Polled) → p ≡ answer b n → ltb 0 n ≡ is_held p
answer_held b n p is = held b n ∙ ap is_held (sym is)
  where
    held : (b : Bool) (n : ℕ) → ltb 0 n ≡ is_held (answer b n)
    held true zero = grind arith
    held false zero = grind arith
    held b (suc n) = grind arith
