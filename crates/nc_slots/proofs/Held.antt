-- Slots and their numbers of holds.
use Rattle.std.proofs.Common.{◌≡◌, ◌<◌, ◌≤◌, ◌+◌, ℕ, zero, suc, Bool, true, false, List, [], ◌∷◌, refl, ap, arith, length, set, replicate}
use Rattle.std.specs.Prelude.{slice_index}
use Rattle.nc_slots.specs.Slot.{slot_at, is_unused, most_holds, CanGrant, filled, granted, retired, polled}
use Rattle.nc_slots.specs.Plain.{AreHeld}
use Rattle.nc_slots.specs.declared.slot.Slot.{Slot}
use Rattle.nc_slots.specs.declared.slot.Slot.TheVariants.{Unused, Buffered, Retired}

module _ {M : Type 0} where
  pub held_at : (slots : List (Slot M)) (ns : List ℕ) (k : ℕ) → AreHeld slots ns → slice_index ns k ≤ most_holds (slot_at slots k)
  held_at [] [] k are = omega arith
  held_at [] (n ∷ ns) k are = absurd are
  held_at (s ∷ slots) [] k are = absurd are
  held_at (s ∷ slots) (n ∷ ns) zero are = are.0
  held_at (s ∷ slots) (n ∷ ns) (suc k) are = held_at slots ns k are.1

  pub held_len : (slots : List (Slot M)) (ns : List ℕ) → AreHeld slots ns → length ns ≡ length slots
  held_len [] [] are = refl
  held_len [] (n ∷ ns) are = absurd are
  held_len (s ∷ slots) [] are = absurd are
  held_len (s ∷ slots) (n ∷ ns) are = ap suc (held_len slots ns are.1)

  -- a slot and its number are written
  held_both : (slots : List (Slot M)) (ns : List ℕ) (k n : ℕ) (s : Slot M) → AreHeld slots ns → n ≤ most_holds s → AreHeld (set slots k s) (set ns k n)
  held_both [] [] k n s are le = tt
  held_both [] (m ∷ ns) k n s are le = absurd are
  held_both (t ∷ slots) [] k n s are le = absurd are
  held_both (t ∷ slots) (m ∷ ns) zero n s are le = (le, are.1)
  held_both (t ∷ slots) (m ∷ ns) (suc k) n s are le = (are.0, held_both slots ns k n s are.1 le)

  -- a slot is written
  held_slot : (slots : List (Slot M)) (ns : List ℕ) (k : ℕ) (s : Slot M) → AreHeld slots ns → slice_index ns k ≤ most_holds s → AreHeld (set slots k s) ns
  held_slot [] [] k s are le = tt
  held_slot [] (m ∷ ns) k s are le = absurd are
  held_slot (t ∷ slots) [] k s are le = absurd are
  held_slot (t ∷ slots) (m ∷ ns) zero s are le = (le, are.1)
  held_slot (t ∷ slots) (m ∷ ns) (suc k) s are le = (are.0, held_slot slots ns k s are.1 le)

  most_unused : (s : Slot M) → is_unused s ≡ true → most_holds s ≡ 0
  most_unused Unused is = refl
  most_unused (Buffered message clear grants) is = absurd cc
  most_unused (Retired clear grants) is = absurd cc

  -- an unused slot takes a message
  pub held_put : (slots : List (Slot M)) (ns : List ℕ) (k : ℕ) (message : M) → AreHeld slots ns → is_unused (slot_at slots k) ≡ true → AreHeld (set slots k (filled message)) ns
  held_put slots ns k message are is = held_slot slots ns k (filled message) are (let at = held_at slots ns k are in let none = most_unused (slot_at slots k) is in omega arith)

  more_holds : (s : Slot M) (n : ℕ) → CanGrant s → n ≤ most_holds s → n + 1 ≤ most_holds (granted s)
  more_holds Unused n can le = absurd can
  more_holds (Buffered message true grants) n can le = omega arith
  more_holds (Buffered message false grants) n can le = omega arith
  more_holds (Retired clear grants) n can le = absurd can

  few_holds : (s : Slot M) → CanGrant s → most_holds s < 4294967295
  few_holds Unused can = absurd can
  few_holds (Buffered message true grants) can = omega arith
  few_holds (Buffered message false grants) can = can
  few_holds (Retired clear grants) can = absurd can

  -- a slot is granted
  pub held_granted : (slots : List (Slot M)) (ns : List ℕ) (k n : ℕ) → AreHeld slots ns → CanGrant (slot_at slots k) → n ≡ slice_index ns k + 1 → AreHeld (set slots k (granted (slot_at slots k))) (set ns k n)
  held_granted slots ns k n are can is = held_both slots ns k n (granted (slot_at slots k)) are (let more = more_holds (slot_at slots k) (slice_index ns k) can (held_at slots ns k are) in omega arith)

  pub held_few : (slots : List (Slot M)) (ns : List ℕ) (k : ℕ) → AreHeld slots ns → CanGrant (slot_at slots k) → slice_index ns k < 4294967295
  held_few slots ns k are can = let at = held_at slots ns k are in let few = few_holds (slot_at slots k) can in omega arith

  -- a slot that can be granted is there
  pub held_there : (slots : List (Slot M)) (ns : List ℕ) (k : ℕ) → AreHeld slots ns → CanGrant (slot_at slots k) → k < length ns
  held_there [] ns k are can = absurd can
  held_there (s ∷ slots) [] k are can = absurd are
  held_there (s ∷ slots) (n ∷ ns) zero are can = omega arith
  held_there (s ∷ slots) (n ∷ ns) (suc k) are can = let l = held_there slots ns k are.1 can in omega arith

  most_retired : (s : Slot M) → most_holds (retired s) ≡ most_holds s
  most_retired Unused = refl
  most_retired (Buffered message clear grants) = refl
  most_retired (Retired clear grants) = refl

  pub held_retired : (slots : List (Slot M)) (ns : List ℕ) (k : ℕ) → AreHeld slots ns → AreHeld (set slots k (retired (slot_at slots k))) ns
  held_retired slots ns k are = held_slot slots ns k (retired (slot_at slots k)) are (let at = held_at slots ns k are in let same = most_retired (slot_at slots k) in omega arith)

  most_polled : (held : Bool) (s : Slot M) (n : ℕ) → (held ≡ false → n ≡ 0) → n ≤ most_holds s → n ≤ most_holds (polled held s)
  most_polled true s n none le = le
  most_polled false s n none le = let z = none refl in omega arith

  pub held_polled : (held : Bool) (slots : List (Slot M)) (ns : List ℕ) (k : ℕ) → (held ≡ false → slice_index ns k ≡ 0) → AreHeld slots ns → AreHeld (set slots k (polled held (slot_at slots k))) ns
  held_polled held slots ns k none are = held_slot slots ns k (polled held (slot_at slots k)) are (most_polled held (slot_at slots k) (slice_index ns k) none (held_at slots ns k are))

  -- a hold less
  pub held_less : (slots : List (Slot M)) (ns : List ℕ) (k n : ℕ) → AreHeld slots ns → n ≤ slice_index ns k → AreHeld slots (set ns k n)
  held_less [] [] k n are le = tt
  held_less [] (m ∷ ns) k n are le = absurd are
  held_less (s ∷ slots) [] k n are le = absurd are
  held_less (s ∷ slots) (m ∷ ns) zero n are le = (let l : n ≤ m = le in let at : m ≤ most_holds s = are.0 in omega arith, are.1)
  held_less (s ∷ slots) (m ∷ ns) (suc k) n are le = (are.0, held_less slots ns k n are.1 le)

pub held_new : (M : Type 0) (n : ℕ) → AreHeld {M = M} (replicate n Unused) (replicate n 0)
held_new M zero = tt
held_new M (suc n) = (omega arith, held_new M n)
