-- Slots by other messages take the same steps.
use Rattle.std.proofs.Common.{◌≡◌, ℕ, zero, suc, Bool, true, false, List, [], ◌∷◌, refl, sym, ap, ◌∙◌, map, set}
use Rattle.std.specs.Prelude.{option_map}
use Rattle.nc_slots.specs.Slot.{map_message, slot_at, is_unused, is_buffered, lowest_unused, message_of, most_holds, CanGrant, filled, granted, retired, polled}
use Rattle.nc_slots.specs.declared.slot.Slot.{Slot}
use Rattle.nc_slots.specs.declared.slot.Slot.TheVariants.{Unused, Buffered, Retired}
use Rattle.nc_slots.proofs.First.{first, position-first}

module _ {A B : Type 0} (f : A → B) where
  abbrev pub shown : List (Slot A) → List (Slot B)
  shown slots = map (map_message f) slots

  pub shown_at : (slots : List (Slot A)) (k : ℕ) → slot_at (shown slots) k ≡ map_message f (slot_at slots k)
  shown_at [] k = refl
  shown_at (s ∷ slots) zero = refl
  shown_at (s ∷ slots) (suc k) = shown_at slots k

  -- a step that is the same by other messages
  pub shown_step : (step : Slot A → Slot A) (same : Slot B → Slot B) → ((s : Slot A) → map_message f (step s) ≡ same (map_message f s)) → (slots : List (Slot A)) (k : ℕ)
      → shown (set slots k (step (slot_at slots k))) ≡ set (shown slots) k (same (slot_at (shown slots) k))
  shown_step step same is [] k = refl
  shown_step step same is (s ∷ slots) zero = ap (λ (t : Slot B). t ∷ shown slots) (is s)
  shown_step step same is (s ∷ slots) (suc k) = ap (λ (rest : List (Slot B)). map_message f s ∷ rest) (shown_step step same is slots k)

  shows_granted : (s : Slot A) → map_message f (granted s) ≡ granted (map_message f s)
  shows_granted Unused = refl
  shows_granted (Buffered message clear grants) = refl
  shows_granted (Retired clear grants) = refl

  shows_retired : (s : Slot A) → map_message f (retired s) ≡ retired (map_message f s)
  shows_retired Unused = refl
  shows_retired (Buffered message clear grants) = refl
  shows_retired (Retired clear grants) = refl

  shows_polled : (held : Bool) (s : Slot A) → map_message f (polled held s) ≡ polled held (map_message f s)
  shows_polled true s = refl
  shows_polled false Unused = refl
  shows_polled false (Buffered message clear grants) = refl
  shows_polled false (Retired clear grants) = refl

  pub shown_granted : (slots : List (Slot A)) (k : ℕ) → shown (set slots k (granted (slot_at slots k))) ≡ set (shown slots) k (granted (slot_at (shown slots) k))
  shown_granted = shown_step granted granted shows_granted

  pub shown_retired : (slots : List (Slot A)) (k : ℕ) → shown (set slots k (retired (slot_at slots k))) ≡ set (shown slots) k (retired (slot_at (shown slots) k))
  shown_retired = shown_step retired retired shows_retired

  pub shown_polled : (held : Bool) (slots : List (Slot A)) (k : ℕ) → shown (set slots k (polled held (slot_at slots k))) ≡ set (shown slots) k (polled held (slot_at (shown slots) k))
  shown_polled held = shown_step (polled held) (polled held) (shows_polled held)

  pub shown_put : (slots : List (Slot A)) (k : ℕ) (message : A) → shown (set slots k (filled message)) ≡ set (shown slots) k (filled (f message))
  shown_put [] k message = refl
  shown_put (s ∷ slots) zero message = refl
  shown_put (s ∷ slots) (suc k) message = ap (λ (rest : List (Slot B)). map_message f s ∷ rest) (shown_put slots k message)

  first_shown : (slots : List (Slot A)) → first is_unused (shown slots) ≡ first is_unused slots
  first_shown [] = refl
  first_shown (Unused ∷ slots) = refl
  first_shown (Buffered message clear grants ∷ slots) = ap (option_map suc) (first_shown slots)
  first_shown (Retired clear grants ∷ slots) = ap (option_map suc) (first_shown slots)

  pub shown_lowest : (slots : List (Slot A)) → lowest_unused (shown slots) ≡ lowest_unused slots
  shown_lowest slots = position-first is_unused (shown slots) ∙ first_shown slots ∙ sym (position-first is_unused slots)

  shows_buffered : (s : Slot A) → is_buffered (map_message f s) ≡ is_buffered s
  shows_buffered Unused = refl
  shows_buffered (Buffered message clear grants) = refl
  shows_buffered (Retired clear grants) = refl

  pub shown_buffered : (slots : List (Slot A)) (k : ℕ) → is_buffered (slot_at (shown slots) k) ≡ is_buffered (slot_at slots k)
  shown_buffered slots k = ap is_buffered (shown_at slots k) ∙ shows_buffered (slot_at slots k)

  shows_most : (s : Slot A) → most_holds (map_message f s) ≡ most_holds s
  shows_most Unused = refl
  shows_most (Buffered message clear grants) = refl
  shows_most (Retired clear grants) = refl

  pub shown_most : (slots : List (Slot A)) (k : ℕ) → most_holds (slot_at (shown slots) k) ≡ most_holds (slot_at slots k)
  shown_most slots k = ap most_holds (shown_at slots k) ∙ shows_most (slot_at slots k)

  shows_message : (s : Slot A) → message_of (map_message f s) ≡ option_map f (message_of s)
  shows_message Unused = refl
  shows_message (Buffered message clear grants) = refl
  shows_message (Retired clear grants) = refl

  pub shown_message : (slots : List (Slot A)) (k : ℕ) → message_of (slot_at (shown slots) k) ≡ option_map f (message_of (slot_at slots k))
  shown_message slots k = ap message_of (shown_at slots k) ∙ shows_message (slot_at slots k)

  shows_can : (s : Slot A) → CanGrant s → CanGrant (map_message f s)
  shows_can Unused can = can
  shows_can (Buffered message clear grants) can = can
  shows_can (Retired clear grants) can = can

  pub shown_can : (slots : List (Slot A)) (k : ℕ) → CanGrant (slot_at slots k) → CanGrant (slot_at (shown slots) k)
  shown_can [] k can = can
  shown_can (s ∷ slots) zero can = shows_can s can
  shown_can (s ∷ slots) (suc k) can = shown_can slots k can
