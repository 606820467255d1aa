-- An owner's slots over the words that threads share, and what its seat knows of them.
use Rattle.std.proofs.Common.{◌≡◌, ◌<◌, ◌+◌, ◌-◌, ◌/◌, if◌then◌else◌, ℕ, zero, suc, Bool, true, false, List, [], ◌∷◌, refl, sym, ap, ◌∙◌, arith, subst, length, set, length-set, Some}
use Rattle.std.proofs.lemmas.List.{length-map}
use Rattle.std.proofs.lemmas.List.Quantifiers.{position-Some}
use Rattle.atomic_table.specs.Seated.{TableId}
use Rattle.nc_slots.specs.Slot.{map_message, slot_at, is_unused, is_buffered, lowest_unused, most_holds, filled, granted, retired, polled, CanGrant}
use Rattle.nc_slots.specs.declared.slot.Slot.{Slot}
use Rattle.nc_slots.specs.declared.slot.Slot.TheVariants.{Unused, Buffered, Retired}
use Rattle.nc_slots.proofs.Shown.{shown_granted, shown_retired, shown_polled, shown_put, shown_buffered, shown_most, shown_can}
use Rattle.nc_slot_rule.specs.Views.{Bare, Owns, slot_in, with_slot}
use Rattle.nc_slot_rule.specs.Steps.{holds_in, IsAt}
use Rattle.nc_slot_rule.specs.declared.view.Seen.{Seen}
use Rattle.nc_shared_slots.specs.Shared.{bare, IsRow}

-- the holds that a word shows, by whether the slot is buffered
pub holds_same : (slot : Bare) (b : Bool) (word : ℕ) → is_buffered slot ≡ b → holds_in slot word ≡ (word - (if b then 1 else 0)) / 2
holds_same slot b word is = ap (λ (t : Bool). (word - (if t then 1 else 0)) / 2) is

module _ {M : Type 0} where
  abbrev none : M → Unit {0}
  none m = tt

  -- ---- the slot of a number

  pub unused_within : (slots : List (Slot M)) (k : ℕ) → is_unused (slot_at slots k) ≡ false → k < length slots
  unused_within [] k is = absurd cc
  unused_within (s ∷ slots) zero is = omega arith
  unused_within (s ∷ slots) (suc k) is = omega (arith, unused_within slots k is)

  pub buffered_within : (slots : List (Slot M)) (k : ℕ) → is_buffered (slot_at slots k) ≡ true → k < length slots
  buffered_within [] k is = absurd cc
  buffered_within (s ∷ slots) zero is = omega arith
  buffered_within (s ∷ slots) (suc k) is = omega (arith, buffered_within slots k is)

  pub grantable_within : (slots : List (Slot M)) (k : ℕ) → CanGrant (slot_at slots k) → k < length slots
  grantable_within [] k can = absurd can
  grantable_within (s ∷ slots) zero can = omega arith
  grantable_within (s ∷ slots) (suc k) can = omega (arith, grantable_within slots k can)

  pub lowest_within : (slots : List (Slot M)) (k : ℕ) → lowest_unused slots ≡ Some k → (k < length slots) × (is_unused (slot_at slots k) ≡ true)
  lowest_within slots k is = let at = position-Some is_unused slots k Unused is in (at.0, at.1)

  -- ---- what the seat knows of it

  pub at_word : (table words seat : TableId) (v : Seen) (first k : ℕ) (slots : List (Slot M)) → IsRow table words seat v first slots → k < length slots → IsAt words seat (first + k)
  at_word table words seat v first k slots row lt =
      let n = ap (λ (t : TableId). t.words) row.set in (row.sits ∙ sym row.set, omega (arith, row.there))

  pub owns : (table words seat : TableId) (v : Seen) (first k : ℕ) (slots : List (Slot M)) → IsRow table words seat v first slots → k < length slots → Owns v (first + k)
  owns table words seat v first k slots row lt =
      let l = ap length row.knows in let m = length-map slots (map_message none) in
      (omega (arith, row.begins), omega (arith, row.begins))

  pub knows_slot : (table words seat : TableId) (v : Seen) (first k : ℕ) (slots : List (Slot M)) → IsRow table words seat v first slots → slot_in v (first + k) ≡ slot_at (bare slots) k
  knows_slot table words seat v first k slots row =
      let n : first + k - v.first ≡ k = omega (arith, row.begins) in rw (n, row.knows) refl

  bare_unused : (slots : List (Slot M)) (k : ℕ) → is_unused (slot_at (bare slots) k) ≡ is_unused (slot_at slots k)
  bare_unused [] k = refl
  bare_unused (Unused ∷ slots) zero = refl
  bare_unused (Buffered m c g ∷ slots) zero = refl
  bare_unused (Retired c g ∷ slots) zero = refl
  bare_unused (s ∷ slots) (suc k) = bare_unused slots k

  pub knows_unused : (table words seat : TableId) (v : Seen) (first k : ℕ) (slots : List (Slot M)) → IsRow table words seat v first slots → is_unused (slot_at slots k) ≡ true → is_unused (slot_in v (first + k)) ≡ true
  knows_unused table words seat v first k slots row is = ap is_unused (knows_slot table words seat v first k slots row) ∙ bare_unused slots k ∙ is

  pub knows_buffered : (table words seat : TableId) (v : Seen) (first k : ℕ) (slots : List (Slot M)) → IsRow table words seat v first slots → is_buffered (slot_in v (first + k)) ≡ is_buffered (slot_at slots k)
  knows_buffered table words seat v first k slots row = ap is_buffered (knows_slot table words seat v first k slots row) ∙ shown_buffered none slots k

  pub knows_most : (table words seat : TableId) (v : Seen) (first k : ℕ) (slots : List (Slot M)) → IsRow table words seat v first slots → most_holds (slot_in v (first + k)) ≡ most_holds (slot_at slots k)
  knows_most table words seat v first k slots row = ap most_holds (knows_slot table words seat v first k slots row) ∙ shown_most none slots k

  pub knows_can : (table words seat : TableId) (v : Seen) (first k : ℕ) (slots : List (Slot M)) → IsRow table words seat v first slots → CanGrant (slot_at slots k) → CanGrant (slot_in v (first + k))
  knows_can table words seat v first k slots row can = subst CanGrant (sym (knows_slot table words seat v first k slots row)) (shown_can none slots k can)

  -- ---- after a step

  stepped : (table words seat now : TableId) (v w : Seen) (first k : ℕ) (slots after : List (Slot M)) (y z : Bare) → IsRow table words seat v first slots → now ≡ seat → w ≡ with_slot v (first + k) y → y ≡ z
      → set (bare slots) k z ≡ bare after → length after ≡ length slots → IsRow table words now w first after
  stepped table words seat now v w first k slots after y z row same is y_is shows len =
      let n : first + k - v.first ≡ k = omega (arith, row.begins) in
      let known : set v.row (first + k - v.first) y ≡ set (bare slots) k z = rw (n, row.knows, y_is) refl in
      record {
        set = row.set;
        sits = same ∙ row.sits;
        begins = ap (λ (u : Seen). u.first) is ∙ row.begins;
        knows = ap (λ (u : Seen). u.row) is ∙ known ∙ shows;
        idle = ap (λ (u : Seen). u.granting) is ∙ row.idle;
        there = omega (arith, row.there);
        bound = row.bound;
      }

  len_set : (slots after : List (Slot M)) (k : ℕ) (s : Slot M) → after ≡ set slots k s → length after ≡ length slots
  len_set slots after k s is = ap length is ∙ length-set slots k s

  pub row_put : (table words seat now : TableId) (v w : Seen) (first k : ℕ) (slots after : List (Slot M)) (message : M) → IsRow table words seat v first slots → now ≡ seat → w ≡ with_slot v (first + k) (filled tt)
      → after ≡ set slots k (filled message) → IsRow table words now w first after
  row_put table words seat now v w first k slots after message row same is after_is =
      stepped table words seat now v w first k slots after (filled tt) (filled tt) row same is refl (sym (ap bare after_is ∙ shown_put none slots k message)) (len_set slots after k (filled message) after_is)

  pub row_granted : (table words seat now : TableId) (v w : Seen) (first k : ℕ) (slots after : List (Slot M)) → IsRow table words seat v first slots → now ≡ seat → w ≡ with_slot v (first + k) (granted (slot_in v (first + k)))
      → after ≡ set slots k (granted (slot_at slots k)) → IsRow table words now w first after
  row_granted table words seat now v w first k slots after row same is after_is =
      stepped table words seat now v w first k slots after (granted (slot_in v (first + k))) (granted (slot_at (bare slots) k)) row same is (ap granted (knows_slot table words seat v first k slots row))
      (sym (ap bare after_is ∙ shown_granted none slots k)) (len_set slots after k (granted (slot_at slots k)) after_is)

  pub row_retired : (table words seat now : TableId) (v w : Seen) (first k : ℕ) (slots after : List (Slot M)) → IsRow table words seat v first slots → now ≡ seat → w ≡ with_slot v (first + k) (retired (slot_in v (first + k)))
      → after ≡ set slots k (retired (slot_at slots k)) → IsRow table words now w first after
  row_retired table words seat now v w first k slots after row same is after_is =
      stepped table words seat now v w first k slots after (retired (slot_in v (first + k))) (retired (slot_at (bare slots) k)) row same is (ap retired (knows_slot table words seat v first k slots row))
      (sym (ap bare after_is ∙ shown_retired none slots k)) (len_set slots after k (retired (slot_at slots k)) after_is)

  pub row_polled : (table words seat now : TableId) (v w : Seen) (first k : ℕ) (slots after : List (Slot M)) (b held : Bool) → IsRow table words seat v first slots → now ≡ seat → w ≡ with_slot v (first + k) (polled b (slot_in v (first + k)))
      → b ≡ held → after ≡ set slots k (polled held (slot_at slots k)) → IsRow table words now w first after
  row_polled table words seat now v w first k slots after b held row same is b_is after_is =
      stepped table words seat now v w first k slots after (polled b (slot_in v (first + k))) (polled held (slot_at (bare slots) k)) row same is
      (ap (λ (t : Bool). polled t (slot_in v (first + k))) b_is ∙ ap (polled held) (knows_slot table words seat v first k slots row))
      (sym (ap bare after_is ∙ shown_polled none held slots k)) (len_set slots after k (polled held (slot_at slots k)) after_is)

  -- a poll of a slot that stays as it was
  pub same_unused : (slots : List (Slot M)) (k : ℕ) → is_unused (slot_at slots k) ≡ true → set slots k (polled false (slot_at slots k)) ≡ slots
  same_unused [] k is = refl
  same_unused (Unused ∷ slots) zero is = refl
  same_unused (Buffered m c g ∷ slots) zero is = absurd cc
  same_unused (Retired c g ∷ slots) zero is = absurd cc
  same_unused (s ∷ slots) (suc k) is = ap (λ (rest : List (Slot M)). s ∷ rest) (same_unused slots k is)

  pub same_retired : (slots : List (Slot M)) (k : ℕ) → is_buffered (slot_at slots k) ≡ false → set slots k (retired (slot_at slots k)) ≡ slots
  same_retired [] k is = refl
  same_retired (Unused ∷ slots) zero is = refl
  same_retired (Buffered m c g ∷ slots) zero is = absurd cc
  same_retired (Retired c g ∷ slots) zero is = refl
  same_retired (s ∷ slots) (suc k) is = ap (λ (rest : List (Slot M)). s ∷ rest) (same_retired slots k is)
