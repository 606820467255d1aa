-- One slot, as the steps on its word change it.
use Rattle.std.proofs.Common.{◌≡◌, ◌≢◌, ℕ, zero, suc, ◌+◌, ◌*◌, ◌-◌, ◌≤◌, Bool, true, false, refl, sym, arith, eq-eqb, ne_eqb, ltb, Some}
use Rattle.nc_slots.specs.Slot.{is_unused, is_buffered, most_holds, granted, retired, polled, CanGrant}
use Rattle.nc_slots.specs.declared.slot.Slot.TheVariants.{Unused, Buffered, Retired}
use Rattle.nc_slot_rule.specs.Views.{Bare, bit_of}
use Rattle.nc_slot_rule.specs.Rule.{is_of}
use Rattle.nc_slot_rule.specs.Steps.{holds_in}

pub unused_bit : (s : Bare) → is_unused s ≡ true → bit_of s ≡ 0
unused_bit Unused is = refl
unused_bit (Buffered message clear grants) is = absurd cc
unused_bit (Retired clear grants) is = absurd cc

pub unused_most : (s : Bare) → is_unused s ≡ true → most_holds s ≡ 0
unused_most Unused is = refl
unused_most (Buffered message clear grants) is = absurd cc
unused_most (Retired clear grants) is = absurd cc

pub bit_least : (s : Bare) → bit_of s ≤ 1
bit_least Unused = omega arith
bit_least (Buffered message clear grants) = omega arith
bit_least (Retired clear grants) = omega arith

-- a grant
pub granted_bit : (s : Bare) → bit_of (granted s) ≡ bit_of s
granted_bit Unused = refl
granted_bit (Buffered message clear grants) = refl
granted_bit (Retired clear grants) = refl

pub granted_more : (s : Bare) → CanGrant s → most_holds s + 1 ≤ most_holds (granted s)
granted_more Unused can = absurd can
granted_more (Buffered message true grants) can = omega arith
granted_more (Buffered message false grants) can = omega arith
granted_more (Retired clear grants) can = absurd can

pub granted_most : (s : Bare) → CanGrant s → most_holds (granted s) ≤ 4294967295
granted_most Unused can = absurd can
granted_most (Buffered message true grants) can = omega arith
granted_most (Buffered message false grants) can = omega arith
granted_most (Retired clear grants) can = absurd can

-- a retirement
pub buffered_bit : (s : Bare) → is_buffered s ≡ true → bit_of s ≡ 1
buffered_bit Unused is = absurd cc
buffered_bit (Buffered message clear grants) is = refl
buffered_bit (Retired clear grants) is = absurd cc

pub retired_bit : (s : Bare) → bit_of (retired s) ≡ 0
retired_bit Unused = refl
retired_bit (Buffered message clear grants) = refl
retired_bit (Retired clear grants) = refl

pub retired_most : (s : Bare) → most_holds (retired s) ≡ most_holds s
retired_most Unused = refl
retired_most (Buffered message clear grants) = refl
retired_most (Retired clear grants) = refl

-- a poll that finds so many holds
pub polled_bit : (b : Bool) (s : Bare) → bit_of (polled b s) ≡ bit_of s
polled_bit true s = refl
polled_bit false Unused = refl
polled_bit false (Buffered message clear grants) = refl
polled_bit false (Retired clear grants) = refl

pub polled_most : (b : Bool) (s : Bare) → most_holds (polled b s) ≤ most_holds s
polled_most true s = omega arith
polled_most false Unused = omega arith
polled_most false (Buffered message clear grants) = omega arith
polled_most false (Retired clear grants) = omega arith

pub polled_few : (n : ℕ) (s : Bare) → n ≤ most_holds s → n ≤ most_holds (polled (ltb 0 n) s)
polled_few zero s le = omega arith
polled_few (suc n) s le = let some : ltb 0 (suc n) ≡ true = grind arith in rw some le

-- the holds that a word shows
pub holds_are : (s : Bare) (word n : ℕ) → word ≡ bit_of s + 2 * n → holds_in s word ≡ n
holds_are s word n is = let twice : word - bit_of s ≡ 2 * n = omega arith in omega (arith, twice)

pub is_same : (i : ℕ) → is_of i (Some i) ≡ 1
is_same i = rw (eq-eqb i i refl) refl

pub is_other : (k i : ℕ) → k ≢ i → is_of k (Some i) ≡ 0
is_other k i other = rw (ne_eqb i k (λ same. other (sym same))) refl
