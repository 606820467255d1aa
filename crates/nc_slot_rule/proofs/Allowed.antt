-- Each step keeps the rule of slots.
use Rattle.std.proofs.Common.{◌≡◌, ◌≢◌, ℕ, zero, suc, ◌+◌, ◌*◌, ◌-◌, ◌<◌, ◌≤◌, ◌%◌, ◌^◌, true, List, [], ◌∷◌, ◌++◌, length, set, get_or, replicate, Some, None, refl, sym, ap, ◌∙◌, subst, arith, ltb, length-set, get_or-set_other, get_or-set_same}
use Rattle.std.proofs.lemmas.List.{length-replicate}
use mathlib.Core.Option.{none, some}
use mathlib.Core.Logic.{dite}
use native.Mathlib.Decide.{ℕ_discrete}
use lib.ListN.{get_elem?}
use Rattle.atomic_table.specs.Table.{State, Me, step, Allows, Splits}
use Rattle.atomic_table.specs.Table.Act.{keeps}
use Rattle.nc_slots.specs.Slot.{is_unused, is_buffered, most_holds, filled, granted, retired, polled, CanGrant}
use Rattle.nc_slots.specs.declared.slot.Slot.TheVariants.{Unused}
use Rattle.nc_slot_rule.specs.declared.view.Seen.{Seen}
use Rattle.nc_slot_rule.specs.Views.{Bare, bit_of, seen, Owns, slot_in, with_slot, all_unused, without_grant, hold_of, rest_of, part_of}
use Rattle.nc_slot_rule.specs.Rule.{total, value_at, one, own, bit, most, held, live, IsKept, Kept}
use Rattle.nc_slot_rule.specs.Steps.{holds_in, puts, grants, releases, unbuffers, polls}
use Rattle.nc_slot_rule.proofs.Sums.{total_set, total_snoc, total_ge, total_zero, alone, value_here, value_else, slot_set, value_zero, value_cut, value_replicate, own_replicate}
use Rattle.nc_slot_rule.proofs.Bares.{unused_bit, unused_most, bit_least, granted_bit, granted_more, granted_most, buffered_bit, retired_bit, retired_most, polled_bit, polled_most, polled_few, holds_are, is_same, is_other}

-- the rule of the table
abbrev Rule : {S : Type 0} → State S Seen → Type 0
Rule s = Kept s.words s.views

-- what a seat has of a word, as it counts for the rule
abbrev Same : ℕ → Seen → Seen → Type 0
Same k v w = (bit k w ≡ bit k v) × (held k w ≡ held k v) × (most k w ≡ most k v) × (own k w ≡ own k v)

-- a word that the step leaves alone
else_kept : (words : List ℕ) (views : List Seen) (id i n k : ℕ) (v w : Seen) → IsKept words views k → get_elem? views id ≡ some v → k ≢ i → Same k v w → IsKept (set words i n) (set views id w) k
else_kept words views id i n k v w h e other same =
    let b = total_set (bit k) views id v w e in
    let o = total_set (held k) views id v w e in
    let c = total_set (most k) views id v w e in
    let m = total_set (own k) views id v w e in
    record {
      counts = get_or-set_other words i k n 0 other ∙ omega (arith, h.counts, same.0, same.1);
      few = omega (arith, h.few, same.1, same.2);
      bound = omega (arith, h.bound, same.2);
      one_owner = omega (arith, h.one_owner, same.3);
      there = λ some_own. subst (λ x. k < x) (sym (length-set words i n)) (h.there (omega (arith, same.3)));
    }

-- the word of the step
here_kept : (words : List ℕ) (views : List Seen) (id i n : ℕ) (v w : Seen) → IsKept words views i → get_elem? views id ≡ some v → i < length words
    → own i w ≡ own i v → n + bit i v + 2 * held i v ≡ get_or words i 0 + bit i w + 2 * held i w
    → live i views + held i w + most i v ≤ total (most i) views + most i w + held i v
    → total (most i) views + most i w ≤ 4294967295 + most i v
    → IsKept (set words i n) (set views id w) i
here_kept words views id i n v w h e inside same balance few bound =
    let b = total_set (bit i) views id v w e in
    let o = total_set (held i) views id v w e in
    let c = total_set (most i) views id v w e in
    let m = total_set (own i) views id v w e in
    record {
      counts = get_or-set_same words i n 0 inside ∙ omega (arith, h.counts);
      few = omega arith;
      bound = omega arith;
      one_owner = omega (arith, h.one_owner);
      there = λ some_own. subst (λ x. i < x) (sym (length-set words i n)) inside;
    }

own_here : (v : Seen) (i : ℕ) → Owns v i → own i v ≡ 1
own_here v i h = value_here one v.first i (i - v.first) v.row (omega (arith, h.0)) (omega (arith, h.0, h.1))

-- an owner's word is there, and what the owner knows of its slot is what all seats together do
inside : (words : List ℕ) (views : List Seen) (id i : ℕ) (v : Seen) → IsKept words views i → get_elem? views id ≡ some v → Owns v i → i < length words
inside words views id i v h e mine = let at_least = total_ge (own i) views id v e in h.there (omega (arith, own_here v i mine))

had : (f : Bare → ℕ) (v : Seen) (i : ℕ) → Owns v i → value_at f v.first i v.row ≡ f (slot_in v i)
had f v i mine = value_here f v.first i (i - v.first) v.row (omega (arith, mine.0)) (omega (arith, mine.0, mine.1))

only : (f : Bare → ℕ) (words : List ℕ) (views : List Seen) (id i : ℕ) (v : Seen) → IsKept words views i → get_elem? views id ≡ some v → Owns v i → total (λ (u : Seen). value_at f u.first i u.row) views ≡ f (slot_in v i)
only f words views id i v h e mine =
    alone (λ (u : Seen). value_at f u.first i u.row) (own i) (λ u none. value_zero f u.first i u.row none) views id v e h.one_owner (omega (arith, own_here v i mine)) ∙ had f v i mine

only_most : (words : List ℕ) (views : List Seen) (id i : ℕ) (v : Seen) → IsKept words views i → get_elem? views id ≡ some v → Owns v i → total (most i) views ≡ most_holds (slot_in v i)
only_most = only most_holds

only_bit : (words : List ℕ) (views : List Seen) (id i : ℕ) (v : Seen) → IsKept words views i → get_elem? views id ≡ some v → Owns v i → total (bit i) views ≡ bit_of (slot_in v i)
only_bit = only bit_of

-- f of the slot that a seat is given
given : (f : Bare → ℕ) (v : Seen) (i : ℕ) (y : Bare) → Owns v i → value_at f v.first i (set v.row (i - v.first) y) ≡ f y
given f v i y mine =
    value_here f v.first i (i - v.first) (set v.row (i - v.first) y) (omega (arith, mine.0)) (omega (arith, mine.0, mine.1, length-set v.row (i - v.first) y))
    ∙ ap f (slot_set (i - v.first) v.row y (omega (arith, mine.0, mine.1)))

others : (f : Bare → ℕ) (v : Seen) (i k : ℕ) (y : Bare) → Owns v i → k ≢ i → value_at f v.first k (set v.row (i - v.first) y) ≡ value_at f v.first k v.row
others f v i k y mine other = value_else f v.first k (i - v.first) v.row y (λ same. other (omega (arith, mine.0)))

-- a step that changes the word i and what this seat knows
kept_after : (words : List ℕ) (views : List Seen) (id i n : ℕ) (v w : Seen) → Kept words views → get_elem? views id ≡ some v
    → ((k : ℕ) → k ≢ i → Same k v w) → IsKept (set words i n) (set views id w) i → Kept (set words i n) (set views id w)
kept_after words views id i n v w h e elsewhere here k = dite (ℕ_discrete k i)
    (λ same. subst (λ x. IsKept (set words i n) (set views id w) x) (sym same) here)
    (λ other. else_kept words views id i n k v w (h k) e other (elsewhere k other))

-- a step of an owner that changes the slot alone
slot_kept : (words : List ℕ) (views : List Seen) (id i n : ℕ) (v : Seen) (y : Bare) → Kept words views → get_elem? views id ≡ some v → Owns v i
    → n + bit_of (slot_in v i) ≡ get_or words i 0 + bit_of y → live i views ≤ most_holds y → most_holds y ≤ 4294967295
    → Kept (set words i n) (set views id (with_slot v i y))
slot_kept words views id i n v y h e mine balance few bound =
    let w = with_slot v i y in
    let hi = h i in
    let caps = only_most words views id i v hi e mine in
    let b : bit i w ≡ bit_of y = given bit_of v i y mine in
    let c : most i w ≡ most_holds y = given most_holds v i y mine in
    let o : own i w ≡ 1 = given one v i y mine in
    let b' : bit i v ≡ bit_of (slot_in v i) = had bit_of v i mine in
    let c' : most i v ≡ most_holds (slot_in v i) = had most_holds v i mine in
    kept_after words views id i n v w h e
    (λ k other. (others bit_of v i k y mine other, refl, others most_holds v i k y mine other, others one v i k y mine other))
    (here_kept words views id i n v w hi e (inside words views id i v hi e mine) (o ∙ sym (own_here v i mine)) (omega arith) (omega arith) (omega arith))

positive : (n : ℕ) → (n ≡ 0 → ⊥) → 0 < n
positive n h = grind (arith, h)

module _ {S : Type 0} where
  pub put_allowed : (slots id i : ℕ) (me : Me S Seen) → Owns me.0 i → is_unused (slot_in me.0 i) ≡ true → Allows Rule slots id me i (λ _. 1) (puts (step slots i 1 0 none) me)
  put_allowed slots id i me mine was s h len e small =
      let hi = h i in
      let caps = only_most s.words s.views id i me.0 hi e mine in
      let bits = only_bit s.words s.views id i me.0 hi e mine in
      let no_most = unused_most (slot_in me.0 i) was in
      let no_bit = unused_bit (slot_in me.0 i) was in
      let found : get_or s.words i 0 ≡ 0 = omega (arith, hi.counts, hi.few) in (
        with_slot me.0 i (filled tt),
        keeps,
        tt,
        slot_kept s.words s.views id i 1 me.0 (filled tt) h e mine (omega arith) (omega (arith, hi.few)) (omega arith),
        (found, refl),
      )

  pub grant_allowed : (slots id i : ℕ) (me : Me S Seen) → Owns me.0 i → CanGrant (slot_in me.0 i) → me.0.granting ≡ None
      → Allows Rule slots id me i (λ n. (n + 2) % 2 ^ 64) (grants (step slots i 2 0 none) me)
  grant_allowed slots id i me mine can idle s h len e small =
      let x = slot_in me.0 i in let y = granted x in
      let w = seen me.0.per me.0.first (set me.0.row (i - me.0.first) y) (Some i) me.0.hold in
      let hi = h i in
      let room = inside s.words s.views id i me.0 hi e mine in
      let caps = only_most s.words s.views id i me.0 hi e mine in
      let bits = only_bit s.words s.views id i me.0 hi e mine in
      let b : bit i w ≡ bit_of x = given bit_of me.0 i y mine ∙ granted_bit x in
      let c : most i w ≡ most_holds y = given most_holds me.0 i y mine in
      let o : own i w ≡ 1 = given one me.0 i y mine in
      let b' : bit i me.0 ≡ bit_of x = had bit_of me.0 i mine in
      let c' : most i me.0 ≡ most_holds x = had most_holds me.0 i mine in
      let more = granted_more x can in let bound = granted_most x can in let b2 = bit_least x in
      let one_more : held i w ≡ 1 + held i me.0 = rw (idle, is_same i) (omega arith) in
      let fits : (get_or s.words i 0 + 2) % 2 ^ 64 ≡ get_or s.words i 0 + 2 = omega (arith, hi.counts, hi.few, hi.bound) in (
        w,
        keeps,
        tt,
        kept_after s.words s.views id i ((get_or s.words i 0 + 2) % 2 ^ 64) me.0 w h e
            (λ k other. (others bit_of me.0 i k y mine other, rw (idle, is_other k i other) (omega arith), others most_holds me.0 i k y mine other, others one me.0 i k y mine other))
            (here_kept s.words s.views id i ((get_or s.words i 0 + 2) % 2 ^ 64) me.0 w hi e room (o ∙ sym (own_here me.0 i mine)) (omega arith) (omega (arith, hi.few)) (omega arith)),
        refl,
      )

  pub release_allowed : (slots id i : ℕ) (me : Me S Seen) → me.0.hold ≡ Some i → Allows Rule slots id me i (λ n. (n + (2 ^ 64 - 2)) % 2 ^ 64) (releases (step slots i 2 0 none) me)
  release_allowed slots id i me lives s h len e small =
      let w = seen me.0.per me.0.first me.0.row me.0.granting None in
      let hi = h i in
      let one_less : held i me.0 ≡ held i w + 1 = rw (lives, is_same i) (omega arith) in
      let at_least = total_ge (held i) s.views id me.0 e in
      let none_then = total_zero (most i) (own i) (λ u nothing. value_zero most_holds u.first i u.row nothing) s.views in
      let room : i < length s.words = hi.there (positive (total (own i) s.views) (λ zero_own. let z = none_then zero_own in omega (arith, hi.few))) in
      let enough : 2 ≤ get_or s.words i 0 = omega (arith, hi.counts) in
      let fits : (get_or s.words i 0 + (2 ^ 64 - 2)) % 2 ^ 64 + 2 ≡ get_or s.words i 0 = omega (arith, small) in (
        w,
        keeps,
        tt,
        kept_after s.words s.views id i ((get_or s.words i 0 + (2 ^ 64 - 2)) % 2 ^ 64) me.0 w h e
            (λ k other. (refl, rw (lives, is_other k i other) (omega arith), refl, refl))
            (here_kept s.words s.views id i ((get_or s.words i 0 + (2 ^ 64 - 2)) % 2 ^ 64) me.0 w hi e room refl (omega arith) (omega (arith, hi.few)) (omega (arith, hi.bound))),
        (enough, refl),
      )

  pub unbuffer_allowed : (slots id i : ℕ) (me : Me S Seen) → Owns me.0 i → is_buffered (slot_in me.0 i) ≡ true → Allows Rule slots id me i (λ n. (n + (2 ^ 64 - 1)) % 2 ^ 64) (unbuffers (step slots i 1 0 none) me)
  unbuffer_allowed slots id i me mine was s h len e small =
      let x = slot_in me.0 i in
      let hi = h i in
      let caps = only_most s.words s.views id i me.0 hi e mine in
      let bits = only_bit s.words s.views id i me.0 hi e mine in
      let one_bit = buffered_bit x was in let no_bit = retired_bit x in let same = retired_most x in
      let fits : (get_or s.words i 0 + (2 ^ 64 - 1)) % 2 ^ 64 + 1 ≡ get_or s.words i 0 = omega (arith, small, hi.counts) in (
        with_slot me.0 i (retired x),
        keeps,
        tt,
        slot_kept s.words s.views id i ((get_or s.words i 0 + (2 ^ 64 - 1)) % 2 ^ 64) me.0 (retired x) h e mine (omega arith) (omega (arith, hi.few)) (omega (arith, hi.bound)),
        refl,
      )

  pub poll_allowed : (slots id i : ℕ) (me : Me S Seen) → Owns me.0 i → Allows Rule slots id me i (λ n. n) (polls (step slots i 0 0 none) me)
  poll_allowed slots id i me mine s h len e small =
      let x = slot_in me.0 i in
      let found = get_or s.words i 0 in
      let n = live i s.views in
      let hi = h i in
      let caps = only_most s.words s.views id i me.0 hi e mine in
      let bits = only_bit s.words s.views id i me.0 hi e mine in
      let word : found ≡ bit_of x + 2 * n = omega (arith, hi.counts) in
      let holds : holds_in x found ≡ n = holds_are x found n word in
      let few : n ≤ most_holds x = omega (arith, hi.few) in
      let y = polled (ltb 0 (holds_in x found)) x in
      let same = polled_bit (ltb 0 (holds_in x found)) x in
      let fewer = polled_most (ltb 0 (holds_in x found)) x in
      let still : holds_in x found ≤ most_holds y = polled_few (holds_in x found) x (omega arith) in (
        with_slot me.0 i y,
        keeps,
        tt,
        slot_kept s.words s.views id i found me.0 y h e mine (omega arith) (omega arith) (omega (arith, hi.bound)),
        (refl, omega arith, omega arith),
      )

  -- ---- seats

  split_kept : (s : State S Seen) (id : ℕ) (v left right : Seen) → Rule s → get_elem? s.views id ≡ some v
      → ((k : ℕ) → (bit k left + bit k right ≡ bit k v) × (held k left + held k right ≡ held k v) × (most k left + most k right ≡ most k v) × (own k left + own k right ≡ own k v))
      → Rule {S = S} record { words = s.words; homes = s.homes; views = set s.views id left ++ right ∷ [] }
  split_kept s id v left right h e parts k =
      let p = parts k in
      let hk = h k in
      let b = total_set (bit k) s.views id v left e in let b2 = total_snoc (bit k) (set s.views id left) right in
      let o = total_set (held k) s.views id v left e in let o2 = total_snoc (held k) (set s.views id left) right in
      let c = total_set (most k) s.views id v left e in let c2 = total_snoc (most k) (set s.views id left) right in
      let m = total_set (own k) s.views id v left e in let m2 = total_snoc (own k) (set s.views id left) right in
      record {
        counts = omega (arith, hk.counts, p.0, p.1);
        few = omega (arith, hk.few, p.1, p.2);
        bound = omega (arith, hk.bound, p.2);
        one_owner = omega (arith, hk.one_owner, p.3);
        there = λ some_own. hk.there (omega (arith, p.3));
      }

  pub to_hold : (id : ℕ) (v : Seen) → Splits (Rule {S = S}) id v (without_grant v) (hold_of v)
  to_hold id v s h e = split_kept s id v (without_grant v) (hold_of v) h e (λ k. (omega arith, omega arith, omega arith, omega arith))

  pub to_owner : (id : ℕ) (v : Seen) → Splits (Rule {S = S}) id v (rest_of v) (part_of v)
  to_owner id v s h e = split_kept s id v (rest_of v) (part_of v) h e
      (λ k. (omega (arith, value_cut bit_of v.first k v.per v.row), omega arith, omega (arith, value_cut most_holds v.first k v.per v.row), omega (arith, value_cut one v.first k v.per v.row)))

pub at_least_one : (i n : ℕ) → i < n → 0 < n
at_least_one i n h = omega arith

-- ---- the start

zeros : (i n : ℕ) → get_or {A = ℕ} (replicate n 0) i 0 ≡ 0
zeros i zero = refl
zeros zero (suc n) = refl
zeros (suc i) (suc n) = zeros i n

pub begins : (per count : ℕ) (words : List ℕ) → words ≡ replicate count 0 → Kept words (all_unused per count ∷ [])
begins per count words e i =
    let len : length words ≡ count = ap length e ∙ length-replicate count 0 in
    let b = value_replicate bit_of 0 i count Unused refl in
    let c = value_replicate most_holds 0 i count Unused refl in
    let o = own_replicate 0 i count Unused in
    record {
      counts = ap (λ (l : List ℕ). get_or l i 0) e ∙ zeros i count ∙ omega arith;
      few = omega arith;
      bound = omega arith;
      one_owner = omega (arith, o.0);
      there = λ some_own. let k = o.1 (omega arith) in omega arith;
    }

-- ---- what the rule means

pub clear_unheld : (words : List ℕ) (views : List Seen) (owner word : ℕ) (v : Seen) → Kept words views → get_elem? views owner ≡ some v → Owns v word → most_holds (slot_in v word) ≡ 0 → live word views ≡ 0
clear_unheld words views owner word v h e mine none_left = let c = only_most words views owner word v (h word) e mine in omega (arith, (h word).few)

pub word_counts : (words : List ℕ) (views : List Seen) (owner word : ℕ) (v : Seen) → Kept words views → get_elem? views owner ≡ some v → Owns v word → holds_in (slot_in v word) (get_or words word 0) ≡ live word views
word_counts words views owner word v h e mine =
    let b = only_bit words views owner word v (h word) e mine in
    holds_are (slot_in v word) (get_or words word 0) (live word views) (omega (arith, (h word).counts))

pub held_kept : (words : List ℕ) (views : List Seen) (owner holder word : ℕ) (v w : Seen) → Kept words views → get_elem? views owner ≡ some v → Owns v word → get_elem? views holder ≡ some w → w.hold ≡ Some word → 0 < most_holds (slot_in v word)
held_kept words views owner holder word v w h e mine at lives =
    let c = only_most words views owner word v (h word) e mine in
    let one_hold : 1 ≤ held word w = rw (lives, is_same word) (omega arith) in
    let at_least = total_ge (held word) views holder w at in omega (arith, (h word).few)

pub unused_zero : (words : List ℕ) (views : List Seen) (owner word : ℕ) (v : Seen) → Kept words views → get_elem? views owner ≡ some v → Owns v word → is_unused (slot_in v word) ≡ true → get_or words word 0 ≡ 0
unused_zero words views owner word v h e mine is =
    let b = only_bit words views owner word v (h word) e mine in let c = only_most words views owner word v (h word) e mine in
    let no_bit = unused_bit (slot_in v word) is in let no_most = unused_most (slot_in v word) is in
    omega (arith, (h word).counts, (h word).few)

pub freed_unheld : (words : List ℕ) (views : List Seen) (owner word : ℕ) (v : Seen) → Kept words views → get_elem? views owner ≡ some v → Owns v word → is_unused (slot_in v word) ≡ true → live word views ≡ 0
freed_unheld words views owner word v h e mine is = clear_unheld words views owner word v h e mine (unused_most (slot_in v word) is)
