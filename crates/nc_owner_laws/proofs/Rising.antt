-- What an owner keeps as sets ascends.
use Rattle.std.proofs.Common.{◌≡◌, ◌≢◌, ℕ, suc, ◌<◌, ◌≤◌, Bool, true, false, cond, not, List, [], ◌∷◌, Option, Some, None, refl, sym, ap, subst, arith, filter, eqb, unwrap_or}
use Rattle.std.specs.Prelude.{◌==◌, insert, nat_eq, nat_lt, bytes_eq}
use Rattle.std.specs.Option.{option_map}
use Rattle.std.specs.List.{AllByRecursion}
use Rattle.std.specs.List.Sorted.{IsStrictlySortedBy}
use Rattle.std.proofs.lemmas.Bool.{or_parts}
use Rattle.std.proofs.lemmas.Bool.Decides.{nat_tests}
use Rattle.nc_types.specs.Id.{Id}
use Rattle.nc_journal.specs.declared.event.Event.{Event}
use Rattle.nc_journal.specs.declared.event.Event.TheVariants.{Stored, Left, Looked, Joined, Parted, Granted, Freed, Removed}
use Rattle.nc_journal.proofs.Cuts.{all-weaker}
use Rattle.nc_slots.specs.Slot.{slot_at}
use Rattle.nc_owner.specs.declared.channel.Channel.{Channel}
use Rattle.nc_owner.specs.declared.desk.Desk.{Desk}
use Rattle.nc_owner.specs.declared.member.Member.{Member}
use Rattle.nc_owner.specs.Ascending.{place_above, with_number, has_number, with_new_number}
use Rattle.nc_owner.specs.Members.{member_cmp, with_member}
use Rattle.nc_owner_laws.specs.Used.{is_retired, bit, times}
use Rattle.nc_owner_laws.specs.OwnerTold.{desk_of, channel_of, channel_with, with_look, parted_channel, made}
use Rattle.nc_owner_laws.specs.Filters.{new_desk, members_in, marks_in}
use Rattle.nc_owner_laws.specs.Ascends.{IsAscending, StandsAscends}
use Rattle.nc_owner_laws.proofs.Kept.{all_filtered, bit_le}
use Rattle.nc_owner_laws.proofs.Sets.{member_total, sorted_inserted, sorted_removed}
use Rattle.nc_owner_laws.proofs.Shelf.{sorted_none}

-- ---- a number is put in at its place

put_case : (b : Bool) (p y : ℕ) (ys : List ℕ) (x : ℕ) → insert (y ∷ ys) (cond b 0 (suc p)) x ≡ cond b (x ∷ y ∷ ys) (y ∷ insert ys p x)
put_case true p y ys x = refl
put_case false p y ys x = refl

put_cons : (x y : ℕ) (ys : List ℕ) → with_number (y ∷ ys) x ≡ cond (nat_lt x y) (x ∷ y ∷ ys) (y ∷ with_number ys x)
put_cons x y ys = put_case (nat_lt x y) (place_above x ys) y ys x

all_put : (P : ℕ → Type 0) (xs : List ℕ) (x : ℕ) → AllByRecursion P xs → P x → AllByRecursion P (with_number xs x)
all_put P [] x a p = (p, tt)
all_put P (y ∷ ys) x a p = subst (AllByRecursion P) (sym (put_cons x y ys)) (by (nat_lt x y) (all_put P ys x a.1 p))
  where
    by : (b : Bool) → AllByRecursion P (with_number ys x) → AllByRecursion P (cond b (x ∷ y ∷ ys) (y ∷ with_number ys x))
    by true h = (p, a)
    by false h = (a.0, h)

-- ---- retired slots

-- no number is above one behind it
abbrev IsSorted : List ℕ → Type 0
IsSorted [] = Unit {0}
IsSorted (x ∷ xs) = AllByRecursion (λ y. x ≤ y) xs × IsSorted xs

sorted_put : (xs : List ℕ) (x : ℕ) → IsSorted xs → IsSorted (with_number xs x)
sorted_put [] x s = (tt, tt)
sorted_put (y ∷ ys) x s = subst IsSorted (sym (put_cons x y ys)) (by (nat_lt x y) refl (sorted_put ys x s.1))
  where
    by : (b : Bool) → nat_lt x y ≡ b → IsSorted (with_number ys x) → IsSorted (cond b (x ∷ y ∷ ys) (y ∷ with_number ys x))
    by true e h = let lt : x < y = grind (arith, nat_tests) in ((omega (arith, lt), all-weaker (λ z. y ≤ z) (λ z. x ≤ z) (λ z le. omega (arith, lt, le)) ys s.0), s)
    by false e h = let le : y ≤ x = grind (arith, nat_tests) in (all_put (λ z. y ≤ z) ys x s.0 le, h)

sorted_filtered : (test : ℕ → Bool) (xs : List ℕ) → IsSorted xs → IsSorted (filter test xs)
sorted_filtered test [] s = tt
sorted_filtered test (x ∷ xs) s = by (test x) (sorted_filtered test xs s.1)
  where
    by : (b : Bool) → IsSorted (filter test xs) → IsSorted (cond b (x ∷ filter test xs) (filter test xs))
    by true h = (all_filtered (λ y. x ≤ y) test xs s.0, h)
    by false h = h

retired_sorted : (d : Desk) (h : List Event) → IsSorted d.retired → IsSorted (desk_of d h).retired
retired_sorted d [] s = s
retired_sorted d (Stored w c id slot len exp true members from r ct body ∷ h) s = retired_sorted d h s
retired_sorted d (Stored w c id slot len exp false members from r ct body ∷ h) s = sorted_put (desk_of d h).retired slot (retired_sorted d h s)
retired_sorted d (Left w c id slot cause ∷ h) s = sorted_put (desk_of d h).retired slot (retired_sorted d h s)
retired_sorted d (Freed w slot ∷ h) s = sorted_filtered (λ y. not (y == slot)) (desk_of d h).retired (retired_sorted d h s)
retired_sorted d (e ∷ h) s = retired_sorted d h s

above_all : (x : ℕ) (xs : List ℕ) → AllByRecursion (λ y. x ≤ y) xs → times x xs ≡ 0 → AllByRecursion (λ y. x < y) xs
above_all x [] a none = tt
above_all x (y ∷ ys) a none = (by (eqb y x) refl (omega (arith, none)), above_all x ys a.1 (omega (arith, none)))
  where
    by : (b : Bool) → eqb y x ≡ b → bit b ≡ 0 → x < y
    by true e zero = absurd (omega (arith, zero))
    by false e zero = let other : y ≢ x = grind (arith, nat_tests) in grind (arith, a.0, other)

ascends_once : (xs : List ℕ) → IsSorted xs → ((k : ℕ) → times k xs ≤ 1) → IsAscending xs
ascends_once [] s once = tt
ascends_once (x ∷ xs) s once =
    (above_all x xs s.0 (let one = once x in let here : bit (eqb x x) ≡ 1 = self x in omega (arith, one, here)), ascends_once xs s.1 (λ k. omega (arith, once k)))
  where
    self : (n : ℕ) → bit (eqb n n) ≡ 1
    self n = let same : eqb n n ≡ true = grind (arith, nat_tests) in ap bit same

-- ---- marks

ascends_put : (xs : List ℕ) (x : ℕ) → IsAscending xs → has_number x xs ≡ false → IsAscending (with_number xs x)
ascends_put [] x s none = (tt, tt)
ascends_put (y ∷ ys) x s none =
    let parts = or_parts (nat_eq x y) (has_number x ys) none in
    subst IsAscending (sym (put_cons x y ys)) (by (nat_lt x y) refl parts.0 (ascends_put ys x s.1 parts.1))
  where
    by : (b : Bool) → nat_lt x y ≡ b → nat_eq x y ≡ false → IsAscending (with_number ys x) → IsAscending (cond b (x ∷ y ∷ ys) (y ∷ with_number ys x))
    by true e other h = let lt : x < y = grind (arith, nat_tests) in ((lt, all-weaker (λ z. y < z) (λ z. x < z) (λ z le. omega (arith, lt, le)) ys s.0), s)
    by false e other h = let lt : y < x = grind (arith, nat_tests) in (all_put (λ z. y < z) ys x s.0 lt, h)

ascends_new : (xs : List ℕ) (x : ℕ) → IsAscending xs → IsAscending (with_new_number xs x)
ascends_new xs x s = by (has_number x xs) refl
  where
    by : (b : Bool) → has_number x xs ≡ b → IsAscending (cond b xs (with_number xs x))
    by true e = s
    by false e = ascends_put xs x s e

marks_looked : (from : ℕ) (past : Option Id) (ch : Channel) → IsAscending ch.marks → IsAscending (with_look from past ch).marks
marks_looked from None ch s = ascends_new ch.marks from s
marks_looked from (Some id) ch s = s

-- the marks of a channel, or of one that is made
opened_marks : (spent : Id) (o : Option Channel) → IsAscending (marks_in o) → IsAscending (unwrap_or o (made spent)).marks
opened_marks spent None s = tt
opened_marks spent (Some ch) s = s

mapped_marks : (f : Channel → Channel) (o : Option Channel) → ((ch : Channel) → (f ch).marks ≡ ch.marks) → IsAscending (marks_in o) → IsAscending (marks_in (option_map f o))
mapped_marks f None same s = tt
mapped_marks f (Some ch) same s = subst IsAscending (sym (same ch)) s

either_marks : (b : Bool) (x o : Option Channel) → IsAscending (marks_in x) → IsAscending (marks_in o) → IsAscending (marks_in (cond b x o))
either_marks true x o p q = p
either_marks false x o p q = q

marks_with : (c : List ℕ) (spent : Id) (o : Option Channel) (e : Event) → IsAscending (marks_in o) → IsAscending (marks_in (channel_with c spent o e))
marks_with c spent o (Stored w name id slot len exp kept members from r ct body) s = either_marks (bytes_eq name c) _ o tt s
marks_with c spent o (Left w name id slot cause) s = either_marks (bytes_eq name c) _ o (mapped_marks _ o (λ ch. refl) s) s
marks_with c spent o (Looked w q from number name after floor past) s = either_marks (bytes_eq name c) _ o (marks_looked from past (unwrap_or o (made spent)) (opened_marks spent o s)) s
marks_with c spent o (Joined w name from k) s = either_marks (bytes_eq name c) _ o (opened_marks spent o s) s
marks_with c spent o (Parted w name from k) s = either_marks (bytes_eq name c) _ o (mapped_marks _ o (λ ch. refl) s) s
marks_with c spent o (Granted w g slot to) s = mapped_marks _ o (λ ch. refl) s
marks_with c spent o (Removed w name last cause) s = either_marks (bytes_eq name c) None o tt s
marks_with c spent o e s = s

marks_ascend : (d : Desk) (c : List ℕ) (h : List Event) → IsAscending (marks_in (channel_of d c h))
marks_ascend d c [] = tt
marks_ascend d c (e ∷ h) = marks_with c (desk_of d h).spent (channel_of d c h) e (marks_ascend d c h)

-- ---- members

abbrev AreSorted : List Member → Type 0
AreSorted ms = IsStrictlySortedBy member_cmp ms

none_sorted : AreSorted []
none_sorted = sorted_none member_cmp

opened_members : (spent : Id) (o : Option Channel) → AreSorted (members_in o) → AreSorted (unwrap_or o (made spent)).members
opened_members spent None s = s
opened_members spent (Some ch) s = s

mapped_members : (f : Channel → Channel) (o : Option Channel) → ((ch : Channel) → AreSorted ch.members → AreSorted (f ch).members) → AreSorted (members_in o) → AreSorted (members_in (option_map f o))
mapped_members f None keeps s = s
mapped_members f (Some ch) keeps s = keeps ch s

either_members : (b : Bool) (x o : Option Channel) → AreSorted (members_in x) → AreSorted (members_in o) → AreSorted (members_in (cond b x o))
either_members true x o p q = p
either_members false x o p q = q

looked_members : (from : ℕ) (past : Option Id) (ch : Channel) → AreSorted ch.members → AreSorted (with_look from past ch).members
looked_members from None ch s = s
looked_members from (Some id) ch s = s

put_member : (m : Member) (ms : List Member) → AreSorted ms → AreSorted (with_member m ms)
put_member m ms s = sorted_inserted member_total m ms s

take_member : (m : Member) (ch : Channel) → AreSorted ch.members → AreSorted (parted_channel m ch).members
take_member m ch s = sorted_removed member_total _ ch.members s

members_with : (c : List ℕ) (spent : Id) (o : Option Channel) (e : Event) → AreSorted (members_in o) → AreSorted (members_in (channel_with c spent o e))
members_with c spent o (Stored w name id slot len exp kept members from r ct body) s = either_members (bytes_eq name c) _ o (opened_members spent o s) s
members_with c spent o (Left w name id slot cause) s = either_members (bytes_eq name c) _ o (mapped_members _ o (λ ch t. t) s) s
members_with c spent o (Looked w q from number name after floor past) s = either_members (bytes_eq name c) _ o (looked_members from past (unwrap_or o (made spent)) (opened_members spent o s)) s
members_with c spent o (Joined w name from k) s = either_members (bytes_eq name c) _ o (put_member (record { from = from; k = k }) (unwrap_or o (made spent)).members (opened_members spent o s)) s
members_with c spent o (Parted w name from k) s = either_members (bytes_eq name c) _ o (mapped_members _ o (take_member (record { from = from; k = k })) s) s
members_with c spent o (Granted w g slot to) s = mapped_members _ o (λ ch t. t) s
members_with c spent o (Removed w name last cause) s = either_members (bytes_eq name c) None o none_sorted s
members_with c spent o e s = s

members_ascend : (d : Desk) (c : List ℕ) (h : List Event) → AreSorted (members_in (channel_of d c h))
members_ascend d c [] = none_sorted
members_ascend d c (e ∷ h) = members_with c (desk_of d h).spent (channel_of d c h) e (members_ascend d c h)

pub stands_ascends : StandsAscends
stands_ascends me workers slots first row h s k =
    let d = new_desk me workers slots first in
    record {
      retired = ascends_once s.desk.retired (subst (λ (x : Desk). IsSorted x.retired) (sym k.tells.desk) (retired_sorted d h tt)) (λ slot. omega (arith, k.fits.apart.of_retired slot, bit_le (is_retired (slot_at row slot))));
      members = λ c. subst (λ (o : Option Channel). IsStrictlySortedBy member_cmp (members_in o)) (sym (k.tells.channels c)) (members_ascend d c h);
      marks = λ c. subst (λ (o : Option Channel). IsAscending (marks_in o)) (sym (k.tells.channels c)) (marks_ascend d c h);
    }
