-- A hold that a worker took and hasn't released is of the message that the slot had when it was granted.
use Rattle.std.proofs.Common.{◌≡◌, inl, inr, ℕ, ◌+◌, ◌-◌, ◌<◌, Bool, true, false, cond, List, [], ◌∷◌, ◌++◌, refl, sym, ap, ◌∙◌, subst, arith}
use Rattle.std.specs.Prelude.{◌==◌, ◌&&◌}
use Rattle.nc_types.specs.Id.{Id}
use Rattle.nc_types.specs.Channel.{owner_of}
use Rattle.nc_journal.specs.Holding.{holds, times_so, grants_slot, releases_slot, releases_number, frees_slot, WasGranted, MadeCarrying, WasTaken, StoresIn, HoldsMessage, IsSlotRule}
use Rattle.nc_journal.specs.declared.event.Event.{Event}
use Rattle.nc_journal.specs.declared.event.Event.TheVariants.{Stored, Granted, Released, Freed, Made, Took}
use Rattle.nc_journal.specs.declared.word.AlertKind.TheVariants as kinds
use Rattle.nc_journal.specs.declared.alert.AlertLine.TheVariants as lines
use Rattle.nc_journal.proofs.Holdings.{holds_law}
use Rattle.nc_world_laws.proofs.Local.{eqb_self, eq_of}
use Rattle.nc_world_sent_holds.proofs.Granted.{IsStored, IsGranted, IsMade, IsTaken}

-- ---- counts

times_rest : (test : Event → Bool) (e : Event) (h : List Event) → times_so test (e ∷ h) ≡ 0 → times_so test h ≡ 0
times_rest test e h none = by (test e) none
  where
    by : (b : Bool) → cond b (times_so test h + 1) (times_so test h) ≡ 0 → times_so test h ≡ 0
    by true k = absurd (omega (arith, k))
    by false k = k

times_front : (test : Event → Bool) (xs ys : List Event) → times_so test (xs ++ ys) ≡ 0 → times_so test xs ≡ 0
times_front test [] ys none = refl
times_front test (e ∷ xs) ys none = by (test e) none (times_front test xs ys)
  where
    by : (b : Bool) → cond b (times_so test (xs ++ ys) + 1) (times_so test (xs ++ ys)) ≡ 0 → (times_so test (xs ++ ys) ≡ 0 → times_so test xs ≡ 0) → cond b (times_so test xs + 1) (times_so test xs) ≡ 0
    by true k go = absurd (omega (arith, k))
    by false k go = go k

times_none : (test : Event → Bool) (e : Event) (h : List Event) → test e ≡ false → times_so test h ≡ 0 → times_so test (e ∷ h) ≡ 0
times_none test e h is none = ap (λ (b : Bool). cond b (times_so test h + 1) (times_so test h)) is ∙ none

module _ (workers slots o g slot w : ℕ) (c : List ℕ) (id : Id) where
  -- under the slot rule a slot is held of which a hold was granted and not released: the worker could still take the hold and release it
  held_some : (h : List Event) → IsSlotRule workers slots h → WasGranted o g slot w h → times_so (releases_number o g) h ≡ 0 → 0 < holds o slot h
  held_some h rule granted none = by (o == o) (slot == slot) (eqb_self o) (eqb_self slot) (holds_law workers slots (Released w o g slot ∷ Took w o 0 kinds.Notice ∷ Made o w 0 (lines.Notice c id g slot) ∷ h) whole o slot)
    where
      whole : IsSlotRule workers slots (Released w o g slot ∷ Took w o 0 kinds.Notice ∷ Made o w 0 (lines.Notice c id g slot) ∷ h)
      whole = (((rule, tt), tt), record { granted = granted; taken = inl (refl, refl, inl (refl, refl, refl, (refl, refl))); once = none })

      by : (a b : Bool) → a ≡ true → b ≡ true
          → (times_so (grants_slot o slot) h - cond (a && b) (times_so (releases_slot o slot) h + 1) (times_so (releases_slot o slot) h)) + cond (a && b) (times_so (releases_slot o slot) h + 1) (times_so (releases_slot o slot) h) ≡ times_so (grants_slot o slot) h
          → 0 < holds o slot h
      by true true i j k = omega (arith, k)
      by true false i j k = absurd cc
      by false b i j k = absurd cc

  -- so it isn't freed
  unfreed_by : (e : Event) (h : List Event) → IsSlotRule workers slots (e ∷ h) → WasGranted o g slot w h → times_so (releases_number o g) h ≡ 0 → frees_slot o slot e ≡ false
  unfreed_by (Freed v s) h rule granted none = by (v == o) (s == slot) refl refl
    where
      by : (a b : Bool) → (v == o) ≡ a → (s == slot) ≡ b → (a && b) ≡ false
      by true true i j =
          let free : holds o slot h ≡ 0 = ap (λ (z : ℕ). holds z slot h) (sym (eq_of v o i)) ∙ ap (λ (z : ℕ). holds v z h) (sym (eq_of s slot j)) ∙ rule.1.unheld in
          absurd (omega (arith, free, held_some h rule.0 granted none))
      by true false i j = refl
      by false b i j = refl
  unfreed_by e h rule granted none = refl

  was_granted : (h : List Event) → IsGranted o g slot w c id h → WasGranted o g slot w h
  was_granted [] x = absurd x
  was_granted (Granted v n s u ∷ h) (inl x) = inl (x.0, x.1, x.2, x.3)
  was_granted (Granted v n s u ∷ h) (inr x) = inr (was_granted h x)
  was_granted (e ∷ h) x = was_granted h x

  made_granted : (n : ℕ) (h : List Event) → IsMade o g slot w c id n h → IsGranted o g slot w c id h
  made_granted n [] x = absurd x
  made_granted n (Made v u m a ∷ h) (inl x) = x.4
  made_granted n (Made v u m a ∷ h) (inr x) = made_granted n h x
  made_granted n (Granted v m s u ∷ h) x = inr (made_granted n h x)
  made_granted n (e ∷ h) x = made_granted n h x

  taken_granted : (h : List Event) → IsTaken o g slot w c id h → IsGranted o g slot w c id h
  taken_granted [] x = absurd x
  taken_granted (Took v from n kind ∷ h) (inl x) = made_granted n h x.2
  taken_granted (Took v from n kind ∷ h) (inr x) = taken_granted h x
  taken_granted (Granted v m s u ∷ h) x = inr (taken_granted h x)
  taken_granted (e ∷ h) x = taken_granted h x

  -- ---- what happened since the message was stored

  record Since (X : List Event → Type 0) (h : List Event) : Type 0 where
    since : List Event
    stored : Event
    seen : List Event
    place : h ≡ since ++ stored ∷ seen
    is_stored : StoresIn c id slot stored
    so : X since
    unfreed : times_so (frees_slot o slot) since ≡ 0

  one_more : (X Y : List Event → Type 0) (e : Event) (h : List Event) → frees_slot o slot e ≡ false → ((l : List Event) → X l → Y (e ∷ l)) → Since X h → Since Y (e ∷ h)
  one_more X Y e h is f k = record {
    since = e ∷ k.since;
    stored = k.stored;
    seen = k.seen;
    place = ap (λ (l : List Event). e ∷ l) k.place;
    is_stored = k.is_stored;
    so = f k.since k.so;
    unfreed = times_none (frees_slot o slot) e k.since is k.unfreed;
  }

  abbrev Anything : List Event → Type 0
  Anything l = Unit {0}

  abbrev WereGranted : List Event → Type 0
  WereGranted l = WasGranted o g slot w l

  abbrev WereMade : ℕ → List Event → Type 0
  WereMade n l = WasGranted o g slot w l × MadeCarrying o w n g slot l

  abbrev WereTaken : List Event → Type 0
  WereTaken l = WasGranted o g slot w l × WasTaken o g slot w l

  granted_one : (e : Event) (l : List Event) → WasGranted o g slot w l → WasGranted o g slot w (e ∷ l)
  granted_one (Granted v n s u) l x = inr x
  granted_one e l x = x

  carrying_one : (n : ℕ) (e : Event) (l : List Event) → MadeCarrying o w n g slot l → MadeCarrying o w n g slot (e ∷ l)
  carrying_one n (Made v u m a) l x = inr x
  carrying_one n e l x = x

  taken_one : (e : Event) (l : List Event) → WasTaken o g slot w l → WasTaken o g slot w (e ∷ l)
  taken_one (Took v from n kind) l x = inr x
  taken_one e l x = x

  stored_since : (h : List Event) → IsStored o slot c id h → Since Anything h
  stored_since [] x = absurd x
  stored_since (Stored v d m s len exp kept members from r ct body ∷ h) (inl x) = record {
    since = [];
    stored = Stored v d m s len exp kept members from r ct body;
    seen = h;
    place = refl;
    is_stored = (x.1, x.2, x.3);
    so = tt;
    unfreed = refl;
  }
  stored_since (Stored v d m s len exp kept members from r ct body ∷ h) (inr x) = one_more Anything Anything (Stored v d m s len exp kept members from r ct body) h refl (λ l k. tt) (stored_since h x)
  stored_since (Freed v s ∷ h) x = one_more Anything Anything (Freed v s) h x.0 (λ l k. tt) (stored_since h x.1)
  stored_since (e ∷ h) x = one_more Anything Anything e h refl (λ l k. tt) (stored_since h x)

  granted_since : (h : List Event) → IsSlotRule workers slots h → times_so (releases_number o g) h ≡ 0 → IsGranted o g slot w c id h → Since WereGranted h
  granted_since [] rule none x = absurd x
  granted_since (Granted v n s u ∷ h) rule none (inl x) = one_more Anything WereGranted (Granted v n s u) h refl (λ l k. inl (x.0, x.1, x.2, x.3)) (stored_since h x.4)
  granted_since (Granted v n s u ∷ h) rule none (inr x) = one_more WereGranted WereGranted (Granted v n s u) h refl (λ l k. inr k) (granted_since h rule.0 none x)
  granted_since (e ∷ h) rule none x =
      let before = times_rest (releases_number o g) e h none in
      one_more WereGranted WereGranted e h (unfreed_by e h rule (was_granted h x) before) (granted_one e) (granted_since h rule.0 before x)

  made_since : (n : ℕ) (h : List Event) → IsSlotRule workers slots h → times_so (releases_number o g) h ≡ 0 → IsMade o g slot w c id n h → Since (WereMade n) h
  made_since n [] rule none x = absurd x
  made_since n (Made v u m a ∷ h) rule none (inl x) = one_more WereGranted (WereMade n) (Made v u m a) h refl (λ l k. (k, inl (x.0, x.1, x.2, x.3))) (granted_since h rule.0 none x.4)
  made_since n (Made v u m a ∷ h) rule none (inr x) = one_more (WereMade n) (WereMade n) (Made v u m a) h refl (λ l k. (k.0, inr k.1)) (made_since n h rule.0 none x)
  made_since n (e ∷ h) rule none x =
      let before = times_rest (releases_number o g) e h none in
      one_more (WereMade n) (WereMade n) e h (unfreed_by e h rule (was_granted h (made_granted n h x)) before) (λ l k. (granted_one e l k.0, carrying_one n e l k.1)) (made_since n h rule.0 before x)

  taken_since : (h : List Event) → IsSlotRule workers slots h → times_so (releases_number o g) h ≡ 0 → IsTaken o g slot w c id h → Since WereTaken h
  taken_since [] rule none x = absurd x
  taken_since (Took v from n kind ∷ h) rule none (inl x) = one_more (WereMade n) WereTaken (Took v from n kind) h refl (λ l k. (k.0, inl (x.0, x.1, k.1))) (made_since n h rule.0 none x.2)
  taken_since (Took v from n kind ∷ h) rule none (inr x) = one_more WereTaken WereTaken (Took v from n kind) h refl (λ l k. (k.0, inr k.1)) (taken_since h rule.0 none x)
  taken_since (e ∷ h) rule none x =
      let before = times_rest (releases_number o g) e h none in
      one_more WereTaken WereTaken e h (unfreed_by e h rule (was_granted h (taken_granted h x)) before) (λ l k. (granted_one e l k.0, taken_one e l k.1)) (taken_since h rule.0 before x)

-- the worker holds the message
pub holds_message : (workers slots g slot w : ℕ) (c : List ℕ) (id : Id) (h : List Event) → IsSlotRule workers slots h → times_so (releases_number (owner_of workers c) g) h ≡ 0 → IsTaken (owner_of workers c) g slot w c id h → HoldsMessage workers w c id h
holds_message workers slots g slot w c id h rule none x =
    let k = taken_since workers slots (owner_of workers c) g slot w c id h rule none x in
    record {
      slot = slot;
      since = k.since;
      stored = k.stored;
      seen = k.seen;
      place = k.place;
      is_stored = k.is_stored;
      g = g;
      granted = k.so.0;
      taken = k.so.1;
      unreleased = times_front (releases_number (owner_of workers c) g) k.since (k.stored ∷ k.seen) (subst (λ (l : List Event). times_so (releases_number (owner_of workers c) g) l ≡ 0) k.place none);
      unfreed = k.unfreed;
    }
