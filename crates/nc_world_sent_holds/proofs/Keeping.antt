-- The message that a slot keeps: each message that is buffered is kept in its slot.
use Rattle.std.proofs.Common.{◌≡◌, ◌⊎◌, inl, inr, ℕ, Bool, true, false, cond, not, List, [], ◌∷◌, ◌++◌, Option, Some, None, refl, sym, ap, ◌∙◌, subst, append_assoc, filter}
use Rattle.std.specs.Prelude.{◌==◌, ◌&&◌, ◌||◌, bytes_eq}
use Rattle.std.specs.List.{AllByRecursion}
use Rattle.nc_types.specs.Id.{Id, id_eq}
use Rattle.nc_journal.specs.History.{own, Along, AtEachCut}
use Rattle.nc_journal.specs.Holding.{SlotStage, Unused, Buffered, Retired, stored_stage, slot_stage}
use Rattle.nc_journal.specs.Leaving.{HasMessage, StandsFirst, LeavesBy, LeftAt}
use Rattle.nc_journal.specs.Message.{Message, stored_message, published, lets_go, is_gone, buffer}
use Rattle.nc_journal.specs.declared.event.Event.{Event}
use Rattle.nc_journal.specs.declared.event.Event.TheVariants.{Stored, Left, Freed}
use Rattle.nc_journal.specs.declared.word.LeftCause.{LeftCause}
use Rattle.nc_journal.specs.declared.word.LeftCause.TheVariants.{Expired, Length, Spent, Deleted}
use Rattle.nc_owner_laws.specs.SlotRule.{OwnersSlots}
use Rattle.nc_owner_laws.proofs.Events.{name_self, id_self}
use Rattle.nc_spool_laws.proofs.Knowledge.{same-name}
use Rattle.nc_world_laws.proofs.WorkerKinds.{IsBy}
use Rattle.nc_world_laws.proofs.Local.{eqb_self, eq_of, own_one}
use Rattle.nc_world_sent_holds.proofs.Granted.{not_second, IsStored}

-- a message by its channel and its id
pub record Named : Type 0 where
  pub chan : List ℕ
  pub id : Id

abbrev pub named : List ℕ → Id → Named
named c id = record { chan = c; id = id }

-- the message that a slot keeps, by the last event that names the slot in the local history of its owner
abbrev kept_as : Bool → List ℕ → Id → Option Named
kept_as kept c id = cond kept (Some (named c id)) None

abbrev pub kept_in : ℕ → List Event → Option Named
kept_in s [] = None
kept_in s (Stored w c id slot len exp kept members from r ct body ∷ h) = cond (slot == s) (kept_as kept c id) (kept_in s h)
kept_in s (Left w c id slot cause ∷ h) = cond (slot == s) None (kept_in s h)
kept_in s (Freed w slot ∷ h) = cond (slot == s) None (kept_in s h)
kept_in s (e ∷ h) = kept_in s h

-- such a slot is buffered
kept_stage : (s : ℕ) (h : List Event) (y : Named) → kept_in s h ≡ Some y → slot_stage s h ≡ Buffered
kept_stage s [] y e = absurd cc
kept_stage s (Stored w c id slot len exp kept members from r ct body ∷ h) y e = by (slot == s) kept e (kept_stage s h y)
  where
    by : (b k : Bool) → cond b (kept_as k c id) (kept_in s h) ≡ Some y → (kept_in s h ≡ Some y → slot_stage s h ≡ Buffered) → cond b (stored_stage k) (slot_stage s h) ≡ Buffered
    by true true i go = refl
    by true false i go = absurd cc
    by false k i go = go i
kept_stage s (Left w c id slot cause ∷ h) y e = by (slot == s) e (kept_stage s h y)
  where
    by : (b : Bool) → cond b None (kept_in s h) ≡ Some y → (kept_in s h ≡ Some y → slot_stage s h ≡ Buffered) → cond b Retired (slot_stage s h) ≡ Buffered
    by true i go = absurd cc
    by false i go = go i
kept_stage s (Freed w slot ∷ h) y e = by (slot == s) e (kept_stage s h y)
  where
    by : (b : Bool) → cond b None (kept_in s h) ≡ Some y → (kept_in s h ≡ Some y → slot_stage s h ≡ Buffered) → cond b Unused (slot_stage s h) ≡ Buffered
    by true i go = absurd cc
    by false i go = go i
kept_stage s (e ∷ h) y k = kept_stage s h y k

some_channel : (c d : List ℕ) (id m : Id) → Some (named d m) ≡ Some (named c id) → (d ≡ c) × (m ≡ id)
some_channel c d id m e = let same : named d m ≡ named c id = cc in (ap (λ (p : Named). p.chan) same, ap (λ (p : Named). p.id) same)

-- its message was stored there, and the slot wasn't freed since
pub kept_stored : (v s : ℕ) (c : List ℕ) (id : Id) (h : List Event) → AllByRecursion (IsBy v) h → kept_in s h ≡ Some (named c id) → IsStored v s c id h
kept_stored v s c id [] b e = absurd cc
kept_stored v s c id (Stored w d m slot len exp kept members from r ct body ∷ h) b e = by (slot == s) refl kept e (kept_stored v s c id h b.1)
  where
    by : (t : Bool) → (slot == s) ≡ t → (k : Bool) → cond t (kept_as k d m) (kept_in s h) ≡ Some (named c id) → (kept_in s h ≡ Some (named c id) → IsStored v s c id h) → IsStored v s c id (Stored w d m slot len exp kept members from r ct body ∷ h)
    by true i true x go = let same = some_channel c d id m x in inl (sym (eq_of v w b.0), same.0, same.1, eq_of slot s i)
    by true i false x go = absurd cc
    by false i k x go = inr (go x)
kept_stored v s c id (Left w d m slot cause ∷ h) b e = by (slot == s) e (kept_stored v s c id h b.1)
  where
    by : (t : Bool) → cond t None (kept_in s h) ≡ Some (named c id) → (kept_in s h ≡ Some (named c id) → IsStored v s c id h) → IsStored v s c id h
    by true x go = absurd cc
    by false x go = go x
kept_stored v s c id (Freed w slot ∷ h) b e = by (slot == s) refl e (kept_stored v s c id h b.1)
  where
    by : (t : Bool) → (slot == s) ≡ t → cond t None (kept_in s h) ≡ Some (named c id) → (kept_in s h ≡ Some (named c id) → IsStored v s c id h) → IsStored v s c id (Freed w slot ∷ h)
    by true i x go = absurd cc
    by false i x go = (not_second (w == v) (slot == s) i, go x)
kept_stored v s c id (e ∷ h) b k = kept_stored v s c id h b.1 k

-- ---- messages

abbrev AnyMessage : Message → Type 0
AnyMessage m = Unit {0}

-- one of some messages has this id and slot
abbrev pub IsAmong : List Message → Id → ℕ → Type 0
IsAmong ms id slot = HasMessage AnyMessage ms id slot

any_message : (P : Message → Type 0) (ms : List Message) (id : Id) (slot : ℕ) → HasMessage P ms id slot → IsAmong ms id slot
any_message P [] id slot x = absurd x
any_message P (m ∷ ms) id slot (inl x) = inl (x.0, x.1, tt)
any_message P (m ∷ ms) id slot (inr x) = inr (any_message P ms id slot x)

first_among : (ms : List Message) (id : Id) (slot : ℕ) → StandsFirst ms id slot → IsAmong ms id slot
first_among [] id slot x = absurd x
first_among (m ∷ ms) id slot x = inl (x.0, x.1, tt)

among_split : (ms : List Message) (m : Message) (id : Id) (slot : ℕ) → IsAmong (ms ++ m ∷ []) id slot → IsAmong ms id slot ⊎ ((m.id ≡ id) × (m.slot ≡ slot))
among_split [] m id slot (inl x) = inr (x.0, x.1)
among_split [] m id slot (inr x) = absurd x
among_split (n ∷ ms) m id slot (inl x) = inl (inl x)
among_split (n ∷ ms) m id slot (inr x) = by (among_split ms m id slot x)
  where
    by : IsAmong ms id slot ⊎ ((m.id ≡ id) × (m.slot ≡ slot)) → IsAmong (n ∷ ms) id slot ⊎ ((m.id ≡ id) × (m.slot ≡ slot))
    by (inl y) = inl (inr y)
    by (inr y) = inr y

unfiltered : (gone : Id → Bool) (ms : List Message) (id : Id) (slot : ℕ) → IsAmong (filter (λ m. not (gone m.id)) ms) id slot → IsAmong ms id slot × (gone id ≡ false)
unfiltered gone [] id slot x = absurd x
unfiltered gone (m ∷ ms) id slot x = by (gone m.id) refl x (unfiltered gone ms id slot)
  where
    by : (b : Bool) → gone m.id ≡ b → IsAmong (cond (not b) (m ∷ filter (λ n. not (gone n.id)) ms) (filter (λ n. not (gone n.id)) ms)) id slot → (IsAmong (filter (λ n. not (gone n.id)) ms) id slot → IsAmong ms id slot × (gone id ≡ false)) → IsAmong (m ∷ ms) id slot × (gone id ≡ false)
    by true e y go = let r = go y in (inr r.0, r.1)
    by false e (inl y) go = (inl y, subst (λ (z : Id). gone z ≡ false) y.0 e)
    by false e (inr y) go = let r = go y in (inr r.0, r.1)

-- ---- what is buffered is kept

-- a message is stored in an unused slot, what leaves was buffered in its slot, and a retired slot is freed
abbrev pub SlotsAt : List Event → Event → Type 0
SlotsAt h (Stored w c id slot len exp kept members from r ct body) = slot_stage slot h ≡ Unused
SlotsAt h (Left w c id slot cause) = IsAmong (buffer c h) id slot
SlotsAt h (Freed w slot) = slot_stage slot h ≡ Retired
SlotsAt h _ = Unit {0}

or_first : (a b : Bool) → (a || b) ≡ false → a ≡ false
or_first true b e = absurd cc
or_first false b e = refl

or_second : (a b : Bool) → (a || b) ≡ false → b ≡ false
or_second true b e = absurd cc
or_second false b e = e

stays_kept : (k n i : Bool) → (not k && (n && i)) ≡ false → n ≡ true → i ≡ true → k ≡ true
stays_kept true n i e x y = refl
stays_kept false true true e x y = absurd cc
stays_kept false true false e x y = absurd cc
stays_kept false false i e x y = absurd cc

both_true : (n i : Bool) → n ≡ true → i ≡ true → (n && i) ≡ false → ⊥
both_true true true x y e = absurd cc
both_true true false x y e = absurd cc
both_true false i x y e = absurd cc

two_stages : (a : SlotStage) → a ≡ Unused → a ≡ Buffered → ⊥
two_stages a x y = absurd cc

other_stages : (a : SlotStage) → a ≡ Retired → a ≡ Buffered → ⊥
other_stages a x y = absurd cc

published_kept : (h : List Event) → Along SlotsAt h → (c : List ℕ) (id : Id) (slot : ℕ) → IsAmong (published c h) id slot → is_gone c id h ≡ false → kept_in slot h ≡ Some (named c id)
published_kept [] a c id slot has gone = absurd has
published_kept (Stored w d m s len exp kept members from r ct body ∷ h) a c id slot has gone = by (bytes_eq d c) refl has (published_kept h a.0 c id slot)
  where
    stays : lets_go c id (Stored w d m s len exp kept members from r ct body) ≡ false
    stays = or_first (lets_go c id (Stored w d m s len exp kept members from r ct body)) (is_gone c id h) gone

    old : (IsAmong (published c h) id slot → is_gone c id h ≡ false → kept_in slot h ≡ Some (named c id)) → IsAmong (published c h) id slot → cond (s == slot) (kept_as kept d m) (kept_in slot h) ≡ Some (named c id)
    old go there = at (s == slot) refl (go there (or_second (lets_go c id (Stored w d m s len exp kept members from r ct body)) (is_gone c id h) gone))
      where
        at : (b : Bool) → (s == slot) ≡ b → kept_in slot h ≡ Some (named c id) → cond b (kept_as kept d m) (kept_in slot h) ≡ Some (named c id)
        at true i k = absurd (two_stages (slot_stage slot h) (subst (λ (n : ℕ). slot_stage n h ≡ Unused) (eq_of s slot i) a.1) (kept_stage slot h (named c id) k))
        at false i k = k

    new : bytes_eq d c ≡ true → m ≡ id → s ≡ slot → cond (s == slot) (kept_as kept d m) (kept_in slot h) ≡ Some (named c id)
    new n i j =
        let is : id_eq m id ≡ true = ap (id_eq m) (sym i) ∙ id_self m in
        let k : kept ≡ true = stays_kept kept (bytes_eq d c) (id_eq m id) stays n is in
        at (s == slot) (ap (λ (z : ℕ). s == z) (sym j) ∙ eqb_self s) k
      where
        at : (b : Bool) → b ≡ true → kept ≡ true → cond b (kept_as kept d m) (kept_in slot h) ≡ Some (named c id)
        at true x k = ap (λ (z : Bool). kept_as z d m) k ∙ (λ z. Some (named (same-name d c n z) (i z)))
        at false x k = absurd cc

    by : (b : Bool) → bytes_eq d c ≡ b → IsAmong (cond b (published c h ++ stored_message m s exp ct body ∷ []) (published c h)) id slot → (IsAmong (published c h) id slot → is_gone c id h ≡ false → kept_in slot h ≡ Some (named c id)) → cond (s == slot) (kept_as kept d m) (kept_in slot h) ≡ Some (named c id)
    by true n x go = either (among_split (published c h) (stored_message m s exp ct body) id slot x)
      where
        either : IsAmong (published c h) id slot ⊎ ((m ≡ id) × (s ≡ slot)) → cond (s == slot) (kept_as kept d m) (kept_in slot h) ≡ Some (named c id)
        either (inl y) = old go y
        either (inr y) = new n y.0 y.1
    by false n x go = old go x
published_kept (Left w d m s cause ∷ h) a c id slot has gone =
    let there = unfiltered (λ (i : Id). is_gone d i h) (published d h) m s a.1 in
    at (s == slot) refl (published_kept h a.0 d m s there.0 there.1) (published_kept h a.0 c id slot has (or_second (bytes_eq d c && id_eq m id) (is_gone c id h) gone))
  where
    at : (b : Bool) → (s == slot) ≡ b → kept_in s h ≡ Some (named d m) → kept_in slot h ≡ Some (named c id) → cond b None (kept_in slot h) ≡ Some (named c id)
    at true i leaves k =
        let same = some_channel c d id m (sym leaves ∙ ap (λ (n : ℕ). kept_in n h) (eq_of s slot i) ∙ k) in
        absurd (both_true (bytes_eq d c) (id_eq m id) (ap (bytes_eq d) (sym same.0) ∙ name_self d) (ap (id_eq m) (sym same.1) ∙ id_self m) (or_first (bytes_eq d c && id_eq m id) (is_gone c id h) gone))
    at false i leaves k = k
published_kept (Freed w s ∷ h) a c id slot has gone = at (s == slot) refl (published_kept h a.0 c id slot has gone)
  where
    at : (b : Bool) → (s == slot) ≡ b → kept_in slot h ≡ Some (named c id) → cond b None (kept_in slot h) ≡ Some (named c id)
    at true i k = absurd (other_stages (slot_stage slot h) (subst (λ (n : ℕ). slot_stage n h ≡ Retired) (eq_of s slot i) a.1) (kept_stage slot h (named c id) k))
    at false i k = k
published_kept (e ∷ h) a c id slot has gone = published_kept h a.0 c id slot has gone

pub buffered_kept : (h : List Event) → Along SlotsAt h → (c : List ℕ) (id : Id) (slot : ℕ) → IsAmong (buffer c h) id slot → kept_in slot h ≡ Some (named c id)
buffered_kept h a c id slot has = let there = unfiltered (λ (i : Id). is_gone c i h) (published c h) id slot has in published_kept h a c id slot there.0 there.1

-- ---- an owner's local history keeps the rule

pub own_all_by : (v : ℕ) (h : List Event) → AllByRecursion (IsBy v) h → own v h ≡ h
own_all_by v [] b = refl
own_all_by v (e ∷ h) b = own_one v e h b.0 ∙ ap (λ (l : List Event). e ∷ l) (own_all_by v h b.1)

left_among : (cause : LeftCause) (w : ℕ) (c : List ℕ) (id : Id) (slot : ℕ) (newer older : List Event) → LeavesBy cause w c id slot newer older → IsAmong (buffer c older) id slot
left_among Expired w c id slot newer older x = any_message _ (buffer c older) id slot x
left_among Length w c id slot newer older x = first_among (buffer c older) id slot x.0
left_among Spent w c id slot newer older x = any_message _ (buffer c older) id slot x
left_among Deleted w c id slot newer older x = first_among (buffer c older) id slot x.0

module _ (workers slots v : ℕ) (whole : List Event) (rule : AtEachCut (LeftAt workers) whole) where
  further : (newer : List Event) (e : Event) (h : List Event) → whole ≡ newer ++ e ∷ h → whole ≡ (newer ++ e ∷ []) ++ h
  further newer e h same = same ∙ sym (append_assoc newer (e ∷ []) h)

  slots_along : (newer h : List Event) → whole ≡ newer ++ h → AllByRecursion (IsBy v) h → Along (OwnersSlots slots) h → Along SlotsAt h
  slots_along newer [] same b a = tt
  slots_along newer (Stored w c id s len exp kept members from r ct body ∷ h) same b a =
      let e = Stored w c id s len exp kept members from r ct body in
      (slots_along (newer ++ e ∷ []) h (further newer e h same) b.1 a.0, ap (slot_stage s) (sym (ap (λ (z : ℕ). own z h) (sym (eq_of v w b.0)) ∙ own_all_by v h b.1)) ∙ a.1.unused)
  slots_along newer (Left w c id s cause ∷ h) same b a =
      (slots_along (newer ++ Left w c id s cause ∷ []) h (further newer (Left w c id s cause) h same) b.1 a.0, left_among cause w c id s newer h (rule newer (Left w c id s cause) h same).why)
  slots_along newer (Freed w s ∷ h) same b a =
      (slots_along (newer ++ Freed w s ∷ []) h (further newer (Freed w s) h same) b.1 a.0, ap (slot_stage s) (sym (ap (λ (z : ℕ). own z h) (sym (eq_of v w b.0)) ∙ own_all_by v h b.1)) ∙ a.1)
  slots_along newer (e ∷ h) same b a = (slots_along (newer ++ e ∷ []) h (further newer e h same) b.1 a.0, tt)

pub local_slots : (workers slots v : ℕ) (h : List Event) → AtEachCut (LeftAt workers) h → AllByRecursion (IsBy v) h → Along (OwnersSlots slots) h → Along SlotsAt h
local_slots workers slots v h rule b a = slots_along workers slots v h rule [] h refl b a
