-- A slot that is freed is one of its owner's slots.
use Rattle.std.proofs.Common.{◌≡◌, inl, inr, ℕ, ◌<◌, Bool, true, false, cond, not, List, [], ◌∷◌, ◌++◌, refl, sym, ◌∙◌, subst, append_assoc, filter}
use Rattle.std.specs.Prelude.{◌==◌, bytes_eq}
use Rattle.std.specs.List.{AllByRecursion}
use Rattle.nc_types.specs.Id.{Id}
use Rattle.nc_journal.specs.History.{own, is_by, Along, AtEachCut}
use Rattle.nc_journal.specs.Holding.{Unused, Retired, slot_stage, stored_stage}
use Rattle.nc_journal.specs.Leaving.{HasMessage, StandsFirst, LeavesBy, LeftAt}
use Rattle.nc_journal.specs.Message.{Message, stored_message, published, is_gone, buffer}
use Rattle.nc_journal.specs.declared.event.Event.{Event}
use Rattle.nc_journal.specs.declared.event.Event.TheVariants.{Stored, Left, Freed}
use Rattle.nc_journal.specs.declared.word.LeftCause.{LeftCause}
use Rattle.nc_journal.specs.declared.word.LeftCause.TheVariants.{Expired, Length, Spent, Deleted}
use Rattle.nc_owner_laws.specs.SlotRule.{OwnersSlots}
use Rattle.nc_world_laws.proofs.Local.{eq_of, all_append}

-- a freed slot is within those of its owner
abbrev pub WithinAt : ℕ → List Event → Event → Type 0
WithinAt slots h (Freed w slot) = slot < slots
WithinAt slots h _ = Unit {0}

module _ (workers slots : ℕ) where
  abbrev IsWithin : Message → Type 0
  IsWithin m = m.slot < slots

  -- each message that was stored is in one of the slots
  stored_within : (c : List ℕ) (h : List Event) → Along (OwnersSlots slots) h → AllByRecursion IsWithin (published c h)
  stored_within c [] a = tt
  stored_within c (Stored w d id slot len exp kept members from r ct body ∷ h) a = by (bytes_eq d c) (stored_within c h a.0)
    where
      by : (b : Bool) → AllByRecursion IsWithin (published c h) → AllByRecursion IsWithin (cond b (published c h ++ stored_message id slot exp ct body ∷ []) (published c h))
      by true k = all_append IsWithin (published c h) (stored_message id slot exp ct body ∷ []) k (a.1.within, tt)
      by false k = k
  stored_within c (e ∷ h) a = stored_within c h a.0

  filter_within : (test : Message → Bool) (ms : List Message) → AllByRecursion IsWithin ms → AllByRecursion IsWithin (filter test ms)
  filter_within test [] a = tt
  filter_within test (m ∷ ms) a = by (test m) (filter_within test ms a.1)
    where
      by : (b : Bool) → AllByRecursion IsWithin (filter test ms) → AllByRecursion IsWithin (cond b (m ∷ filter test ms) (filter test ms))
      by true k = (a.0, k)
      by false k = k

  has_within : (P : Message → Type 0) (ms : List Message) (id : Id) (slot : ℕ) → AllByRecursion IsWithin ms → HasMessage P ms id slot → slot < slots
  has_within P [] id slot a x = absurd x
  has_within P (m ∷ ms) id slot a (inl x) = subst (λ (n : ℕ). n < slots) x.1 a.0
  has_within P (m ∷ ms) id slot a (inr x) = has_within P ms id slot a.1 x

  first_within : (ms : List Message) (id : Id) (slot : ℕ) → AllByRecursion IsWithin ms → StandsFirst ms id slot → slot < slots
  first_within [] id slot a x = absurd x
  first_within (m ∷ ms) id slot a x = subst (λ (n : ℕ). n < slots) x.1 a.0

  left_within : (cause : LeftCause) (w : ℕ) (c : List ℕ) (id : Id) (slot : ℕ) (newer older : List Event) → Along (OwnersSlots slots) older → LeavesBy cause w c id slot newer older → slot < slots
  left_within Expired w c id slot newer older a x = has_within _ (buffer c older) id slot (filter_within (λ m. not (is_gone c m.id older)) (published c older) (stored_within c older a)) x
  left_within Length w c id slot newer older a x = first_within (buffer c older) id slot (filter_within (λ m. not (is_gone c m.id older)) (published c older) (stored_within c older a)) x.0
  left_within Spent w c id slot newer older a x = has_within _ (buffer c older) id slot (filter_within (λ m. not (is_gone c m.id older)) (published c older) (stored_within c older a)) x
  left_within Deleted w c id slot newer older a x = first_within (buffer c older) id slot (filter_within (λ m. not (is_gone c m.id older)) (published c older) (stored_within c older a)) x.0

  -- ---- what is retired is one of the slots

  module _ (whole : List Event) (rule : AtEachCut (LeftAt workers) whole) where
    stage_none : (b : Bool) (slot : ℕ) (e : Event) (l : List Event) → slot_stage slot (e ∷ l) ≡ slot_stage slot l → slot_stage slot (cond b (e ∷ l) l) ≡ slot_stage slot l
    stage_none true slot e l same = same
    stage_none false slot e l same = refl

    further : (newer : List Event) (e : Event) (h : List Event) → whole ≡ newer ++ e ∷ h → whole ≡ (newer ++ e ∷ []) ++ h
    further newer e h same = same ∙ sym (append_assoc newer (e ∷ []) h)

    retired_within : (w slot : ℕ) (newer h : List Event) → whole ≡ newer ++ h → Along (OwnersSlots slots) h → slot_stage slot (own w h) ≡ Retired → slot < slots
    retired_within w slot newer [] same a e = absurd cc
    retired_within w slot newer (Stored v c id s len exp kept members from r ct body ∷ h) same a e =
        by (w == v) (λ i. retired_within w slot (newer ++ Stored v c id s len exp kept members from r ct body ∷ []) h (further newer _ h same) a.0 i) e
      where
        at : (d : Bool) → (s == slot) ≡ d → (slot_stage slot (own w h) ≡ Retired → slot < slots) → cond d (stored_stage kept) (slot_stage slot (own w h)) ≡ Retired → slot < slots
        at true i go x = subst (λ (n : ℕ). n < slots) (eq_of s slot i) a.1.within
        at false i go x = go x

        by : (b : Bool) → (slot_stage slot (own w h) ≡ Retired → slot < slots) → slot_stage slot (cond b (Stored v c id s len exp kept members from r ct body ∷ own w h) (own w h)) ≡ Retired → slot < slots
        by true go x = at (s == slot) refl go x
        by false go x = go x
    retired_within w slot newer (Left v c id s cause ∷ h) same a e =
        by (w == v) (λ i. retired_within w slot (newer ++ Left v c id s cause ∷ []) h (further newer _ h same) a.0 i) e
      where
        at : (d : Bool) → (s == slot) ≡ d → (slot_stage slot (own w h) ≡ Retired → slot < slots) → cond d Retired (slot_stage slot (own w h)) ≡ Retired → slot < slots
        at true i go x = subst (λ (n : ℕ). n < slots) (eq_of s slot i) (left_within cause v c id s newer h a.0 (rule newer (Left v c id s cause) h same).why)
        at false i go x = go x

        by : (b : Bool) → (slot_stage slot (own w h) ≡ Retired → slot < slots) → slot_stage slot (cond b (Left v c id s cause ∷ own w h) (own w h)) ≡ Retired → slot < slots
        by true go x = at (s == slot) refl go x
        by false go x = go x
    retired_within w slot newer (Freed v s ∷ h) same a e =
        by (w == v) (λ i. retired_within w slot (newer ++ Freed v s ∷ []) h (further newer _ h same) a.0 i) e
      where
        at : (d : Bool) → (slot_stage slot (own w h) ≡ Retired → slot < slots) → cond d Unused (slot_stage slot (own w h)) ≡ Retired → slot < slots
        at true go x = absurd cc
        at false go x = go x

        by : (b : Bool) → (slot_stage slot (own w h) ≡ Retired → slot < slots) → slot_stage slot (cond b (Freed v s ∷ own w h) (own w h)) ≡ Retired → slot < slots
        by true go x = at (s == slot) go x
        by false go x = go x
    retired_within w slot newer (e ∷ h) same a x = retired_within w slot (newer ++ e ∷ []) h (further newer e h same) a.0 (sym (stage_none (is_by w e) slot e (own w h) refl) ∙ x)

    within_along : (newer h : List Event) → whole ≡ newer ++ h → Along (OwnersSlots slots) h → Along (WithinAt slots) h
    within_along newer [] same a = tt
    within_along newer (Freed w slot ∷ h) same a = (within_along (newer ++ Freed w slot ∷ []) h (further newer _ h same) a.0, retired_within w slot (newer ++ Freed w slot ∷ []) h (further newer _ h same) a.0 a.1)
    within_along newer (e ∷ h) same a = (within_along (newer ++ e ∷ []) h (further newer e h same) a.0, tt)

  -- each slot that is freed is one of them
  pub freed_within : (h : List Event) → AtEachCut (LeftAt workers) h → Along (OwnersSlots slots) h → Along (WithinAt slots) h
  freed_within h rule a = within_along h rule [] h refl a
