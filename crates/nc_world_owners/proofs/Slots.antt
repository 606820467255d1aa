-- Themes of slots: their stages, which of them is taken and freed, and how often each was granted.
use Rattle.std.proofs.Common.{◌≡◌, ℕ, true, List, [], ◌∷◌, refl, sym, ◌∙◌, subst}
use Rattle.nc_journal.specs.History.{Along}
use Rattle.nc_journal.specs.Holding.{slot_stage}
use Rattle.nc_journal.specs.Leaving.{grants_since}
use Rattle.nc_journal.specs.declared.event.Event.{Event}
use Rattle.nc_journal.specs.declared.event.Event.TheVariants.{Stored, Left, Granted, Freed}
use Rattle.nc_owner.specs.Publish.{publish_events, publish_alerts, publish_row}
use Rattle.nc_owner.specs.Look.{look_events, look_alerts, look_row}
use Rattle.nc_owner.specs.OtherSteps.{touch_events_of, touched_row, join_events, part_events, info_alerts, polled_events, polled_row}
use Rattle.nc_owner.specs.Remove.{removal_events, removal_alerts, removed_row}
use Rattle.nc_slots.specs.declared.slot.Slot.{Slot}
use Rattle.nc_slots.specs.Slot.{slot_at}
use Rattle.nc_types.specs.Message.{Message}
use Rattle.nc_owner_laws.specs.Aside.{IsAside}
use Rattle.nc_owner_laws.specs.Stages.{AreStaged}
use Rattle.nc_owner_laws.specs.SlotRule.{OwnersSlots}
use Rattle.nc_owner_laws.specs.Counted.{Counts, SlotsCount}
use Rattle.nc_owner_laws.proofs.Staging.{new_staged, others_staged, publish_staged}
use Rattle.nc_owner_laws.proofs.SlotKeeping.{others_keep_slots, publish_keeps_slots}
use Rattle.nc_owner_laws.proofs.Counting.{new_count, steps_keep_count}
use Rattle.nc_worker_state.specs.Setup.{Setup}
use Rattle.nc_world_laws.proofs.OwnerTheme.{OwnerFact, IsOwnerTheme}
use Rattle.nc_world_laws.proofs.Stepping.{is_me, as_me}

-- ---- stages

aside_stage : (slot : ℕ) (h : List Event) (e : Event) → IsAside e → slot_stage slot (e ∷ h) ≡ slot_stage slot h
aside_stage slot h (Stored w c id s len exp kept members from r ct body) p = absurd p
aside_stage slot h (Left w c id s cause) p = absurd p
aside_stage slot h (Freed w s) p = absurd p
aside_stage slot h e p = refl

abbrev pub StagesFact : OwnerFact
StagesFact row h s = AreStaged row h

pub stages_theme : (setup : Setup) (me : ℕ) → IsOwnerTheme setup me StagesFact
stages_theme setup me = record {
  new = new_staged setup.slots;
  step = λ next row counts h s base fact.
      let is = is_me me setup.workers setup.slots setup.first row h s base.keeps.stands in
      let k = others_staged next row h s base.keeps.stands.fits fact in
      record {
        aside = λ e p by slot. aside_stage slot h e p ∙ fact slot;
        clock = λ now slot. fact slot;
        raise = λ fence lt slot. fact slot;
        edge = λ from number k c owns there swept slot. fact slot;
        join = λ m c owns there. as_me (AreStaged (touched_row c row s)) me next h s is (join_events m c row s) [] (k.join m c);
        part = λ m c owns there. as_me (AreStaged (touched_row c row s)) me next h s is (part_events m c row s) [] (k.part m c);
        info = λ from r c owns there. as_me (AreStaged (touched_row c row s)) me next h s is (touch_events_of c row s) (info_alerts from r c row s) (k.info from r c);
        touch = λ c owns. as_me (AreStaged (touched_row c row s)) me next h s is (touch_events_of c row s) [] (k.sweep c);
        remove = λ c cause owns may. as_me (AreStaged (removed_row c row s)) me next h s is (removal_events c cause s) (removal_alerts c s) (k.remove c cause);
        look = λ from number c id owns there. as_me (AreStaged (look_row from c id row s)) me next h s is (look_events from number c id row s) (look_alerts from number c id row s) (k.look from number c id);
        polled = λ answers each. as_me (AreStaged (polled_row answers row)) me next h s is (polled_events answers s) [] (k.polled answers each);
        publish = λ from o polls owns there fit. as_me (AreStaged (publish_row o polls row s)) me next h s is (publish_events from o polls row s) (publish_alerts from o polls row s)
            (publish_staged next true counts from o polls row h s fit base.keeps.stands.fits fact);
      };
}

-- ---- the slots that are taken and freed

aside_slots : (slots : ℕ) (h : List Event) (e : Event) → IsAside e → OwnersSlots slots h e
aside_slots slots h (Stored w c id s len exp kept members from r ct body) p = absurd p
aside_slots slots h (Freed w s) p = absurd p
aside_slots slots h e p = tt

pub record SlotsKept (slots : ℕ) (row : List (Slot Message)) (h : List Event) : Type 0 where
  pub staged : AreStaged row h
  pub taken : Along (OwnersSlots slots) h

abbrev pub SlotsFact : Setup → OwnerFact
SlotsFact setup row h s = SlotsKept setup.slots row h

pub slots_theme : (setup : Setup) (me : ℕ) → IsOwnerTheme setup me (SlotsFact setup)
slots_theme setup me = record {
  new = record { staged = new_staged setup.slots; taken = tt };
  step = λ next row counts h s base fact.
      let is = is_me me setup.workers setup.slots setup.first row h s base.keeps.stands in
      let along = Along (OwnersSlots setup.slots) in
      let k = (stages_theme setup me).step next row counts h s base fact.staged in
      let t = others_keep_slots me setup.workers setup.slots setup.first next row h s base.keeps.stands fact.staged fact.taken in
      record {
        aside = λ e p by. record { staged = k.aside e p by; taken = (fact.taken, aside_slots setup.slots h e p) };
        clock = λ now. record { staged = k.clock now; taken = (fact.taken, tt) };
        raise = λ fence lt. record { staged = k.raise fence lt; taken = (fact.taken, tt) };
        edge = λ from number n c owns there swept. record { staged = k.edge from number n c owns there swept; taken = ((fact.taken, tt), tt) };
        join = λ m c owns there. record { staged = k.join m c owns there; taken = as_me along me next h s is (join_events m c row s) [] (t.join m c) };
        part = λ m c owns there. record { staged = k.part m c owns there; taken = as_me along me next h s is (part_events m c row s) [] (t.part m c) };
        info = λ from r c owns there. record { staged = k.info from r c owns there; taken = as_me along me next h s is (touch_events_of c row s) (info_alerts from r c row s) (t.info from r c) };
        touch = λ c owns. record { staged = k.touch c owns; taken = as_me along me next h s is (touch_events_of c row s) [] (t.sweep c) };
        remove = λ c cause owns may. record { staged = k.remove c cause owns may; taken = as_me along me next h s is (removal_events c cause s) (removal_alerts c s) (t.remove c cause) };
        look = λ from number c id owns there. record { staged = k.look from number c id owns there; taken = as_me along me next h s is (look_events from number c id row s) (look_alerts from number c id row s) (t.look from number c id) };
        polled = λ answers each. record { staged = k.polled answers each; taken = as_me along me next h s is (polled_events answers s) [] (t.polled answers each) };
        publish = λ from o polls owns there fit. record {
          staged = k.publish from o polls owns there fit;
          taken = as_me along me next h s is (publish_events from o polls row s) (publish_alerts from o polls row s)
              (publish_keeps_slots me setup.workers setup.slots setup.first next true counts from o polls row h s fit base.keeps.stands fact.staged fact.taken);
        };
      };
}

-- ---- grants

pub aside_grants : (slot : ℕ) (h : List Event) (e : Event) → IsAside e → grants_since slot (e ∷ h) ≡ grants_since slot h
aside_grants slot h (Stored w c id s len exp kept members from r ct body) p = absurd p
aside_grants slot h (Granted w g s to) p = absurd p
aside_grants slot h e p = refl

abbrev pub CountsFact : OwnerFact
CountsFact row h s = SlotsCount row h

aside_counts : (row : List (Slot Message)) (h : List Event) (e : Event) → IsAside e → SlotsCount row h → SlotsCount row (e ∷ h)
aside_counts row h e p fact slot = subst (Counts (slot_at row slot)) (sym (aside_grants slot h e p)) (fact slot)

pub counts_theme : (setup : Setup) (me : ℕ) → IsOwnerTheme setup me CountsFact
counts_theme setup me = record {
  new = new_count setup.slots;
  step = λ next row counts h s base fact.
      let is = is_me me setup.workers setup.slots setup.first row h s base.keeps.stands in
      let k = steps_keep_count next row h s fact in
      record {
        aside = λ e p by. aside_counts row h e p fact;
        clock = λ now slot. fact slot;
        raise = λ fence lt slot. fact slot;
        edge = λ from number k c owns there swept slot. fact slot;
        join = λ m c owns there. as_me (SlotsCount (touched_row c row s)) me next h s is (join_events m c row s) [] (k.join m c);
        part = λ m c owns there. as_me (SlotsCount (touched_row c row s)) me next h s is (part_events m c row s) [] (k.part m c);
        info = λ from r c owns there. as_me (SlotsCount (touched_row c row s)) me next h s is (touch_events_of c row s) (info_alerts from r c row s) (k.info from r c);
        touch = λ c owns. as_me (SlotsCount (touched_row c row s)) me next h s is (touch_events_of c row s) [] (k.sweep c);
        remove = λ c cause owns may. as_me (SlotsCount (removed_row c row s)) me next h s is (removal_events c cause s) (removal_alerts c s) (k.remove c cause);
        look = λ from number c id owns there. as_me (SlotsCount (look_row from c id row s)) me next h s is (look_events from number c id row s) (look_alerts from number c id row s) (k.look from number c id);
        polled = λ answers each. as_me (SlotsCount (polled_row answers row)) me next h s is (polled_events answers s) [] (k.polled answers);
        publish = λ from o polls owns there fit. as_me (SlotsCount (publish_row o polls row s)) me next h s is (publish_events from o polls row s) (publish_alerts from o polls row s) (k.publish from o polls);
      };
}
