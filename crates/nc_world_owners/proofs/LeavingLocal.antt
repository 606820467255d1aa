-- What leaves a buffer leaves by the rule, in each owner's history.
use Rattle.std.proofs.Common.{◌≡◌, ℕ, ◌≤◌, List, [], ◌∷◌, ◌++◌, sym, ◌∙◌, subst}
use Rattle.std.specs.List.{AllByRecursion}
use Rattle.nc_types.specs.Channel.{owner_of}
use Rattle.nc_types.specs.Message.{Message}
use Rattle.nc_journal.specs.History.{onto}
use Rattle.nc_journal.specs.Leaving.{IsLeavingRule, LeftAt, FindsAt, NoneExpired, grants_since, most_grants}
use Rattle.nc_journal.specs.declared.event.Event.{Event}
use Rattle.nc_journal.specs.declared.event.Event.TheVariants.{Clock, Joined, Parted, Raised, Stored, Left, Looked, Edged, Removed, Made}
use Rattle.nc_journal.specs.declared.word.RemovedCause.{RemovedCause}
use Rattle.nc_journal.specs.declared.word.RemovedCause.TheVariants.{Reaped, Deleted as ByDeletion}
use Rattle.nc_journal.specs.declared.alert.AlertLine.TheVariants.{EdgeAnswer}
use Rattle.nc_journal.proofs.Cuts.{cut-push}
use Rattle.nc_journal.proofs.Leavings.{left-more}
use Rattle.nc_buffer.specs.declared.entry.Entry.{Entry}
use Rattle.nc_slots.specs.declared.slot.Slot.{Slot}
use Rattle.nc_owner.specs.State.{OwnerAt, entries_of, opened}
use Rattle.nc_owner.specs.Edge.{last_in}
use Rattle.nc_owner.specs.Publish.{publish_events, publish_alerts}
use Rattle.nc_owner.specs.Look.{look_events, look_alerts}
use Rattle.nc_owner.specs.OtherSteps.{touch_events_of, join_events, part_events, info_alerts, polled_events}
use Rattle.nc_owner.specs.Remove.{removal_events, removal_alerts}
use Rattle.nc_owner_laws.specs.Aside.{IsAside}
use Rattle.nc_owner_laws.specs.LeavingKept.{AreCounted, StepsLeave}
use Rattle.nc_owner_laws.specs.Removing.{removed_onto}
use Rattle.nc_owner_laws.specs.Weave.{weave}
use Rattle.nc_owner_laws.proofs.Counting.{entries_count}
use Rattle.nc_owner_laws.proofs.LeavingKept.{others_leave, publish_leaves}
use Rattle.nc_worker_state.specs.Setup.{Setup}
use Rattle.nc_world.specs.Reached.{IsSetup}
use Rattle.nc_world_laws.proofs.OwnerTheme.{OwnerFact, MayGo, IsOwnerTheme}
use Rattle.nc_world_laws.proofs.Local.{all_of}
use Rattle.nc_world_laws.proofs.Stepping.{is_me, as_me}
use Rattle.nc_world_owners.specs.Grants.{AreFewGrants}
use Rattle.nc_world_owners.proofs.FewGrants.{GrantsKept, grants_theme}

-- ---- beside the owner

aside_left : (workers : ℕ) (h : List Event) (e : Event) → IsAside e → LeftAt workers [] e h
aside_left workers h (Left w c id slot cause) p = absurd p
aside_left workers h e p = tt

aside_finds : (h : List Event) (e : Event) → IsAside e → FindsAt h e
aside_finds h (Stored w c id slot len exp kept members from r ct body) p = absurd p
aside_finds h (Looked w q from number c after floor found) p = absurd p
aside_finds h (Edged w q from number k c floor last) p = absurd p
aside_finds h (Joined w c from k) p = absurd p
aside_finds h (Parted w c from k) p = absurd p
aside_finds h (Removed w c last cause) p = absurd p
aside_finds h e p = tt

leaves_more : (workers : ℕ) (h : List Event) (e : Event) → LeftAt workers [] e h → FindsAt h e → IsLeavingRule workers h → IsLeavingRule workers (e ∷ h)
leaves_more workers h e left finds k = record {
  left = cut-push (LeftAt workers) h e k.left left (λ newer x older is at. left-more workers e newer x older at);
  finds = (k.finds, finds);
}

-- ---- on a channel that was touched nothing has expired

-- a join would find nothing there that has
none_expired : (workers : ℕ) (next : ℕ → ℕ) (w : ℕ) (c : List ℕ) (h touch : List Event) → touch ≡ [] → IsLeavingRule workers (onto (weave w next (touch ++ Joined w c 0 0 ∷ []) []) h) → NoneExpired w c h
none_expired workers next w c h touch swept rule = (subst (λ (es : List Event). IsLeavingRule workers (onto (weave w next (es ++ Joined w c 0 0 ∷ []) []) h)) swept rule).finds.1

-- ---- the theme

pub record LeavingFacts (setup : Setup) (row : List (Slot Message)) (h : List Event) : Type 0 where
  pub grants : GrantsKept setup row h
  pub leaves : IsLeavingRule setup.workers h

abbrev pub LeavingFact : Setup → OwnerFact
LeavingFact setup row h s = LeavingFacts setup row h

all_counted : (h : List Event) (es : List Entry) → AreFewGrants h → AllByRecursion (λ e. e.grants ≡ grants_since e.slot h) es → AreCounted h es
all_counted h es few a = all_of (λ (e : Entry). e.grants ≡ grants_since e.slot h) (λ (e : Entry). (e.grants ≡ grants_since e.slot h) × (e.grants ≤ most_grants)) (λ e is. (is, subst (λ (n : ℕ). n ≤ most_grants) (sym is) (few e.slot))) es a

pub leaving_theme : (setup : Setup) (is : IsSetup setup) (me : ℕ) → IsOwnerTheme setup me (LeavingFact setup)
leaving_theme setup ok me = record {
  new = record { grants = (grants_theme setup ok me).new; leaves = record { left = λ newer e older is. none newer e older is; finds = tt } };
  step = λ next row counts h s base fact.
      let stands = base.keeps.stands in
      let is = is_me me setup.workers setup.slots setup.first row h s stands in
      let rule = IsLeavingRule setup.workers in
      let g = (grants_theme setup ok me).step next row counts h s base fact.grants in
      let k = others_leave me setup.workers setup.slots setup.first next row h s stands fact.leaves in
      let owned = entries_count row h s stands.fits fact.grants.counted in
      record {
        aside = λ e p by. record { grants = g.aside e p by; leaves = leaves_more setup.workers h e (aside_left setup.workers h e p) (aside_finds h e p) fact.leaves };
        clock = λ now. record { grants = g.clock now; leaves = leaves_more setup.workers h (Clock me now) tt tt fact.leaves };
        raise = λ fence lt. record { grants = g.raise fence lt; leaves = leaves_more setup.workers h (Raised me fence) tt tt fact.leaves };
        edge = λ from number n c owns there swept. record {
          grants = g.edge from number n c owns there swept;
          leaves =
              let e = Edged me s.desk.looks from number n c s.desk.floor (last_in c s) in
              let none = subst (λ (w : ℕ). NoneExpired w c h) is (none_expired setup.workers next s.desk.me c h (touch_events_of c row s) swept (k.join (record { from = 0; k = 0 }) c (owns ∙ sym is))) in
              leaves_more setup.workers (e ∷ h) (Made me from (next from) (EdgeAnswer number s.desk.looks s.desk.floor (last_in c s))) tt tt (leaves_more setup.workers h e tt none fact.leaves);
        };
        join = λ m c owns there. record { grants = g.join m c owns there; leaves = as_me rule me next h s is (join_events m c row s) [] (k.join m c (owns ∙ sym is)) };
        part = λ m c owns there. record { grants = g.part m c owns there; leaves = as_me rule me next h s is (part_events m c row s) [] (k.part m c (owns ∙ sym is)) };
        info = λ from r c owns there. record { grants = g.info from r c owns there; leaves = as_me rule me next h s is (touch_events_of c row s) (info_alerts from r c row s) (k.info from r c (owns ∙ sym is)) };
        touch = λ c owns. record { grants = g.touch c owns; leaves = as_me rule me next h s is (touch_events_of c row s) [] (k.sweep c (owns ∙ sym is)) };
        remove = λ c cause owns may. record { grants = g.remove c cause owns may; leaves = as_me rule me next h s is (removal_events c cause s) (removal_alerts c s) (removed next row h s k cause c (owns ∙ sym is) may) };
        look = λ from number c id owns there. record {
          grants = g.look from number c id owns there;
          leaves = as_me rule me next h s is (look_events from number c id row s) (look_alerts from number c id row s)
              (k.look from number c id (owns ∙ sym is) (all_counted h (entries_of (opened c s)) fact.grants.few (owned c)));
        };
        polled = λ answers each. record { grants = g.polled answers each; leaves = as_me rule me next h s is (polled_events answers s) [] (k.polled answers) };
        publish = λ from o polls owns there fit. record {
          grants = g.publish from o polls owns there fit;
          leaves = as_me rule me next h s is (publish_events from o polls row s) (publish_alerts from o polls row s) (publish_leaves me setup.workers setup.slots setup.first next from o polls row h s (owns ∙ sym is) stands fact.leaves);
        };
      };
}
  where
    none : (newer : List Event) (e : Event) (older : List Event) → [] ≡ newer ++ e ∷ older → LeftAt setup.workers newer e older
    none [] e older is = absurd cc
    none (x ∷ newer) e older is = absurd cc

    removed : (next : ℕ → ℕ) (row : List (Slot Message)) (h : List Event) (s : OwnerAt) → StepsLeave setup.workers next row h s → (cause : RemovedCause) (c : List ℕ) → owner_of setup.workers c ≡ s.desk.me → MayGo cause c s → IsLeavingRule setup.workers (removed_onto next c cause h s)
    removed next row h s k ByDeletion c owns may = k.delete c owns
    removed next row h s k Reaped c owns may = k.remove_empty c Reaped owns may.0
