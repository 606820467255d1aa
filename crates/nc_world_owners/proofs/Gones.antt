-- Whoever is told that a channel is gone is a worker that is there.
use Rattle.std.proofs.Common.{◌≡◌, ℕ, ◌<◌, Bool, true, false, cond, not, List, [], ◌∷◌, Option, None, Some, refl, sym, ap, ◌∙◌, subst, fold, arith}
use Rattle.std.specs.Prelude.{◌==◌, ◌||◌, ◌&&◌, bytes_eq}
use Rattle.std.specs.List.{AllByRecursion}
use Rattle.std.proofs.lemmas.Bool.Decides.{nat_tests}
use Rattle.nc_types.specs.Channel.{owner_of}
use Rattle.nc_types.specs.Message.{Message}
use Rattle.nc_types.specs.declared.info.Info.{Info}
use Rattle.nc_journal.specs.History.{onto}
use Rattle.nc_journal.specs.declared.event.Event.{Event}
use Rattle.nc_journal.specs.declared.event.Event.TheVariants.{Joined, Parted, Removed}
use Rattle.nc_journal.specs.declared.word.RemovedCause.TheVariants.{Reaped}
use Rattle.nc_slots.specs.declared.slot.Slot.{Slot}
use Rattle.nc_owner.specs.declared.member.Member.{Member}
use Rattle.nc_owner.specs.AlertLines.{OutLine}
use Rattle.nc_owner.specs.Members.{has_member}
use Rattle.nc_owner.specs.OtherSteps.{touch_events_of, touched_of, touched_row, touch_after, names_of}
use Rattle.nc_owner.specs.Publish.{info_of}
use Rattle.nc_owner.specs.Remove.{removal_events, removal_alerts, alerts_of_removal, row_of_removal, after_removal, delete_answer, delete_alerts, is_reaped}
use Rattle.nc_owner.specs.State.{OwnerAt, exists, found, opened}
use Rattle.nc_reaper.specs.Reap.{Swept, state, swept, swept_all, sweep_step}
use Rattle.nc_owner_laws.specs.Filters.{is_same, is_member, members_in}
use Rattle.nc_owner_laws.specs.OwnChannels.{OwnsChannels}
use Rattle.nc_owner_laws.specs.OwnerStanding.{Stands}
use Rattle.nc_owner_laws.specs.Reaping.{Keeps}
use Rattle.nc_owner_laws.specs.Removing.{removed_onto}
use Rattle.nc_owner_laws.specs.Sweeping.{AllAlerts}
use Rattle.nc_owner_laws.proofs.Filtering.{made_members}
use Rattle.nc_owner_laws.proofs.Removes.{touch_keeps, remove_keeps, told_are_there}
use Rattle.nc_owner_laws.proofs.Sets.{member_is}
use Rattle.nc_owner_laws.proofs.Showing.{stands_shows}
use Rattle.nc_worker_state.specs.Setup.{Setup}
use Rattle.nc_world_laws.proofs.Local.{all_append, all_of, eqb_self}
use Rattle.nc_world_laws.proofs.Telling.{woven_all}
use Rattle.nc_world_owners.proofs.Asked.{IsAsked, IsUnasked, unasked, unasked_touch, unasked_removal, all_onto}
use Rattle.nc_world_owners.proofs.FewGrants.{marks_there}

-- ---- members

-- who is a member joined, and is there
member_below : (workers : ℕ) (c : List ℕ) (m : Member) (h : List Event) → AllByRecursion (IsAsked workers) h → is_member c m h ≡ true → m.from < workers
member_below workers c m [] a is = absurd cc
member_below workers c m (Joined w d from k ∷ h) a is = by (bytes_eq d c) (m.from == from) (m.k == k) refl is (member_below workers c m h a.1)
  where
    by : (n b x : Bool) → (m.from == from) ≡ b → ((n && (b && x)) || is_member c m h) ≡ true → (is_member c m h ≡ true → m.from < workers) → m.from < workers
    by true true true e i rest = let same : m.from ≡ from = grind (arith, nat_tests) in subst (λ (x : ℕ). x < workers) (sym same) a.0.1
    by true true false e i rest = rest i
    by true false x e i rest = rest i
    by false b x e i rest = rest i
member_below workers c m (Parted w d from k ∷ h) a is = member_below workers c m h a.1 (by (bytes_eq d c && is_same m from k) is)
  where
    by : (n : Bool) → (not n && is_member c m h) ≡ true → is_member c m h ≡ true
    by true i = absurd cc
    by false i = i
member_below workers c m (Removed w d last cause ∷ h) a is = member_below workers c m h a.1 (by (bytes_eq d c) is)
  where
    by : (n : Bool) → (not n && is_member c m h) ≡ true → is_member c m h ≡ true
    by true i = absurd cc
    by false i = i
member_below workers c m (e ∷ h) a is = member_below workers c m h a.1 is

has_joined : (workers : ℕ) (ms : List Member) → ((m : Member) → has_member m ms ≡ true → m.from < workers) → AllByRecursion (λ m. m.from < workers) ms
has_joined workers [] f = tt
has_joined workers (x ∷ ms) f = (f x (here x), has_joined workers ms (λ m is. f m (more m is)))
  where
    self : (m : Member) → is_same m m.from m.k ≡ true
    self m = ap (λ b. b && (m.k == m.k)) (eqb_self m.from) ∙ eqb_self m.k

    here : (m : Member) → has_member m (m ∷ ms) ≡ true
    here m = ap (λ b. b || has_member m ms) (member_is m m.from m.k ∙ self m)

    or_true : (b : Bool) → (b || true) ≡ true
    or_true true = refl
    or_true false = refl

    more : (m : Member) → has_member m ms ≡ true → has_member m (x ∷ ms) ≡ true
    more m is = ap (λ b. b || has_member m ms) (member_is m x.from x.k) ∙ ap (λ b. is_same m x.from x.k || b) is ∙ or_true (is_same m x.from x.k)

-- so each member is of a worker that is there
pub members_there : (setup : Setup) (me : ℕ) (row : List (Slot Message)) (h : List Event) (s : OwnerAt) → Stands me setup.workers setup.slots setup.first row h s → AllByRecursion (IsAsked setup.workers) h → (c : List ℕ)
    → AllByRecursion (λ m. m.from < setup.workers) (opened c s).members
members_there setup me row h s k a c =
    let members = members_in (found c s) in
    let shown = ((stands_shows me setup.workers setup.slots setup.first row h s k).channels c).members in
    subst (λ (ms : List Member). AllByRecursion (λ m. m.from < setup.workers) ms) (sym (made_members (found c s) s.desk.spent)) (has_joined setup.workers members (λ m i. member_below setup.workers c m h a (sym (shown m) ∙ i)))

-- ---- removals

none_next : ℕ → ℕ
none_next to = 0

module _ (setup : Setup) (me : ℕ) where
  abbrev There : OutLine → Type 0
  There a = a.to < setup.workers

  -- an owner that stands for a history, in which workers ask that are there
  pub record Known (row : List (Slot Message)) (s : OwnerAt) : Type 0 where
    pub history : List Event
    pub keeps : Keeps me setup.workers setup.slots setup.first row history s
    pub asked : AllByRecursion (IsAsked setup.workers) history

  still_asked : (es : List Event) → AllByRecursion IsUnasked es → AllByRecursion (IsAsked setup.workers) es
  still_asked es a = all_of IsUnasked (IsAsked setup.workers) (unasked setup.workers) es a

  touched_known : (c : List ℕ) (row : List (Slot Message)) (s : OwnerAt) → Known row s → Known (touched_row c row s) (touch_after c row s)
  touched_known c row s k = record {
    history = onto (touch_events_of c row s) k.history;
    keeps = touch_keeps me setup.workers setup.slots setup.first c row k.history s k.keeps;
    asked = all_onto (IsAsked setup.workers) (touch_events_of c row s) k.history (still_asked (touch_events_of c row s) (unasked_touch c row s)) k.asked;
  }

  removed_known : (goes : Bool) (c : List ℕ) (row : List (Slot Message)) (s : OwnerAt) → owner_of setup.workers c ≡ me → Known row s → Known (row_of_removal goes c row s) (after_removal goes c s)
  removed_known true c row s mine k = record {
    history = removed_onto none_next c Reaped k.history s;
    keeps = remove_keeps me setup.workers setup.slots setup.first none_next c Reaped row k.history s mine k.keeps;
    asked = all_onto (IsAsked setup.workers) _ k.history
        (woven_all (IsAsked setup.workers) s.desk.me none_next (λ to n l. tt) (removal_events c Reaped s) (removal_alerts c s) (still_asked (removal_events c Reaped s) (unasked_removal c Reaped s))) k.asked;
  }
  removed_known false c row s mine k = k

  gones_there : (goes : Bool) (c : List ℕ) (row : List (Slot Message)) (s : OwnerAt) → Known row s → AllByRecursion There (alerts_of_removal goes c s)
  gones_there true c row s k = told_are_there setup.workers c s (marks_there setup me row k.history s k.keeps.stands k.asked c) (members_there setup me row k.history s k.keeps.stands k.asked c)
  gones_there false c row s k = tt

  -- a deletion tells workers that are there, where one asked that is
  pub deletion_there : (from r : ℕ) (c : List ℕ) (row : List (Slot Message)) (s : OwnerAt) → from < setup.workers → Known row s → AllByRecursion There (delete_alerts from r c row s)
  deletion_there from r c row s there k =
      all_append There (alerts_of_removal (exists c s) c (touch_after c row s)) _ (gones_there (exists c s) c (touched_row c row s) (touch_after c row s) (touched_known c row s k)) (answer (exists c s), tt)
    where
      info : Option Info
      info = Some (info_of (touched_of c row s).channel)

      answer : (b : Bool) → (cond b (delete_answer from r 200 info) (delete_answer from r 404 None)).to < setup.workers
      answer true = there
      answer false = there

  record SweptThere (x : Swept) : Type 0 where
    known : Known x.row x.owner
    there : AllAlerts There x.steps

  sweep : (x : Swept) (c : List ℕ) → owner_of setup.workers c ≡ me → SweptThere x → SweptThere (swept x c)
  sweep x c mine k =
      let goes = is_reaped c x.row x.owner in
      let row = touched_row c x.row x.owner in
      let after = touch_after c x.row x.owner in
      let one = sweep_step c x.row x.owner in
      let known = touched_known c x.row x.owner k.known in
      record {
        known = removed_known goes c row after mine known;
        there = all_append (λ y. AllByRecursion There y.alerts) x.steps (one ∷ []) k.there (gones_there goes c row after known, tt);
      }

  sweep_all : (names : List (List ℕ)) (x : Swept) → AllByRecursion (λ c. owner_of setup.workers c ≡ me) names → SweptThere x → SweptThere (fold swept x names)
  sweep_all [] x mine k = k
  sweep_all (c ∷ names) x mine k = sweep_all names (swept x c) mine.1 (sweep x c mine.0 k)

  -- and so do the sweeps of a reap
  pub sweeps_there : (row : List (Slot Message)) (s : OwnerAt) → OwnsChannels setup.workers me s → Known row s → AllAlerts There (swept_all row s).steps
  sweeps_there row s owns k = (sweep_all (names_of s) (state s row []) owns (record { known = k; there = tt })).there
