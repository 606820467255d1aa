-- A whole step: what was done up to the releases, and these.
use Rattle.std.proofs.Common.{◌≡◌, ℕ, Bool, true, false, cond, not, List, [], ◌∷◌, ◌++◌, refl, sym, ◌∙◌, ap, map, append_assoc, subst}
use Rattle.std.specs.Prelude.{filter}
use Rattle.nc_types.specs.Message.{Message}
use Rattle.nc_journal.specs.declared.event.Event.{Event}
use Rattle.nc_slots.specs.declared.slot.Slot.{Slot}
use Rattle.nc_slots.specs.Slots.{HoldAt}
use Rattle.nc_owner.specs.Pool.{SameOthers}
use Rattle.nc_owner_laws.specs.OwnerFits.{OwnerFits}
use Rattle.nc_spool_state.specs.declared.kept.Held.{Held}
use Rattle.nc_spool_state.specs.Kept.{is_idle}
use Rattle.nc_spool.specs.Calls.{SpoolsAt}
use Rattle.nc_worker_state.specs.Setup.{Setup}
use Rattle.nc_worker_state.specs.Incoming.{Incoming}
use Rattle.nc_worker_state.specs.Spooled.{Hold, release, releases, without_idles}
use Rattle.nc_worker_state.specs.Deed.{told, next_after}
use Rattle.nc_worker_state.specs.Owned.{owned_in}
use Rattle.nc_worker_state.specs.Desk.{Desk, opening, begun, served}
use Rattle.nc_worker_state.specs.Worker.{IsHandled, given_back, part_woven, step_events, with_at}
use Rattle.nc_outbox.specs.Outboxes.{next_of, outbox_of}
use Rattle.nc_scribe.specs.Scribe.{ScribeAt, TellsMore, IsOwnScribe, KeepsOwn}
use Rattle.nc_scribe.specs.Story.{Story}
use Rattle.nc_scribe.proofs.Deeds.{told-append}
use Rattle.nc_scribe.proofs.Story.{tells_on, tells_same}
use Rattle.nc_desk.specs.Desk.{told_hold, told_spools, told_desk, AreHeld}
use Rattle.nc_desk.specs.Release.{released, idle_events, busy_spools, busy_desk}
use Rattle.nc_desk.specs.declared.desk.Desk.{Desk as DeskAt}
use Rattle.nc_owned.specs.Owns.{holding_at}
use Rattle.nc_worker.specs.declared.parts.Parts.{Parts}
use Rattle.nc_worker.specs.Parts.{me_of, seat_of, acted_events, AreSound, Acts}
use Rattle.nc_worker.proofs.Returning.{given_none, acted_unreleased, begun_plain, plain_aside}

module _ {X Y : Type 0} (f : X → Y) (test : Y → Bool) where
  filter_by : (b : Bool) (x : X) (xs : List X) (ys : List Y) → ys ≡ map f xs → cond b (f x ∷ ys) ys ≡ map f (cond b (x ∷ xs) xs)
  filter_by true x xs ys e = ap (λ (l : List Y). f x ∷ l) e
  filter_by false x xs ys e = e

  filter_map : (xs : List X) → filter test (map f xs) ≡ map f (filter (λ x. test (f x)) xs)
  filter_map [] = refl
  filter_map (x ∷ xs) = filter_by (test (f x)) x (filter (λ y. test (f y)) xs) (filter test (map f xs)) (filter_map xs)

told_releases : (me : ℕ) (next : ℕ → ℕ) (hs : List (Held Hold)) → told me next (map (release me) hs) ≡ map (released me) hs
told_releases me next [] = refl
told_releases me next (h ∷ hs) = ap (λ (l : List Event). released me h ∷ l) (told_releases me next hs)

module _ {H : Type 0} where
  released_told : (me : ℕ) (hs : List (Held H)) → map (released me) (map told_hold hs) ≡ map (released me) hs
  released_told me [] = refl
  released_told me (h ∷ hs) = ap (λ (l : List Event). released me h ∷ l) (released_told me hs)

  -- the releases of a step are told
  releases_told : (me : ℕ) (next : ℕ → ℕ) (s : SpoolsAt H) → told me next (releases me (told_spools s)) ≡ idle_events me s
  releases_told me next s =
      told_releases me next (filter (is_idle s.shelf) (map told_hold s.kept))
      ∙ (ap (map (released me)) (filter_map told_hold (is_idle s.shelf) s.kept) ∙ released_told me (filter (is_idle s.shelf) s.kept))

  -- the spools after them
  busy_told : (s : SpoolsAt H) → told_spools (busy_spools s) ≡ without_idles (told_spools s)
  busy_told s = λ i. record (told_spools s) { kept = sym (filter_map told_hold (λ (h : Held Hold). not (is_idle s.shelf h)) s.kept) i }

module _ {H : Type 0} (held : H → HoldAt) (exact : Bool) (setup : Setup) (incoming : Incoming) (slots mid_slots new_slots : ℕ → List (Slot Message)) (holds mid_holds new_holds : ℕ → List ℕ) (old mid : Parts H) (desk : DeskAt H) (scribe last : ScribeAt H)
    (acts : Acts held exact incoming (opening setup (me_of old) incoming (told_desk old.desk)) (begun setup (me_of old) incoming (told_desk old.desk)) slots mid_slots holds mid_holds old mid)
    (tells : TellsMore mid.scribe scribe (idle_events mid.scribe.me mid.desk.spools)) (busy : desk ≡ busy_desk mid.desk) (same_slots : new_slots ≡ mid_slots)
    (ends : last ≡ record scribe { events = [] }) where
  -- the whole step is told
  whole : (idle_events mid.scribe.me mid.desk.spools ≡ idle_events (me_of old) mid.desk.spools)
      → acted_events (me_of old) (next_of old.scribe.outboxes) (opening setup (me_of old) incoming (told_desk old.desk)) (owned_in acts.polls incoming (holding_at slots holds old.owner)) (begun setup (me_of old) incoming (told_desk old.desk)) ++ idle_events mid.scribe.me mid.desk.spools
      ≡ step_events setup (me_of old) acts.polls incoming (seat_of slots holds old)
  whole mine =
      let me = me_of old in
      let next = next_of old.scribe.outboxes in
      let w : List Event = part_woven me next (owned_in acts.polls incoming (holding_at slots holds old.owner)) in
      let front : List Event = opening setup me incoming (told_desk old.desk) ++ w in
      let r = begun setup me incoming (told_desk old.desk) in
      let behind : List Event = told me (next_after next w) r.deeds in
      let after : ℕ → ℕ = next_after (next_after next w) behind in
      let idle : told me after (releases me r.after.spools) ≡ idle_events me mid.desk.spools = ap (λ (d : Desk). told me after (releases me d.spools)) (sym acts.desk) ∙ releases_told me after mid.desk.spools in
      ap (λ (l : List Event). front ++ behind ++ l) (mine ∙ sym idle)
      ∙ (append_assoc front behind (told me after (releases me r.after.spools))
      ∙ ap (λ (l : List Event). front ++ l) (sym (told-append me r.deeds (releases me r.after.spools) (next_after next w) (plain_aside r.deeds (begun_plain setup me incoming (told_desk old.desk))))))

  mid_me : mid.scribe.me ≡ me_of old
  mid_me = acts.sound.me ∙ acts.leaves.me

  same_whole : acted_events (me_of old) (next_of old.scribe.outboxes) (opening setup (me_of old) incoming (told_desk old.desk)) (owned_in acts.polls incoming (holding_at slots holds old.owner)) (begun setup (me_of old) incoming (told_desk old.desk)) ++ idle_events mid.scribe.me mid.desk.spools
      ≡ step_events setup (me_of old) acts.polls incoming (seat_of slots holds old)
  same_whole = whole (ap (λ (n : ℕ). idle_events n mid.desk.spools) mid_me)

  all_told : TellsMore old.scribe scribe (step_events setup (me_of old) acts.polls incoming (seat_of slots holds old))
  all_told = tells_same same_whole (tells_on acts.tells tells)

  row_left : new_slots (me_of mid) ≡ mid_slots (me_of old)
  row_left = ap new_slots acts.leaves.me ∙ (λ i. same_slots i (me_of old))

  -- the step is handled
  pub handled_whole : (es : List Event) → old.scribe.events ≡ [] → es ≡ scribe.events → (exact ≡ true → new_holds ≡ given_back mid_holds (idle_events mid.scribe.me mid.desk.spools))
      → IsHandled exact setup (me_of old) incoming (seat_of slots holds old) es (seat_of new_slots new_holds (record mid { desk = desk; scribe = last }))
  handled_whole es none is back =
      let me = me_of old in
      let next = next_of old.scribe.outboxes in
      let o = owned_in acts.polls incoming (holding_at slots holds old.owner) in
      let r = begun setup me incoming (told_desk old.desk) in
      let steps : List Event = step_events setup me acts.polls incoming (seat_of slots holds old) in
      let left : told_desk desk ≡ (served setup me incoming (told_desk old.desk)).after =
      ap told_desk busy ∙ ((λ i. record (told_desk mid.desk) { spools = busy_told mid.desk.spools i }) ∙ ap (λ (d : Desk). record d { spools = without_idles d.spools }) acts.desk) in
      let idle : List Event = idle_events mid.scribe.me mid.desk.spools in
      record {
        polls = acts.polls;
        fit = acts.fit;
        happened = is ∙ (ap (λ (s : Story). s.events) all_told.story ∙ ap (λ (l : List Event). l ++ steps) none);
        worker = λ i. record {
          owner = acts.leaves.owner i;
          desk = left i;
          next = (ap (λ (s : ScribeAt H). next_of s.outboxes) ends ∙ ap (λ (s : Story). s.next) all_told.story) i;
          outbox = (ap (λ (s : ScribeAt H). outbox_of s.outboxes) ends ∙ ap (λ (s : Story). s.outbox) all_told.story) i;
        };
        slots = row_left ∙ acts.leaves.row;
        holds = λ x.
            back x
            ∙ (ap (λ (f : ℕ → List ℕ). given_back f idle) (acts.leaves.counts x)
            ∙ (sym (given_none (acted_events me next (opening setup me incoming (told_desk old.desk)) o r) idle (with_at holds me o.last.after.counts) (acted_unreleased setup me next acts.polls incoming (told_desk old.desk) (holding_at slots holds old.owner)))
            ∙ ap (given_back (with_at holds me o.last.after.counts)) same_whole));
      }

  pub others_whole : SameOthers (me_of old) slots new_slots
  others_whole = subst (λ (f : ℕ → List (Slot Message)). SameOthers (me_of old) slots f) (sym same_slots) acts.leaves.others

  pub fits_whole : OwnerFits (new_slots (me_of old)) mid.owner
  fits_whole = subst (λ (f : ℕ → List (Slot Message)). OwnerFits (f (me_of old)) mid.owner) (sym same_slots) acts.leaves.fits

  pub sound_whole : KeepsOwn held mid.scribe scribe → AreHeld held desk.spools.kept → AreSound held (record mid { desk = desk; scribe = last })
  sound_whole own kept = record {
    me = ap (λ (s : ScribeAt H). s.me) ends ∙ (tells.me ∙ acts.sound.me);
    own = subst (λ (s : ScribeAt H). IsOwnScribe held s) (sym ends) (own acts.sound.own);
    kept = kept;
  }
