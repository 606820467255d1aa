-- A step up to the releases, from what its parts did.
use Rattle.std.proofs.Common.{◌≡◌, ℕ, Bool, true, List, [], ◌∷◌, ◌++◌, refl, sym, ◌∙◌, ap, subst}
use Rattle.std.proofs.lemmas.List.{append-nil}
use Rattle.nc_types.specs.Message.{Message}
use Rattle.nc_journal.specs.declared.event.Event.{Event}
use Rattle.nc_journal.specs.declared.event.Event.TheVariants.{Clock}
use Rattle.nc_slots.specs.declared.slot.Slot.{Slot}
use Rattle.nc_slots.specs.Slots.{HoldAt}
use Rattle.nc_owner.specs.State.{OwnerAt}
use Rattle.nc_owner.specs.OtherSteps.{with_clock}
use Rattle.nc_owner_laws.specs.OwnerFits.{OwnerFits}
use Rattle.nc_spool.specs.Calls.{SpoolsAt}
use Rattle.nc_worker_state.specs.Setup.{Setup}
use Rattle.nc_worker_state.specs.Incoming.{Incoming, ClockReads}
use Rattle.nc_worker_state.specs.Deed.{told, next_after}
use Rattle.nc_worker_state.specs.Owned.{OwnersPart, StepPolls, StepPollsFit, at_once, owned_in, unowned, no_polls}
use Rattle.nc_worker_state.specs.Desk.{Served, unserved, opening, begun}
use Rattle.nc_worker_state.specs.Worker.{part_woven, with_at}
use Rattle.nc_outbox.specs.Outboxes.{next_of}
use Rattle.nc_scribe.specs.Kinds.{is_aside}
use Rattle.nc_scribe.specs.Scribe.{ScribeAt, TellsMore, KeepsOwn}
use Rattle.nc_scribe.proofs.Story.{tells_on, tells_same, tells_next, next_after-aside}
use Rattle.nc_desk.specs.Desk.{told_desk, Serves, AreHeld, KeepsHeld}
use Rattle.nc_desk.specs.Begins.{Begins}
use Rattle.nc_desk.specs.declared.desk.Desk.{Desk as DeskAt}
use Rattle.nc_owned.specs.Owns.{holding_at, Owns}
use Rattle.nc_owned.proofs.Shares.{counts_same}
use Rattle.nc_worker.specs.declared.parts.Parts.{Parts}
use Rattle.nc_worker.specs.Parts.{me_of, AreSound, Acts}

-- the parts are still sound once something was told
pub sound_told : {H : Type 0} → (held : H → HoldAt) (old : Parts H) (scribe : ScribeAt H) (es : List Event) → TellsMore old.scribe scribe es → KeepsOwn held old.scribe scribe → AreSound held old → AreSound held (record old { scribe = scribe })
sound_told held old scribe es tells own sound = record { me = tells.me ∙ sound.me; own = own sound.own; kept = sound.kept }

-- no poll is made
abbrev pub none_polled : StepPolls
none_polled = record { publish = no_polls; reap = [] }

module _ {H : Type 0} (held : H → HoldAt) (exact : Bool) (incoming : Incoming) (slots new_slots : ℕ → List (Slot Message)) (holds new_holds : ℕ → List ℕ) (old : Parts H) (sound : AreSound held old) where
  -- the owner did its part
  pub acts_owned : (owner : OwnerAt) (scribe : ScribeAt H) → Owns held exact incoming slots new_slots holds new_holds old.owner owner old.scribe scribe
      → Acts held exact incoming [] (unserved (told_desk old.desk)) slots new_slots holds new_holds old (record old { owner = owner; scribe = scribe })
  acts_owned owner scribe o = record {
    polls = o.polls;
    fit = o.fit;
    leaves = o.leaves;
    desk = refl;
    tells = tells_same (sym (append-nil (part_woven (me_of old) (next_of old.scribe.outboxes) (owned_in o.polls incoming (holding_at slots holds old.owner))))) o.tells;
    sound = record { me = o.tells.me ∙ (sound.me ∙ sym o.leaves.me); own = o.own sound.own; kept = sound.kept };
  }

  -- the desk did something, and the owner nothing
  pub acts_served : (before : List Event) (r : Served) (desk : DeskAt H) (scribe : ScribeAt H) → OwnerFits (slots (me_of old)) old.owner → StepPollsFit exact incoming (holding_at slots holds old.owner) none_polled
      → owned_in none_polled incoming (holding_at slots holds old.owner) ≡ at_once (unowned (holding_at slots holds old.owner))
      → told_desk desk ≡ r.after → TellsMore old.scribe scribe (before ++ told (me_of old) (next_of old.scribe.outboxes) r.deeds) → KeepsOwn held old.scribe scribe → KeepsHeld held old.desk desk
      → Acts held exact incoming before r slots slots holds holds old (record old { desk = desk; scribe = scribe })
  acts_served before r desk scribe fits fit none after tells own kept = record {
    polls = none_polled;
    fit = fit;
    leaves = record {
      owner = ap (λ (o : OwnersPart). o.last.after.owner) (sym none);
      row = ap (λ (o : OwnersPart). o.last.after.row) (sym none);
      counts = λ x. counts_same holds holds (me_of old) refl ∙ ap (λ (o : OwnersPart). with_at holds (me_of old) o.last.after.counts) (sym none);
      others = refl;
      fits = fits;
      me = refl;
    };
    desk = after;
    tells = tells_same (ap (λ (l : List Event). l ++ told (me_of old) (next_of old.scribe.outboxes) r.deeds) (sym (append-nil before))
        ∙ ap (λ (o : OwnersPart). before ++ part_woven (me_of old) (next_of old.scribe.outboxes) o ++ told (me_of old) (next_after (next_of old.scribe.outboxes) (part_woven (me_of old) (next_of old.scribe.outboxes) o)) r.deeds) (sym none)) tells;
    sound = record { me = tells.me ∙ sound.me; own = own sound.own; kept = kept sound.kept };
  }

module _ {H : Type 0} (held : H → HoldAt) (exact : Bool) (incoming : Incoming) (slots : ℕ → List (Slot Message)) (holds : ℕ → List ℕ) (old : Parts H) (sound : AreSound held old) where
  -- the desk did what an alert asks of it
  pub acts_heard : (r : ℕ → Served) (desk : DeskAt H) (scribe : ScribeAt H) → OwnerFits (slots (me_of old)) old.owner → StepPollsFit exact incoming (holding_at slots holds old.owner) none_polled
      → owned_in none_polled incoming (holding_at slots holds old.owner) ≡ at_once (unowned (holding_at slots holds old.owner))
      → Serves desk old.scribe scribe (r old.scribe.me) → KeepsOwn held old.scribe scribe → KeepsHeld held old.desk desk
      → Acts held exact incoming [] (r (me_of old)) slots slots holds holds old (record old { desk = desk; scribe = scribe })
  acts_heard r desk scribe fits fit none serves own kept =
      acts_served held exact incoming slots slots holds holds old sound [] (r (me_of old)) desk scribe fits fit none
      (subst (λ (me : ℕ). told_desk desk ≡ (r me).after) sound.me serves.after)
      (subst (λ (me : ℕ). TellsMore old.scribe scribe (told me (next_of old.scribe.outboxes) (r me).deeds)) sound.me serves.tells) own kept

  -- what came was told, and the desk did what that leads to
  pub acts_begun : (setup : Setup) (desk : DeskAt H) (scribe : ScribeAt H) → OwnerFits (slots (me_of old)) old.owner → StepPollsFit exact incoming (holding_at slots holds old.owner) none_polled
      → owned_in none_polled incoming (holding_at slots holds old.owner) ≡ at_once (unowned (holding_at slots holds old.owner))
      → Begins setup incoming old.desk desk old.scribe scribe → KeepsOwn held old.scribe scribe → KeepsHeld held old.desk desk
      → Acts held exact incoming (opening setup (me_of old) incoming (told_desk old.desk)) (begun setup (me_of old) incoming (told_desk old.desk)) slots slots holds holds old (record old { desk = desk; scribe = scribe })
  acts_begun setup desk scribe fits fit none begins own kept =
      acts_served held exact incoming slots slots holds holds old sound (opening setup (me_of old) incoming (told_desk old.desk)) (begun setup (me_of old) incoming (told_desk old.desk)) desk scribe fits fit none
      (subst (λ (me : ℕ). told_desk desk ≡ (begun setup me incoming (told_desk old.desk)).after) sound.me begins.after)
      (subst (λ (me : ℕ). TellsMore old.scribe scribe (opening setup me incoming (told_desk old.desk) ++ told me (next_of old.scribe.outboxes) (begun setup me incoming (told_desk old.desk)).deeds)) sound.me begins.tells)
      own kept

  -- spools that are the same keep what they have
  pub held_same : (desk : DeskAt H) → desk.spools ≡ old.desk.spools → KeepsHeld held old.desk desk
  held_same desk same all = subst (λ (s : SpoolsAt H). AreHeld held s.kept) (sym same) all

clock_fits : (t : ℕ) (row : List (Slot Message)) (s : OwnerAt) → OwnerFits row s → OwnerFits row (with_clock t s)
clock_fits t row s f = record { names = f.names; slots = f.slots; apart = f.apart; number = f.number; kept = f.kept; regular = f.regular }

module _ {H : Type 0} (held : H → HoldAt) (exact : Bool) (slots : ℕ → List (Slot Message)) (holds : ℕ → List ℕ) (old new : Parts H) (sound : AreSound held old) where
  -- the clock was set
  pub acts_clocked : (t : ℕ) → OwnerFits (slots (me_of old)) old.owner → new.owner ≡ with_clock t old.owner → new.desk ≡ old.desk → TellsMore old.scribe new.scribe (Clock old.scribe.me t ∷ []) → KeepsOwn held old.scribe new.scribe
      → Acts held exact (ClockReads t) (Clock (me_of old) t ∷ []) (unserved (told_desk old.desk)) slots slots holds holds old new
  acts_clocked t fits owner desk tells own = record {
    polls = none_polled;
    fit = tt;
    leaves = record {
      owner = owner;
      row = refl;
      counts = λ x. counts_same holds holds (me_of old) refl;
      others = refl;
      fits = subst (λ (o : OwnerAt). OwnerFits (slots (me_of old)) o) (sym owner) (clock_fits t (slots (me_of old)) old.owner fits);
      me = ap (λ (o : OwnerAt). o.desk.me) owner;
    };
    desk = ap told_desk desk;
    tells = tells_same (λ i. Clock (sound.me i) t ∷ []) tells;
    sound = record {
      me = tells.me ∙ (sound.me ∙ sym (ap (λ (o : OwnerAt). o.desk.me) owner));
      own = own sound.own;
      kept = subst (λ (d : DeskAt H). AreHeld held d.spools.kept) (sym desk) sound.kept;
    };
  }

module _ {H : Type 0} (held : H → HoldAt) (exact : Bool) (incoming : Incoming) (slots new_slots : ℕ → List (Slot Message)) (holds new_holds : ℕ → List ℕ) (old : Parts H) where
  -- an event was told before
  pub acts_behind : (e : Event) (r : Served) (scribe : ScribeAt H) (new : Parts H) → is_aside e ≡ true → TellsMore old.scribe scribe (e ∷ [])
      → Acts held exact incoming [] r slots new_slots holds new_holds (record old { scribe = scribe }) new → Acts held exact incoming (e ∷ []) r slots new_slots holds new_holds old new
  acts_behind e r scribe new aside p a =
      let o = owned_in a.polls incoming (holding_at slots holds old.owner) in
      let next = tells_next p ∙ next_after-aside e [] (next_of old.scribe.outboxes) aside in
      record {
        polls = a.polls;
        fit = a.fit;
        leaves = a.leaves;
        desk = a.desk;
        tells = tells_same (λ i. (e ∷ []) ++ (part_woven (me_of old) (next i) o ++ told (me_of old) (next_after (next i) (part_woven (me_of old) (next i) o)) r.deeds)) (tells_on p a.tells);
        sound = a.sound;
      }
