-- What an alert leads to, by its kind.
use Rattle.std.proofs.Common.{◌≡◌, ℕ, Bool, List, [], Option, None, Some, IfSome, refl, sym, ap, subst}
use Rattle.nc_types.specs.Message.{Message}
use Rattle.nc_journal.specs.declared.alert.AlertLine.{AlertLine}
use Rattle.nc_alert.specs.declared.alert.Alert.{Alert}
use Rattle.nc_alert.specs.declared.alert.Grant.{Grant}
use Rattle.nc_alert.specs.Packet.{grant_of}
use Rattle.nc_slots.specs.declared.slot.Slot.{Slot}
use Rattle.nc_slots.specs.Slots.{HoldAt}
use Rattle.nc_owner.specs.State.{OwnerAt}
use Rattle.nc_owner.specs.AlertLines.{alert_line, answer_line}
use Rattle.nc_owner_laws.specs.OwnerFits.{OwnerFits}
use Rattle.nc_history.specs.Packets.{packet}
use Rattle.nc_worker_state.specs.Incoming.{TakesPacket}
use Rattle.nc_worker_state.specs.Owned.{Holding, AskedPolls, at_once, owned_by, unowned, no_polls}
use Rattle.nc_worker_state.specs.Desk.{Served, unserved, handled}
use Rattle.nc_outbox.specs.Outboxes.{IsGranted}
use Rattle.nc_scribe.specs.Scribe.{ScribeAt, KeepsOwn}
use Rattle.nc_desk.specs.Desk.{told_desk, Serves, KeepsHeld}
use Rattle.nc_desk.specs.declared.desk.Desk.{Desk as DeskAt}
use Rattle.nc_owned.specs.Owns.{holding_at, Owns}
use Rattle.nc_worker.specs.declared.parts.Parts.{Parts}
use Rattle.nc_worker.specs.Parts.{me_of, AreSound, Acts}
use Rattle.nc_worker.proofs.Acting.{acts_owned, acts_heard, held_same}

module _ {H : Type 0} (held : H → HoldAt) (exact : Bool) (from : ℕ) (slots new_slots : ℕ → List (Slot Message)) (holds new_holds : ℕ → List ℕ) (old new : Parts H) where
  -- an alert leads to this, whatever its number
  abbrev pub Hears : Alert H → Type 0
  Hears a = (n : ℕ) → Acts held exact (TakesPacket from (packet n (alert_line a))) [] (handled (me_of old) from (alert_line a) (told_desk old.desk)) slots new_slots holds new_holds old new

-- what an alert asks of an owner: nothing
pub record AsksNothing (exact : Bool) (from : ℕ) (line : AlertLine) : Type 0 where
  pub fit : (s : Holding) → AskedPolls exact line s no_polls
  pub none : (s : Holding) → owned_by no_polls from line s ≡ unowned s

-- nor does an answer to a look
pub answer_asks : {H : Type 0} (exact : Bool) (from number q floor : ℕ) (found : Option (Grant H)) → AsksNothing exact from (answer_line number q floor found)
answer_asks exact from number q floor None = record { fit = λ s. tt; none = λ s. refl }
answer_asks exact from number q floor (Some found) = record { fit = λ s. tt; none = λ s. refl }

module _ {H : Type 0} (held : H → HoldAt) (exact : Bool) (from : ℕ) (slots : ℕ → List (Slot Message)) (holds : ℕ → List ℕ) (old : Parts H) (sound : AreSound held old) (a x : Alert H) (is : a ≡ x) where
  -- the owner did what it asks
  pub hears_owned : (new_slots : ℕ → List (Slot Message)) (new_holds : ℕ → List ℕ) (owner : OwnerAt) (scribe : ScribeAt H)
      → handled (me_of old) from (alert_line x) (told_desk old.desk) ≡ unserved (told_desk old.desk)
      → ((n : ℕ) → Owns held exact (TakesPacket from (packet n (alert_line x))) slots new_slots holds new_holds old.owner owner old.scribe scribe)
      → Hears held exact from slots new_slots holds new_holds old (record old { owner = owner; scribe = scribe }) a
  hears_owned new_slots new_holds owner scribe none owns =
      subst (λ (y : Alert H). Hears held exact from slots new_slots holds new_holds old (record old { owner = owner; scribe = scribe }) y) (sym is)
      (λ n. subst (λ (r : Served). Acts held exact (TakesPacket from (packet n (alert_line x))) [] r slots new_slots holds new_holds old (record old { owner = owner; scribe = scribe })) (sym none)
      (acts_owned held exact (TakesPacket from (packet n (alert_line x))) slots new_slots holds new_holds old sound owner scribe (owns n)))

  -- the desk did what it says
  pub hears_served : (desk : DeskAt H) (scribe : ScribeAt H) → OwnerFits (slots (me_of old)) old.owner → AsksNothing exact from (alert_line x)
      → Serves desk old.scribe scribe (handled old.scribe.me from (alert_line x) (told_desk old.desk)) → KeepsOwn held old.scribe scribe → KeepsHeld held old.desk desk
      → Hears held exact from slots slots holds holds old (record old { desk = desk; scribe = scribe }) a
  hears_served desk scribe fits asks serves own kept =
      subst (λ (y : Alert H). Hears held exact from slots slots holds holds old (record old { desk = desk; scribe = scribe }) y) (sym is)
      (λ n. acts_heard held exact (TakesPacket from (packet n (alert_line x))) slots holds old sound (λ me. handled me from (alert_line x) (told_desk old.desk)) desk scribe fits
      (asks.fit (holding_at slots holds old.owner)) (ap at_once (asks.none (holding_at slots holds old.owner))) serves own kept)

  -- the same where its spools stay
  pub hears_replied : (desk : DeskAt H) (scribe : ScribeAt H) → OwnerFits (slots (me_of old)) old.owner → AsksNothing exact from (alert_line x)
      → Serves desk old.scribe scribe (handled old.scribe.me from (alert_line x) (told_desk old.desk)) → KeepsOwn held old.scribe scribe → desk.spools ≡ old.desk.spools
      → Hears held exact from slots slots holds holds old (record old { desk = desk; scribe = scribe }) a
  hears_replied desk scribe fits asks serves own same =
      hears_served desk scribe fits asks serves own (held_same held exact (TakesPacket from (packet 0 (alert_line x))) slots holds old sound desk same)

-- the hold of an alert of this kind
pub granted_at : {H : Type 0} (held : H → HoldAt) (from : ℕ) (a x : Alert H) → a ≡ x → IfSome (grant_of a) (IsGranted held from) → IfSome (grant_of x) (IsGranted held from)
granted_at {H} held from a x is granted = subst (λ (y : Alert H). IfSome (grant_of y) (IsGranted held from)) is granted
