-- The hold that the answer to a look carries is of the slot in which the message lies.
use Rattle.std.proofs.Common.{◌≡◌, ℕ, Bool, true, false, cond, List, [], ◌∷◌, Option, Some, None, refl, ap, find, subst}
use Rattle.std.specs.Prelude.{IfSome}
use Rattle.std.specs.List.{AllByRecursion}
use Rattle.nc_types.specs.Id.{Id, is_past}
use Rattle.nc_types.specs.Message.{Message}
use Rattle.nc_alert.specs.declared.packet.Outgoing.{Outgoing}
use Rattle.nc_alert.specs.Packet.{grant_of}
use Rattle.nc_buffer.specs.declared.entry.Entry.{Entry}
use Rattle.nc_buffer.specs.Buffer.{is_spent}
use Rattle.nc_slots.specs.declared.slot.Slot.{Slot}
use Rattle.nc_slots.specs.declared.slot.Slot.TheVariants.{Unused, Buffered, Retired}
use Rattle.nc_slots.specs.Slot.{slot_at, message_of}
use Rattle.nc_slots.specs.Slots.{HoldAt}
use Rattle.nc_owner.specs.declared.desk.Desk.{Desk}
use Rattle.nc_owner.specs.State.{OwnerAt, entries_of}
use Rattle.nc_owner.specs.AlertLines.{OutLine, out_line, out_lines}
use Rattle.nc_owner.specs.Look.{found_on, found_line, found_desk, look_ready, look_alerts}
use Rattle.nc_owner.specs.TouchedLook.{CarriesFound, CarriesSeen}
use Rattle.nc_owner.specs.OtherSteps.{touched_of}
use Rattle.nc_owner_laws.specs.OwnerFits.{OwnerFits}
use Rattle.nc_owner_laws.specs.Kept.{IsIn, AreIn}
use Rattle.nc_owner_laws.proofs.Leaving.{let_go_fits}
use Rattle.nc_owner_laws.proofs.Opening.{rest_of}
use Rattle.nc_owner_laws.proofs.Steps.{touched_fits}
use Rattle.nc_outbox.specs.Outboxes.{IsGranted}
use Rattle.nc_scribe.specs.Scribe.{AllGranted}
use Rattle.nc_owned.proofs.Shares.{has_grant, no_grant, granted_by}

first_is : {X : Type 0} → (test : X → Bool) (P : X → Type 0) (x : X) (xs : List X) → find test xs ≡ Some x → AllByRecursion P xs → P x
first_is test P x [] h all = absurd cc
first_is {X} test P x (y ∷ xs) h all = by (test y) h (first_is test P x xs)
  where
    by : (b : Bool) → cond b (Some y) (find test xs) ≡ Some x → (find test xs ≡ Some x → AllByRecursion P xs → P x) → P x
    by true h rest = let same : y ≡ x = cc in subst P same all.0
    by false h rest = rest h all.1

lies : (slot : Slot Message) (e : Entry) → IsIn slot e → (m : Message) × (message_of slot ≡ Some m)
lies Unused e is = absurd is
lies (Buffered message clear grants) e is = (message, refl)
lies (Retired clear grants) e is = absurd is

pub found_me : (x : Option Entry) (d : Desk) → (found_desk x d).me ≡ d.me
found_me None d = refl
found_me (Some e) d = refl

module _ {H : Type 0} (held : H → HoldAt) where
  found_granted : (from number : ℕ) (entry : Option Entry) (d : Desk) (row : List (Slot Message)) (o : Outgoing H) → IfSome entry (λ e. IsIn (slot_at row e.slot) e) → out_line o ≡ found_line from number entry d
      → CarriesFound held d.me row entry o → IfSome (grant_of o.alert) (IsGranted held d.me)
  found_granted from number None d row o is said carries = no_grant held d.me o.alert (ap (λ (l : OutLine). has_grant l.line) said)
  found_granted from number (Some e) d row o is said carries = let here = lies (slot_at row e.slot) e is in granted_by held d.me here.0 (grant_of o.alert) (carries here.0 here.1)

  entry_in : (id : Id) (es : List Entry) (row : List (Slot Message)) (x : Option Entry) → find (λ e. is_past e.id id) es ≡ x → AreIn row es → IfSome x (λ e. IsIn (slot_at row e.slot) e)
  entry_in id es row None is all = tt
  entry_in id es row (Some e) is all = first_is (λ (e : Entry). is_past e.id id) (λ (e : Entry). IsIn (slot_at row e.slot) e) e es is all

  pub looked_granted : (from number : ℕ) (c : List ℕ) (id : Id) (row : List (Slot Message)) (s : OwnerAt) (os : List (Outgoing H)) → OwnerFits row s → out_lines os ≡ look_alerts from number c id row s
      → AllByRecursion (CarriesSeen held id (touched_of c row s)) os → AllGranted held s.desk.me os
  looked_granted from number c id row s [] f said carries = tt
  looked_granted from number c id row s (o ∷ []) f said carries =
      let b = look_ready c row s in
      let fits = let_go_fits (rest_of c s) is_spent (touched_of c row s) (touched_fits c row s f) in
      let line : out_line o ≡ found_line from number (found_on id b) b.desk = cc in
      (found_granted from number (found_on id b) b.desk b.row o (entry_in id (entries_of b.channel) b.row (found_on id b) refl fits.kept) line carries.0, tt)
  looked_granted from number c id row s (o ∷ p ∷ os) f said carries = absurd cc
