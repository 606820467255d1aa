-- One event is told, and one alert is made.
use Rattle.std.proofs.Common.{◌≡◌, ℕ, Bool, true, false, cond, List, [], ◌∷◌, ◌++◌, refl, sym, ◌∙◌, ap, map, inl, inr, subst}
use Rattle.std.specs.Prelude.{◌==◌, IfSome}
use Rattle.std.specs.List.{AllByRecursion}
use Rattle.std.proofs.Math.Path.{fun_ext}
use Rattle.std.proofs.lemmas.List.{append-nil, map-append}
use Rattle.std.proofs.lemmas.Bool.Decides.{eqb_tells}
use Rattle.nc_alert.specs.declared.packet.Outgoing.{Outgoing}
use Rattle.nc_alert.specs.declared.packet.Packet.{Packet}
use Rattle.nc_alert.specs.Packet.{packet_of, grant_of}
use Rattle.nc_slots.specs.Slots.{HoldAt}
use Rattle.nc_owner.specs.AlertLines.{alert_line}
use Rattle.nc_history.specs.Packets.{Packet as Told, packet}
use Rattle.nc_worker_state.specs.Incoming.{told_packet}
use Rattle.nc_worker_state.specs.Worker.{with_at}
use Rattle.nc_outbox.specs.Outboxes.{OutboxesAt, next_of, packets_of, outbox_of, IsOwn, AreOwn, IsGranted}
use Rattle.nc_scribe.specs.Story.{sent_on}
use Rattle.nc_scribe.specs.Scribe.{made_event}

tests : (v to : ℕ) → (v == to) ≡ true → v ≡ to
tests v to is = elim (eqb_tells v to) [ inl same ↦ same.1 | inr apart ↦ absurd (cc (is, apart.0)) ]

module _ {H : Type 0} where
  -- the packets to each receiver without their holds
  abbrev told_to : (ℕ → List (Packet H)) → ℕ → List Told
  told_to packets v = map told_packet (packets v)

  waits_by : (me to v : ℕ) (o : Outgoing H) (n : ℕ) (ps qs : List (Packet H)) (b : Bool) → o.to ≡ to → (b ≡ true → v ≡ to) → (v ≡ to → qs ≡ ps)
      → map told_packet (cond b (qs ++ packet_of me n o ∷ []) ps) ≡ map told_packet ps ++ cond b (packet n (alert_line o.alert) ∷ []) []
  waits_by me to v o n ps qs true is_to is same =
      map-append told_packet qs (packet_of me n o ∷ []) ∙ ap (λ (l : List (Packet H)). map told_packet l ++ packet n (alert_line o.alert) ∷ []) (same (is refl))
  waits_by me to v o n ps qs false is_to is same = sym (append-nil (map told_packet ps))

  -- the packet of an alert waits behind the others
  pub waits_more : (me : ℕ) (o : Outgoing H) (old new : OutboxesAt H)
      → packets_of new ≡ with_at (packets_of old) o.to (packets_of old o.to ++ packet_of me (next_of old o.to) o ∷ [])
      → outbox_of new ≡ sent_on (outbox_of old) (made_event me (next_of old) o ∷ [])
  waits_more me o old new is =
      ap told_to is
      ∙ fun_ext (λ v. waits_by me o.to v o (next_of old o.to) (packets_of old v) (packets_of old o.to) (v == o.to) refl (tests v o.to) (λ e. ap (packets_of old) (sym e)))

  all_put : (P : Packet H → Type 0) (ps : List (Packet H)) (p : Packet H) → AllByRecursion P ps → P p → AllByRecursion P (ps ++ p ∷ [])
  all_put P [] p all last = (last, tt)
  all_put P (q ∷ ps) p all last = (all.0, all_put P ps p all.1 last)

  own_by : (held : H → HoldAt) (me : ℕ) (o : Outgoing H) (n v : ℕ) (ps qs : List (Packet H)) (b : Bool) → (b ≡ true → v ≡ o.to) → (v ≡ o.to → qs ≡ ps) → IfSome (grant_of o.alert) (IsGranted held me)
      → AllByRecursion (IsOwn held me v) ps → AllByRecursion (IsOwn held me v) (cond b (qs ++ packet_of me n o ∷ []) ps)
  own_by held me o n v ps qs true is same granted own =
      all_put (IsOwn held me v) qs (packet_of me n o) (subst (AllByRecursion (IsOwn held me v)) (sym (same (is refl))) own) (record { sender = refl; receiver = sym (is refl); granted = granted })
  own_by held me o n v ps qs false is same granted own = own

  -- it is the worker's own, as the others are
  pub own_made : (held : H → HoldAt) (me : ℕ) (o : Outgoing H) (old new : OutboxesAt H)
      → packets_of new ≡ with_at (packets_of old) o.to (packets_of old o.to ++ packet_of me (next_of old o.to) o ∷ [])
      → IfSome (grant_of o.alert) (IsGranted held me) → AreOwn held me old → AreOwn held me new
  own_made held me o old new is granted own =
      subst (λ (f : ℕ → List (Packet H)). (to : ℕ) → AllByRecursion (IsOwn held me to) (f to)) (sym is)
      (λ v. own_by held me o (next_of old o.to) v (packets_of old v) (packets_of old o.to) (v == o.to) (tests v o.to) (λ e. ap (packets_of old) (sym e)) granted (own v))
