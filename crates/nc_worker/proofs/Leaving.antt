-- A packet leaves a worker.
use Rattle.std.proofs.Common.{◌≡◌, ℕ, Bool, true, false, cond, List, [], ◌∷◌, map, drop, refl, sym, ap, ◌∙◌, subst, inl, inr}
use Rattle.std.specs.Prelude.{◌==◌}
use Rattle.std.specs.List.{AllByRecursion}
use Rattle.std.proofs.Math.Path.{fun_ext}
use Rattle.std.proofs.lemmas.Bool.Decides.{eqb_tells}
use Rattle.nc_alert.specs.declared.packet.Packet.{Packet}
use Rattle.nc_slots.specs.Slots.{HoldAt}
use Rattle.nc_history.specs.Packets.{Packet as Told}
use Rattle.nc_worker_state.specs.Incoming.{told_packet}
use Rattle.nc_worker_state.specs.Worker.{with_at}
use Rattle.nc_outbox.specs.Outboxes.{next_of, packets_of, outbox_of, IsOwn, AreOwn}
use Rattle.nc_scribe.specs.Scribe.{ScribeAt}
use Rattle.nc_worker.specs.declared.parts.Parts.{Parts}
use Rattle.nc_worker.specs.Parts.{worker_of}
use Rattle.nc_worker.specs.Worker.{IsWorker}

module _ {H : Type 0} where
  own_rest : (P : Packet H → Type 0) (ps : List (Packet H)) → AllByRecursion P ps → AllByRecursion P (drop 1 ps)
  own_rest P [] all = tt
  own_rest P (p ∷ ps) all = all.1

  told_rest : (ps : List (Packet H)) → map told_packet (drop 1 ps) ≡ drop 1 (map told_packet ps)
  told_rest [] = refl
  told_rest (p ∷ ps) = refl

  told_by : (b : Bool) (ps qs : List (Packet H)) → map told_packet (cond b (drop 1 ps) qs) ≡ cond b (drop 1 (map told_packet ps)) (map told_packet qs)
  told_by true ps qs = told_rest ps
  told_by false ps qs = refl

  -- the worker behind it
  module _ (old : Parts H) (to : ℕ) (scribe : ScribeAt H) (packets : packets_of scribe.outboxes ≡ with_at (packets_of old.scribe.outboxes) to (drop 1 (packets_of old.scribe.outboxes to))) where
    abbrev new : Parts H
    new = record old { scribe = scribe }

    abbrev told_to : (ℕ → List (Packet H)) → ℕ → List Told
    told_to f v = map told_packet (f v)

    outbox_is : outbox_of scribe.outboxes ≡ with_at (outbox_of old.scribe.outboxes) to (drop 1 (outbox_of old.scribe.outboxes to))
    outbox_is = ap told_to packets ∙ fun_ext (λ v. told_by (v == to) (packets_of old.scribe.outboxes to) (packets_of old.scribe.outboxes v))

    pub worker_rest : next_of scribe.outboxes ≡ next_of old.scribe.outboxes
        → worker_of new ≡ record (worker_of old) { outbox = with_at (worker_of old).outbox to (drop 1 ((worker_of old).outbox to)) }
    worker_rest next = λ i. record (worker_of old) { next = next i; outbox = outbox_is i }

    own_behind : (held : H → HoldAt) (me : ℕ) → AreOwn held me old.scribe.outboxes → (v : ℕ) → AllByRecursion (IsOwn held me v) (packets_of scribe.outboxes v)
    own_behind held me own v =
        subst (λ (f : ℕ → List (Packet H)). AllByRecursion (IsOwn held me v) (f v)) (sym packets)
        (elim (eqb_tells v to) [
          | inl same ↦ rw same.0 (subst (λ (x : ℕ). AllByRecursion (IsOwn held me v) (drop 1 (packets_of old.scribe.outboxes x))) same.1 (own_rest (IsOwn held me v) (packets_of old.scribe.outboxes v) (own v)))
          | inr apart ↦ rw apart.0 (own v)
        ])

    pub fit_behind : (held : H → HoldAt) → scribe.me ≡ old.scribe.me → scribe.events ≡ old.scribe.events → IsWorker held old → IsWorker held new
    fit_behind held me events fit = record {
      sound = record { me = me ∙ fit.sound.me; own = subst (λ (m : ℕ). AreOwn held m scribe.outboxes) (sym me) (own_behind held old.scribe.me fit.sound.own); kept = fit.sound.kept };
      told = events ∙ fit.told;
    }
