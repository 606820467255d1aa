-- What a worker's step leaves: the local histories, what is pending, and the stages of subscribers.
use Rattle.std.proofs.Common.{◌≡◌, ℕ, Bool, true, false, cond, List, [], ◌∷◌, ◌++◌, refl, sym, ap, ◌∙◌, drop, arith}
use Rattle.std.specs.Prelude.{◌==◌, ◌&&◌}
use Rattle.std.specs.List.{AllByRecursion}
use Rattle.std.proofs.lemmas.Bool.Decides.{nat_tests}
use Rattle.nc_journal.specs.History.{own, onto, is_by}
use Rattle.nc_journal.specs.Standing.{stage_of}
use Rattle.nc_journal.specs.declared.event.Event.{Event}
use Rattle.nc_journal.specs.declared.event.Event.TheVariants.{Subscribed, Started, Sent, Ended, Made, Took}
use Rattle.nc_journal.specs.declared.alert.AlertLine.{AlertLine}
use Rattle.nc_owner_laws.specs.Kinds.{IsOfOwner}
use Rattle.nc_owner_laws.specs.Wake.{made_to}
use Rattle.nc_owner_laws.proofs.Stamping.{onto_append}
use Rattle.nc_history.specs.Packets.{Packet, kind_of, pending, sent_lines}
use Rattle.nc_worker_state.specs.Setup.{Setup}
use Rattle.nc_worker_state.specs.Incoming.{Incoming, TakesPacket, ClockReads, Reaps, Posts, Subscribes, Removes, Informs}
use Rattle.nc_worker_state.specs.Worker.{sent_to}
use Rattle.nc_world.specs.World.{World, handled_events}
use Rattle.nc_world.specs.Reached.{IsSetup, IsInput}
use Rattle.nc_world_laws.proofs.WorkerKinds.{IsBy, IsUntaken}
use Rattle.nc_world_laws.specs.Good.{Good}
use Rattle.nc_world_laws.proofs.Local.{eq_of, own_onto, own_other}
use Rattle.nc_world_laws.proofs.Queues.{pending_after}
use Rattle.nc_world_laws.proofs.Parts.{before, part, behind, rest, rest_by, rest_untaken, step_by, part_all}

-- ---- local histories

-- a worker's step is put on its own history, and leaves that of each other one
pub own_step : (v w : ℕ) (es h : List Event) → AllByRecursion (IsBy w) es → own v (onto es h) ≡ cond (v == w) (onto es (own v h)) (own v h)
own_step v w es h by = at (v == w) refl
  where
    same : (x : ℕ) → x ≡ w → own x (onto es h) ≡ onto es (own x h)
    same x is = ap (λ (z : ℕ). own z (onto es h)) is ∙ own_onto w es h by ∙ ap (λ (z : ℕ). onto es (own z h)) (sym is)

    at : (b : Bool) → (v == w) ≡ b → own v (onto es h) ≡ cond b (onto es (own v h)) (own v h)
    at true e = same v (eq_of v w e)
    at false e = own_other v w es h e by

module _ (setup : Setup) (is : IsSetup setup) (w : ℕ) (incoming : Incoming) (h : List Event) (world : World) (g : Good setup h world) where
  pub own_handled : (v : ℕ) → own v (onto (handled_events setup w incoming world) h) ≡ cond (v == w) (onto (handled_events setup w incoming world) (own v h)) (own v h)
  own_handled v = own_step v w (handled_events setup w incoming world) h (step_by setup is w incoming h world g)

  -- what opens a step, the owner's part, and the rest, one after the other
  pub handled_onto : (l : List Event) → onto (handled_events setup w incoming world) l ≡ onto (behind setup w incoming world) (onto (part w incoming world) (onto (before setup w incoming world) l))
  handled_onto l = onto_append (before setup w incoming world ++ part w incoming world) (behind setup w incoming world) l
      ∙ ap (λ (k : List Event). onto (behind setup w incoming world) k) (onto_append (before setup w incoming world) (part w incoming world) l)

-- ---- what is pending

-- a step with which something comes from outside takes nothing
pub input_untaken : (setup : Setup) (is : IsSetup setup) (w : ℕ) (incoming : Incoming) (h : List Event) (world : World) → Good setup h world → IsInput w h incoming → AllByRecursion IsUntaken (handled_events setup w incoming world)
input_untaken setup is w (TakesPacket from p) h world g i = absurd i
input_untaken setup is w (ClockReads t) h world g i = (tt, rest_untaken setup is w (ClockReads t) h world g)
input_untaken setup is w Reaps h world g i = rest_untaken setup is w Reaps h world g
input_untaken setup is w (Posts c body) h world g i = (tt, rest_untaken setup is w (Posts c body) h world g)
input_untaken setup is w (Subscribes k list start) h world g i = (tt, rest_untaken setup is w (Subscribes k list start) h world g)
input_untaken setup is w (Removes c) h world g i = (tt, rest_untaken setup is w (Removes c) h world g)
input_untaken setup is w (Informs c) h world g i = (tt, rest_untaken setup is w (Informs c) h world g)

pub input_pending : (setup : Setup) (is : IsSetup setup) (w : ℕ) (incoming : Incoming) (h : List Event) (world : World) → Good setup h world → IsInput w h incoming → (v y : ℕ)
    → pending v y (onto (handled_events setup w incoming world) h) ≡ pending v y h ++ cond (v == w) (sent_to y (handled_events setup w incoming world)) []
input_pending setup is w incoming h world g i v y = pending_after w v y (handled_events setup w incoming world) h (step_by setup is w incoming h world g) (input_untaken setup is w incoming h world g i)

-- a step in which a packet is taken: the world is told as it is once the packet is out of the ring
pub taken_pending : (setup : Setup) (is : IsSetup setup) (w from : ℕ) (p : Packet) (h : List Event) (world : World) → Good setup (Took w from p.number (kind_of p.line) ∷ h) world → (v y : ℕ)
    → pending v y (onto (handled_events setup w (TakesPacket from p) world) h) ≡ cond ((v == from) && (y == w)) (drop 1 (pending v y h)) (pending v y h) ++ cond (v == w) (sent_to y (handled_events setup w (TakesPacket from p) world)) []
taken_pending setup is w from p h world g v y =
    let took = Took w from p.number (kind_of p.line) in
    pending_after w v y (rest setup w (TakesPacket from p) world) (took ∷ h) (rest_by setup is w (TakesPacket from p) (took ∷ h) world g) (rest_untaken setup is w (TakesPacket from p) (took ∷ h) world g)

flipped : (a b : ℕ) → (a == b) ≡ (b == a)
flipped a b = grind (arith, nat_tests)

made_none : (b : Bool) (w : ℕ) (e : Event) (l : List Event) → made_to w (e ∷ l) ≡ made_to w l → made_to w (cond b (e ∷ l) l) ≡ made_to w l
made_none true w e l same = same
made_none false w e l same = refl

-- the alerts that a worker made for another are told by its own history
pub made_sent : (v w : ℕ) (h : List Event) → made_to w (own v h) ≡ sent_lines v w h
made_sent v w [] = refl
made_sent v w (Made x to n a ∷ h) = by (v == x) (w == to) (flipped to w) (made_sent v w h)
  where
    by : (b d : Bool) → (to == w) ≡ d → made_to w (own v h) ≡ sent_lines v w h → made_to w (cond b (Made x to n a ∷ own v h) (own v h)) ≡ cond (b && d) (sent_lines v w h ++ a ∷ []) (sent_lines v w h)
    by true d e same = (λ i. cond (e i) (same i ++ a ∷ []) (same i))
    by false d e same = same
made_sent v w (e ∷ h) = made_none (is_by v e) w e (own v h) refl ∙ made_sent v w h

-- ---- stages of subscribers

-- an event that tells nothing of the stage of a subscriber
abbrev pub IsStageless : Event → Type 0
IsStageless (Subscribed w k conn list mode start timeout close) = ⊥
IsStageless (Started w k cur) = ⊥
IsStageless (Sent w k i c id cur looks) = ⊥
IsStageless (Ended w k cause) = ⊥
IsStageless _ = Unit {0}

pub one_stage : (k : ℕ) (e : Event) (h : List Event) → IsStageless e → stage_of k (e ∷ h) ≡ stage_of k h
one_stage k (Subscribed w n conn list mode start timeout close) h p = absurd p
one_stage k (Started w n cur) h p = absurd p
one_stage k (Sent w n i c id cur looks) h p = absurd p
one_stage k (Ended w n cause) h p = absurd p
one_stage k e h p = refl

pub same_stage : (k : ℕ) (es h : List Event) → AllByRecursion IsStageless es → stage_of k (onto es h) ≡ stage_of k h
same_stage k [] h p = refl
same_stage k (e ∷ es) h p = same_stage k es (e ∷ h) p.1 ∙ one_stage k e h p.0

stageless_owner : (w : ℕ) (e : Event) → IsOfOwner w e → IsStageless e
stageless_owner w (Subscribed v k conn list mode start timeout close) p = absurd p
stageless_owner w (Started v k cur) p = absurd p
stageless_owner w (Sent v k i c id cur looks) p = absurd p
stageless_owner w (Ended v k cause) p = absurd p
stageless_owner w e p = tt

stageless_made : (w to n : ℕ) (a : AlertLine) → IsStageless (Made w to n a)
stageless_made w to n a = tt

-- an owner's part leaves them
pub part_stage : (setup : Setup) (is : IsSetup setup) (w : ℕ) (incoming : Incoming) (h : List Event) (world : World) → Good setup h world → (k : ℕ) (l : List Event) → stage_of k (onto (part w incoming world) l) ≡ stage_of k l
part_stage setup is w incoming h world g k l = same_stage k (part w incoming world) l (part_all setup is w incoming h world g IsStageless (stageless_owner w) (stageless_made w))
