-- A worker's events and the queues: what it makes is put behind what is pending from it, and what it takes is the first of a queue.
use Rattle.std.proofs.Common.{◌≡◌, ℕ, Bool, true, false, cond, List, [], ◌∷◌, ◌++◌, refl, sym, ap, ◌∙◌, append_assoc}
use Rattle.std.proofs.lemmas.List.{append-nil}
use Rattle.std.specs.Prelude.{◌==◌, ◌&&◌}
use Rattle.std.specs.List.{AllByRecursion}
use Rattle.nc_journal.specs.History.{onto}
use Rattle.nc_journal.specs.declared.event.Event.{Event}
use Rattle.nc_journal.specs.declared.event.Event.TheVariants.{Made, Took}
use Rattle.nc_history.specs.Packets.{Packet, packet, pending, took_count}
use Rattle.nc_worker_state.specs.Worker.{sent_to}
use Rattle.nc_world_laws.proofs.WorkerKinds.{IsBy, IsUntaken}
use Rattle.nc_world_laws.proofs.Local.{differs, eq_of}

sent_case : (b1 b2 : Bool) (P S : List Packet) (p : Packet) → b1 ≡ true → cond (b1 && b2) (P ++ p ∷ []) P ++ S ≡ P ++ cond b2 (p ∷ S) S
sent_case true true P S p e = append_assoc P (p ∷ []) S
sent_case true false P S p e = refl
sent_case false b2 P S p e = absurd cc

pub other_case : {X : Type 0} (b1 b2 : Bool) (x y : X) → b1 ≡ false → cond (b1 && b2) x y ≡ y
other_case true b2 x y e = absurd cc
other_case false b2 x y e = refl

-- where nothing is taken, what a worker makes for another is put behind what is pending there
pub pending_sent : (w y : ℕ) (es h : List Event) → AllByRecursion (IsBy w) es → AllByRecursion IsUntaken es → pending w y (onto es h) ≡ pending w y h ++ sent_to y es
pending_sent w y [] h by un = sym (append-nil (pending w y h))
pending_sent w y (Made v x n a ∷ es) h by un = pending_sent w y es (Made v x n a ∷ h) by.1 un.1 ∙ sent_case (w == v) (y == x) (pending w y h) (sent_to y es) (packet n a) by.0
pending_sent w y (Took v x n kind ∷ es) h by un = absurd un.0
pending_sent w y (e ∷ es) h by un = pending_sent w y es (e ∷ h) by.1 un.1

-- and what others made stays
pub pending_other : (v w y : ℕ) (es h : List Event) → (v == w) ≡ false → AllByRecursion (IsBy w) es → AllByRecursion IsUntaken es → pending v y (onto es h) ≡ pending v y h
pending_other v w y [] h d by un = refl
pending_other v w y (Made x z n a ∷ es) h d by un = pending_other v w y es (Made x z n a ∷ h) d by.1 un.1 ∙ other_case (v == x) (y == z) (pending v y h ++ packet n a ∷ []) (pending v y h) (differs v w x d by.0)
pending_other v w y (Took x z n kind ∷ es) h d by un = absurd un.0
pending_other v w y (e ∷ es) h d by un = pending_other v w y es (e ∷ h) d by.1 un.1

-- both in one: what is pending of any pair, once a worker did something and took nothing
pub pending_after : (w v y : ℕ) (es h : List Event) → AllByRecursion (IsBy w) es → AllByRecursion IsUntaken es → pending v y (onto es h) ≡ pending v y h ++ cond (v == w) (sent_to y es) []
pending_after w v y es h by un = at (v == w) refl
  where
    at : (b : Bool) → (v == w) ≡ b → pending v y (onto es h) ≡ pending v y h ++ cond b (sent_to y es) []
    at true e = here v (eq_of v w e)
      where
        here : (x : ℕ) → x ≡ w → pending x y (onto es h) ≡ pending x y h ++ sent_to y es
        here x is = ap (λ (z : ℕ). pending z y (onto es h)) is ∙ pending_sent w y es h by un ∙ ap (λ (z : ℕ). pending z y h ++ sent_to y es) (sym is)
    at false e = pending_other v w y es h e by un ∙ sym (append-nil (pending v y h))

-- where nothing is taken, the same packets were taken
pub took_same : (v w : ℕ) (es h : List Event) → AllByRecursion IsUntaken es → took_count v w (onto es h) ≡ took_count v w h
took_same v w [] h un = refl
took_same v w (Took x y n kind ∷ es) h un = absurd un.0
took_same v w (e ∷ es) h un = took_same v w es (e ∷ h) un.1
