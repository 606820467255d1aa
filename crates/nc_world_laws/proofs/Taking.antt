-- A packet is taken, or carried: the world stays good.
use Rattle.std.proofs.Common.{◌≡◌, ℕ, ◌+◌, Bool, true, false, cond, List, [], ◌∷◌, ◌++◌, refl, sym, ap, ◌∙◌, subst, length, drop, append_assoc}
use Rattle.std.specs.Prelude.{◌==◌, ◌&&◌, nat_lt}
use Rattle.nc_journal.specs.History.{own}
use Rattle.nc_journal.specs.declared.event.Event.{Event}
use Rattle.nc_journal.specs.declared.event.Event.TheVariants.{Took}
use Rattle.nc_owner_laws.specs.OwnChannels.{OwnsChannels}
use Rattle.nc_owner_laws.specs.Reaping.{Keeps}
use Rattle.nc_history.specs.Packets.{Packet, kind_of, pending, took_count, FirstIs, PostedAt}
use Rattle.nc_worker_state.specs.Setup.{Setup}
use Rattle.nc_worker_state.specs.Worker.{WorkerAt, with_at}
use Rattle.nc_world.specs.World.{World}
use Rattle.nc_world.specs.Moves.{ring_size, carried, carried_one, with_ring}
use Rattle.nc_world_laws.specs.Good.{AreLinesTo, NumbersFollow, Good}
use Rattle.nc_world_laws.proofs.Local.{eqb_self, eq_of, either}
use Rattle.nc_world_laws.proofs.Numbers.{Consecutive, posted_in_turn}
use Rattle.nc_world_laws.proofs.Acting.{with_all}
use Rattle.nc_world_laws.proofs.Stepping.{aside_keeps}

drop_first : (p : Packet) (ps out q : List Packet) → q ≡ (p ∷ ps) ++ out → drop 1 q ≡ ps ++ out
drop_first p ps out q e = ap (drop 1) e

lines_rest : (b : Bool) (workers x y : ℕ) (q : List Packet) → AreLinesTo workers x y q → AreLinesTo workers x y (cond b (drop 1 q) q)
lines_rest true workers x y [] l = tt
lines_rest true workers x y (p ∷ ps) l = l.1
lines_rest false workers x y q l = l

-- ---- a packet is taken

module _ (setup : Setup) (w v : ℕ) (p : Packet) (ps : List Packet) (h : List Event) (world : World) (g : Good setup h world) (is : world.rings v w ≡ p ∷ ps) where
  abbrev rings : ℕ → ℕ → List Packet
  rings = with_at world.rings v (with_at (world.rings v) w ps)

  abbrev took : Event
  took = Took w v p.number (kind_of p.line)

  pub first_pending : pending v w h ≡ (p ∷ ps) ++ (world.workers v).outbox w
  first_pending = g.queues v w ∙ ap (λ (l : List Packet). l ++ (world.workers v).outbox w) is

  took_queues : (x y : ℕ) → cond ((x == v) && (y == w)) (drop 1 (pending x y h)) (pending x y h) ≡ rings x y ++ (world.workers x).outbox y
  took_queues x y = by (x == v) (y == w) refl refl
    where
      by : (b c : Bool) → (x == v) ≡ b → (y == w) ≡ c → cond (b && c) (drop 1 (pending x y h)) (pending x y h) ≡ cond b (λ z. cond (z == w) ps (world.rings v z)) (world.rings x) y ++ (world.workers x).outbox y
      by true true e k = subst (λ (z : ℕ × ℕ). drop 1 (pending z.0 z.1 h) ≡ cond (z.1 == w) ps (world.rings v z.1) ++ (world.workers z.0).outbox z.1) (λ i. (sym (eq_of x v e) i, sym (eq_of y w k) i))
          (drop_first p ps ((world.workers v).outbox w) (pending v w h) first_pending ∙ ap (λ b. cond b ps (world.rings v w) ++ (world.workers v).outbox w) (sym (eqb_self w)))
      by true false e k = subst (λ z. pending z y h ≡ cond (y == w) ps (world.rings v y) ++ (world.workers z).outbox y) (sym (eq_of x v e))
          (g.queues v y ∙ ap (λ b. cond b ps (world.rings v y) ++ (world.workers v).outbox y) (sym k))
      by false c e k = g.queues x y

  took_keeps : (x : ℕ) → Keeps x setup.workers setup.slots setup.first (world.rows x) (cond (x == w) (took ∷ own x h) (own x h)) (world.workers x).owner
  took_keeps x = by (x == w) refl
    where
      by : (b : Bool) → (x == w) ≡ b → Keeps x setup.workers setup.slots setup.first (world.rows x) (cond b (took ∷ own x h) (own x h)) (world.workers x).owner
      by true e = aside_keeps setup x (world.rows x) (own x h) (world.workers x).owner took tt e (g.keeps x)
      by false e = g.keeps x

  took_posted : PostedAt setup.first h took
  took_posted =
      let turn = posted_in_turn setup.first h g.posted v w in
      let c = subst (Consecutive (setup.first + took_count v w h)) first_pending turn.numbers in
      (c.0, subst (λ (q : List Packet). FirstIs q p.number (kind_of p.line)) (sym first_pending) (refl, refl))

  -- before the worker does anything with it
  pub took_good : Good setup (took ∷ h) (with_ring v w ps world)
  took_good = record {
    queues = took_queues;
    posted = (g.posted, took_posted);
    follow = g.follow;
    lines = λ x y. lines_rest ((x == v) && (y == w)) setup.workers x y (pending x y h) (g.lines x y);
    keeps = took_keeps;
    owns = g.owns;
    holds = g.holds;
    knows = g.knows;
  }

-- ---- a packet is carried

pub carried_good : (setup : Setup) (w v : ℕ) (outbox : List Packet) (h : List Event) (world : World) → (world.workers w).outbox v ≡ outbox → Good setup h world → Good setup h (carried w v outbox world)
carried_good setup w v [] h world is g = g
carried_good setup w v (p ∷ ps) h world is g = either (Good setup h) (nat_lt (length (world.rings w v)) ring_size) (carried_one w v p ps world) world (record { queues = λ x y. queues x y (x == w) (y == v) refl refl; posted = g.posted; follow = follow; lines = g.lines; keeps = keeps; owns = owns; holds = g.holds; knows = knows }) g
  where
    queues : (x y : ℕ) (b c : Bool) → (x == w) ≡ b → (y == v) ≡ c → pending x y h ≡ (cond b (λ z. cond (z == v) (world.rings w v ++ p ∷ []) (world.rings w z)) (world.rings x)) y ++ (cond b (record (world.workers w) { outbox = with_at (world.workers w).outbox v ps }) (world.workers x)).outbox y
    queues x y true true e k = subst (λ (z : ℕ × ℕ). pending z.0 z.1 h ≡ cond (z.1 == v) (world.rings w v ++ p ∷ []) (world.rings w z.1) ++ cond (z.1 == v) ps ((world.workers w).outbox z.1)) (λ i. (sym (eq_of x w e) i, sym (eq_of y v k) i))
        (g.queues w v ∙ ap (λ (l : List Packet). world.rings w v ++ l) is ∙ sym (append_assoc (world.rings w v) (p ∷ []) ps) ∙ ap (λ b. cond b (world.rings w v ++ p ∷ []) (world.rings w v) ++ cond b ps ((world.workers w).outbox v)) (sym (eqb_self v)))
    queues x y true false e k = subst (λ (z : ℕ). pending z y h ≡ cond (y == v) (world.rings w v ++ p ∷ []) (world.rings w y) ++ cond (y == v) ps ((world.workers w).outbox y)) (sym (eq_of x w e))
        (g.queues w y ∙ ap (λ b. cond b (world.rings w v ++ p ∷ []) (world.rings w y) ++ cond b ps ((world.workers w).outbox y)) (sym k))
    queues x y false c e k = g.queues x y

    follow : (x : ℕ) → NumbersFollow setup.first x (with_at world.workers w (record (world.workers w) { outbox = with_at (world.workers w).outbox v ps }) x).next h
    follow = with_all (λ x (s : WorkerAt). NumbersFollow setup.first x s.next h) world.workers w (record (world.workers w) { outbox = with_at (world.workers w).outbox v ps }) (g.follow w) (λ x e. g.follow x)

    knows : (x : ℕ) → (with_at world.workers w (record (world.workers w) { outbox = with_at (world.workers w).outbox v ps }) x).desk.spools.workers ≡ setup.workers
    knows = with_all (λ x (s : WorkerAt). s.desk.spools.workers ≡ setup.workers) world.workers w (record (world.workers w) { outbox = with_at (world.workers w).outbox v ps }) (g.knows w) (λ x e. g.knows x)

    keeps : (x : ℕ) → Keeps x setup.workers setup.slots setup.first (world.rows x) (own x h) (with_at world.workers w (record (world.workers w) { outbox = with_at (world.workers w).outbox v ps }) x).owner
    keeps = with_all (λ x (s : WorkerAt). Keeps x setup.workers setup.slots setup.first (world.rows x) (own x h) s.owner) world.workers w (record (world.workers w) { outbox = with_at (world.workers w).outbox v ps }) (g.keeps w) (λ x e. g.keeps x)

    owns : (x : ℕ) → OwnsChannels setup.workers x (with_at world.workers w (record (world.workers w) { outbox = with_at (world.workers w).outbox v ps }) x).owner
    owns = with_all (λ x (s : WorkerAt). OwnsChannels setup.workers x s.owner) world.workers w (record (world.workers w) { outbox = with_at (world.workers w).outbox v ps }) (g.owns w) (λ x e. g.owns x)
