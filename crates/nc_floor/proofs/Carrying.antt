-- A carry on the floor.
use Rattle.std.proofs.Common.{◌≡◌, ◌≢◌, ℕ, ◌<◌, Bool, true, false, cond, List, [], ◌∷◌, ◌++◌, length, map, drop, refl, sym, ap, ◌∙◌, subst, arith, get_or}
use Rattle.std.specs.Prelude.{◌==◌}
use Rattle.std.specs.Vec.{with_item}
use Rattle.std.specs.List.{AllByRecursion}
use Rattle.std.proofs.Math.Path.{fun_ext}
use Rattle.std.proofs.lemmas.List.{append-nil, length-map, length-set, map-set, map-append}
use Rattle.nc_slots.specs.declared.plain.PlainHold.{PlainHold}
use Rattle.nc_slots.specs.Slots.{HoldAt}
use Rattle.nc_alert.specs.declared.packet.Packet.{Packet}
use Rattle.nc_history.specs.Packets.{Packet as Told}
use Rattle.nc_rings.specs.Ring.{row_of, ring_in, ring_of}
use Rattle.nc_worker_state.specs.Incoming.{told_packet}
use Rattle.nc_worker_state.specs.Worker.{WorkerAt, with_at, new_worker}
use Rattle.nc_world.specs.World.{World, pending_in}
use Rattle.nc_world.specs.Moves.{Carries, carried_one, carried, ring_size}
use Rattle.nc_world_laws.proofs.Moving.{move_good}
use Rattle.nc_world_views.proofs.Counting.{carried_counts}
use Rattle.nc_floor.specs.declared.floor.Floor.{Floor}
use Rattle.nc_floor.specs.Hand.{me_of, IsBetween}
use Rattle.nc_floor.specs.Floor.{setup_in, world_of, IsStaffed, IsFloor, HasMoved}
use Rattle.nc_floor.proofs.Sharing.{below_is}
use Rattle.nc_floor.proofs.Acting.{all_set, set_shows}
use Rattle.nc_floor.proofs.OnFloor.{eq_of, ne_of, me_is, still_floor, worker_is}

all_behind : {X : Type 0} (P : X → Type 0) (xs : List X) (x : X) → AllByRecursion P xs → P x → AllByRecursion P (xs ++ x ∷ [])
all_behind P [] x a p = (p, tt)
all_behind P (y ∷ xs) x a p = (a.0, all_behind P xs x a.1 p)

-- one ring is another
module _ (rings new : List (List (List (Packet PlainHold)))) (w to : ℕ) (receivers : (x : ℕ) → x ≢ to → ring_of new w x ≡ ring_of rings w x) (senders : (v : ℕ) → v ≢ w → row_of new v ≡ row_of rings v) where
  abbrev seen : List (List (List (Packet PlainHold))) → ℕ → ℕ → List Told
  seen r v x = map told_packet (ring_of r v x)

  ring_at : (there : List Told) → seen new w to ≡ there → (v x : ℕ) → seen new v x ≡ with_at (seen rings) w (with_at (seen rings w) to there) v x
  ring_at there is v x = by (v == w) refl (x == to) refl
    where
      by : (b : Bool) → (v == w) ≡ b → (c : Bool) → (x == to) ≡ c → seen new v x ≡ cond b (λ y. cond (y == to) there (seen rings w y)) (seen rings v) x
      by true e true f = (λ j. seen new (eq_of v w e j) (eq_of x to f j)) ∙ is ∙ sym (ap (λ c. cond c there (seen rings w x)) f)
      by true e false f = ap (λ (y : ℕ). seen new y x) (eq_of v w e) ∙ ap (map told_packet) (receivers x (ne_of x to f)) ∙ sym (ap (λ c. cond c there (seen rings w x)) f)
      by false e c f = ap (λ row. map told_packet (ring_in row x)) (senders v (ne_of v w e))

  pub ring_shows : (there : List Told) → seen new w to ≡ there → seen new ≡ with_at (seen rings) w (with_at (seen rings w) to there)
  ring_shows there is = λ j v x. ring_at there is v x j

  -- what holds of each packet of each ring
  pub rings_all : (P : ℕ → ℕ → Packet PlainHold → Type 0) → ((v x : ℕ) → AllByRecursion (P v x) (ring_of rings v x)) → AllByRecursion (P w to) (ring_of new w to) → (v x : ℕ) → AllByRecursion (P v x) (ring_of new v x)
  rings_all P all there v x = by (v == w) refl (x == to) refl
    where
      by : (b : Bool) → (v == w) ≡ b → (c : Bool) → (x == to) ≡ c → AllByRecursion (P v x) (ring_of new v x)
      by true e true f = subst (λ (y : ℕ). AllByRecursion (P y x) (ring_of new y x)) (sym (eq_of v w e)) (subst (λ (y : ℕ). AllByRecursion (P w y) (ring_of new w y)) (sym (eq_of x to f)) there)
      by true e false f = subst (λ (y : ℕ). AllByRecursion (P y x) (ring_of new y x)) (sym (eq_of v w e)) (subst (AllByRecursion (P w x)) (sym (receivers x (ne_of x to f))) (all w x))
      by false e c f = subst (λ row. AllByRecursion (P v x) (ring_in row x)) (sym (senders v (ne_of v w e))) (all v x)

module _ {W : Type 0} (worker : W → WorkerAt) (sound : W → Type 0) (held : PlainHold → HoldAt) (s : Floor W) (f : IsFloor worker sound held s) (w to i : ℕ) (e : i ≡ w) (lt : w < s.conf.workers) (receiver : to < s.conf.workers)
    (old new : W) (at : old ≡ get_or s.hands.items i old) (packet : Packet PlainHold) (first : (worker old).outbox to ≡ told_packet packet ∷ drop 1 ((worker old).outbox to))
    (between : IsBetween held (me_of (worker old)) to packet) (rest : worker new ≡ record (worker old) { outbox = with_at (worker old).outbox to (drop 1 ((worker old).outbox to)) }) (fit : sound new)
    (rings : List (List (List (Packet PlainHold)))) (room : length (ring_of s.rings w to) < 256) (pushed : ring_of rings w to ≡ ring_of s.rings w to ++ packet ∷ [])
    (receivers : (x : ℕ) → x ≢ to → ring_of rings w x ≡ ring_of s.rings w x) (senders : (v : ℕ) → v ≢ w → row_of rings v ≡ row_of s.rings v) where
  abbrev world : World
  world = world_of worker s

  abbrev after : Floor W
  after = record s { hands = with_item s.hands i new; rings = rings }

  abbrev behind : List Told
  behind = drop 1 ((worker old).outbox to)

  here : world.workers w ≡ worker old
  here = worker_is worker sound held s f w i old e lt at

  outbox_is : (world.workers w).outbox to ≡ told_packet packet ∷ behind
  outbox_is = ap (λ (x : WorkerAt). x.outbox to) here ∙ first

  worker_after : worker new ≡ record (world.workers w) { outbox = with_at (world.workers w).outbox to behind }
  worker_after = rest ∙ ap (λ (x : WorkerAt). record x { outbox = with_at x.outbox to behind }) (sym here)

  within : i < length (map worker s.hands.items)
  within = subst (λ (k : ℕ). i < k) (sym (length-map s.hands.items worker)) (omega (arith, lt, e, f.staffed.hired))

  ring_now : map told_packet (ring_of rings w to) ≡ world.rings w to ++ told_packet packet ∷ []
  ring_now = ap (map told_packet) pushed ∙ map-append told_packet (ring_of s.rings w to) (packet ∷ [])

  world_is : world_of worker after ≡ carried_one w to (told_packet packet) behind world
  world_is = λ j. record {
    workers = (fun_ext (λ v. ap (λ (l : List WorkerAt). get_or l v (new_worker (setup_in s) v)) (map-set worker s.hands.items i new)
        ∙ set_shows (map worker s.hands.items) i w (worker new) (new_worker (setup_in s)) e within v) ∙ ap (with_at world.workers w) worker_after) j;
    rows = world.rows;
    counts = world.counts;
    rings = ring_shows s.rings rings w to receivers senders (world.rings w to ++ told_packet packet ∷ []) ring_now j;
  }

  carries : carried w to ((world.workers w).outbox to) world ≡ carried_one w to (told_packet packet) behind world
  carries = ap (λ (l : List Told). carried w to l world) outbox_is
      ∙ ap (λ b. cond b (carried_one w to (told_packet packet) behind world) world) (below_is (length (world.rings w to)) ring_size (subst (λ (k : ℕ). k < 256) (sym (length-map (ring_of s.rings w to) told_packet)) room))

  pub moved : HasMoved worker (Carries w to) s after
  moved = λ j. record { setup = setup_in s; world = (world_is ∙ sym carries) j; told = sym (append-nil s.told) j }

  staffed : IsStaffed worker sound held after
  staffed = record {
    setup = f.staffed.setup;
    hired = length-set s.hands.items i new ∙ f.staffed.hired;
    fit = all_set sound s.hands.items i new f.staffed.fit fit;
    between = rings_all s.rings rings w to receivers senders (IsBetween held) f.staffed.between
        (subst (AllByRecursion (IsBetween held w to)) (sym pushed) (all_behind (IsBetween held w to) (ring_of s.rings w to) packet (f.staffed.between w to)
        (subst (λ (m : ℕ). IsBetween held m to packet) (ap me_of (sym here) ∙ me_is worker sound held s f w) between)));
    counted = f.staffed.counted ∙ sym (carried_counts (setup_in s) w to ((world.workers w).outbox to) world refl) ∙ ap (pending_in (setup_in s)) (carries ∙ sym world_is);
  }

  pub floor : IsFloor worker sound held after
  floor = still_floor worker sound held s f (Carries w to) after staffed moved (move_good (setup_in s) f.staffed.setup (Carries w to) f.history world f.good (lt, receiver))
