-- The packets that are pending, counted.
use Rattle.std.proofs.Common.{◌≡◌, ◌≢◌, ℕ, suc, ◌+◌, Bool, true, false, cond, List, [], ◌∷◌, ◌++◌, length, refl, sym, ap, ◌∙◌, arith, length-append, append_assoc}
use Rattle.std.specs.Prelude.{◌==◌, nat_lt}
use Rattle.std.proofs.lemmas.Bool.Decides.{nat_tests}
use Rattle.nc_history.specs.Packets.{Packet}
use Rattle.nc_worker_state.specs.Worker.{WorkerAt, with_at}
use Rattle.nc_world.specs.World.{World, with_seat, sum_below, pending_in, waiting_packets}
use Rattle.nc_world.specs.Moves.{carried_one, with_ring, ring_size}
use Rattle.nc_world_views.specs.Seen.{waiting_count}
use Rattle.nc_world_views.specs.Laws.{SeatCounts, RingCounts, CarriedCounts}
use Rattle.nc_world_views.proofs.Sums.{sum_same, sum_but, sum_plus}

-- the packets of a sender: those in its rings and those that wait with it
abbrev sender : ℕ → World → ℕ → ℕ
sender n world v = sum_below (λ w. length (waiting_packets world v w)) n

abbrev ringing : ℕ → World → ℕ → ℕ
ringing n world v = sum_below (λ w. length (world.rings v w)) n

in_parts : (n : ℕ) (world : World) (v : ℕ) → sender n world v ≡ ringing n world v + waiting_count n (world.workers v)
in_parts n world v = sum_same (λ w. length (waiting_packets world v w)) (λ w. length (world.rings v w) + length ((world.workers v).outbox w)) n (λ w. length-append (world.rings v w) ((world.workers v).outbox w))
    ∙ sum_plus (λ w. length (world.rings v w)) (λ w. length ((world.workers v).outbox w)) n

apart : (v w : ℕ) → v ≢ w → (v == w) ≡ false
apart v w ne = grind (arith, nat_tests)

at_self : (w : ℕ) → (w == w) ≡ true
at_self w = grind (arith, nat_tests)

pub seat_counts : SeatCounts
seat_counts setup w s world lt =
    let n = setup.workers in
    let new = with_seat w s world in
    let other : (v : ℕ) → v ≢ w → sender n new v ≡ sender n world v = λ v ne. ap (λ b. sum_below (λ x. length (world.rings v x ++ (cond b s.worker (world.workers v)).outbox x)) n) (apart v w ne) in
    let here : sender n new w ≡ ringing n world w + waiting_count n s.worker = ap (λ b. sum_below (λ x. length (world.rings w x ++ (cond b s.worker (world.workers w)).outbox x)) n) (at_self w)
    ∙ in_parts n (record world { workers = λ x. s.worker }) w in
    swap (pending_in setup new) (pending_in setup world) (sender n new w) (sender n world w) (ringing n world w) (waiting_count n s.worker) (waiting_count n (world.workers w))
    (sum_but (sender n new) (sender n world) n w lt other) here (in_parts n world w)
  where
    swap : (a b x y r p q : ℕ) → a + y ≡ b + x → x ≡ r + p → y ≡ r + q → a + q ≡ b + p
    swap a b x y r p q e f g = omega (arith, e, f, g)

pub ring_counts : RingCounts
ring_counts setup v w p ps world lv lw is =
    let n = setup.workers in
    let new = with_ring v w ps world in
    let other : (x : ℕ) → x ≢ v → sender n new x ≡ sender n world x = λ x ne. ap (λ b. sum_below (λ y. length (cond b (with_at (world.rings v) w ps) (world.rings x) y ++ (world.workers x).outbox y)) n) (apart x v ne) in
    let row : sender n new v ≡ sum_below (λ y. length (with_at (world.rings v) w ps y ++ (world.workers v).outbox y)) n = ap (λ b. sum_below (λ y. length (cond b (with_at (world.rings v) w ps) (world.rings v) y ++ (world.workers v).outbox y)) n) (at_self v) in
    let apart_in : (y : ℕ) → y ≢ w → length (with_at (world.rings v) w ps y ++ (world.workers v).outbox y) ≡ length (waiting_packets world v y) = λ y ne. ap (λ b. length (cond b ps (world.rings v y) ++ (world.workers v).outbox y)) (apart y w ne) in
    let here : length (with_at (world.rings v) w ps w ++ (world.workers v).outbox w) + 1 ≡ length (waiting_packets world v w) =
    ap (λ (k : ℕ). k + 1) (ap (λ b. length (cond b ps (world.rings v w) ++ (world.workers v).outbox w)) (at_self w)) ∙ one (length (ps ++ (world.workers v).outbox w))
    ∙ ap (λ (l : List Packet). length (l ++ (world.workers v).outbox w)) (sym is) in
    swap (pending_in setup new) (pending_in setup world) (sender n new v) (sender n world v)
    (sum_below (λ y. length (with_at (world.rings v) w ps y ++ (world.workers v).outbox y)) n) (length (with_at (world.rings v) w ps w ++ (world.workers v).outbox w)) (length (waiting_packets world v w))
    (sum_but (sender n new) (sender n world) n v lv other) row
    (sum_but (λ y. length (with_at (world.rings v) w ps y ++ (world.workers v).outbox y)) (λ y. length (waiting_packets world v y)) n w lw apart_in) here
  where
    one : (a : ℕ) → a + 1 ≡ suc a
    one a = omega arith

    swap : (a b x y z k l : ℕ) → a + y ≡ b + x → x ≡ z → z + l ≡ y + k → k + 1 ≡ l → a + 1 ≡ b
    swap a b x y z k l e f g h = omega (arith, e, f, g, h)

-- a packet that goes from an outbox into the ring still waits at its place
carried_waits : (w v : ℕ) (p : Packet) (ps : List Packet) (world : World) → (world.workers w).outbox v ≡ p ∷ ps → (x y : ℕ) → waiting_packets (carried_one w v p ps world) x y ≡ waiting_packets world x y
carried_waits w v p ps world is x y = by (x == w) refl (y == v) refl
  where
    eq_of : (a b : ℕ) → (a == b) ≡ true → a ≡ b
    eq_of a b e = grind (arith, nat_tests)

    new : WorkerAt
    new = record (world.workers w) { outbox = with_at (world.workers w).outbox v ps }

    at : Bool → List Packet
    at c = cond c (world.rings w v ++ p ∷ []) (world.rings w y) ++ cond c ps ((world.workers w).outbox y)

    behind : at true ≡ world.rings w v ++ (world.workers w).outbox v
    behind = append_assoc (world.rings w v) (p ∷ []) ps ∙ ap (λ (l : List Packet). world.rings w v ++ l) (sym is)

    by : (b : Bool) → (x == w) ≡ b → (c : Bool) → (y == v) ≡ c
        → cond b (with_at (world.rings w) v (world.rings w v ++ p ∷ [])) (world.rings x) y ++ (cond b new (world.workers x)).outbox y ≡ world.rings x y ++ (world.workers x).outbox y
    by true e true f = ap at f ∙ behind ∙ (λ i. world.rings (sym (eq_of x w e) i) (sym (eq_of y v f) i) ++ (world.workers (sym (eq_of x w e) i)).outbox (sym (eq_of y v f) i))
    by true e false f = ap at f ∙ (λ i. world.rings (sym (eq_of x w e) i) y ++ (world.workers (sym (eq_of x w e) i)).outbox y)
    by false e c f = refl

pub carried_counts : CarriedCounts
carried_counts setup w v [] world is = refl
carried_counts setup w v (p ∷ ps) world is = by (nat_lt (length (world.rings w v)) ring_size)
  where
    by : (b : Bool) → pending_in setup (cond b (carried_one w v p ps world) world) ≡ pending_in setup world
    by true = sum_same (sender setup.workers (carried_one w v p ps world)) (sender setup.workers world) setup.workers
        (λ x. sum_same (λ y. length (waiting_packets (carried_one w v p ps world) x y)) (λ y. length (waiting_packets world x y)) setup.workers (λ y. ap (λ (l : List Packet). length l) (carried_waits w v p ps world is x y)))
    by false = refl
