-- What a worker did, on the floor.
use Rattle.std.proofs.Common.{◌≡◌, ◌≢◌, ℕ, zero, suc, ◌+◌, ◌<◌, ◌≤◌, Bool, true, false, cond, List, [], ◌∷◌, ◌++◌, length, map, refl, sym, ap, ◌∙◌, subst, arith, get_or}
use Rattle.std.specs.Prelude.{◌==◌, replicate, slice_set}
use Rattle.std.specs.Vec.{with_item}
use Rattle.std.specs.List.{AllByRecursion}
use Rattle.std.proofs.Math.Path.{fun_ext}
use Rattle.std.proofs.lemmas.List.{length-map, length-set, map-set, get_or-map, get_or-set_same, get_or-set_other}
use Rattle.std.proofs.lemmas.Bool.Decides.{nat_tests}
use Rattle.nc_journal.specs.declared.event.Event.{Event}
use Rattle.nc_slots.specs.declared.slot.Slot.TheVariants.{Unused}
use Rattle.nc_slots.specs.declared.plain.PlainHold.{PlainHold}
use Rattle.nc_slots.specs.Slots.{HoldAt}
use Rattle.nc_slots.specs.Plain.{RowAt, row_at}
use Rattle.nc_worker_state.specs.Setup.{Setup}
use Rattle.nc_worker_state.specs.Incoming.{Incoming}
use Rattle.nc_worker_state.specs.Worker.{WorkerAt, Seat, IsHandled, with_at, new_worker}
use Rattle.nc_world.specs.World.{World, seat, with_seat, pending_in}
use Rattle.nc_world.specs.Moves.{Handles}
use Rattle.nc_world_views.specs.Seen.{seen_below, waiting_count}
use Rattle.nc_world_views.specs.Laws.{IsStepIn}
use Rattle.nc_world_views.proofs.ToldPolls.{told_is_handled}
use Rattle.nc_world_views.proofs.Seeing.{write_seen}
use Rattle.nc_world_views.proofs.Counting.{seat_counts}
use Rattle.nc_floor.specs.declared.floor.Floor.{Floor}
use Rattle.nc_floor.specs.Hand.{me_of, seat_in}
use Rattle.nc_floor.specs.Floor.{setup_in, world_of, IsStaffed, HasMoved, HandsOver}
use Rattle.nc_floor.proofs.Sharing.{shared, below_is}

pub all_set : {X : Type 0} (P : X → Type 0) (xs : List X) (i : ℕ) (x : X) → AllByRecursion P xs → P x → AllByRecursion P (slice_set xs i x)
all_set P [] i x a p = a
all_set P (y ∷ xs) zero x a p = (p, a.1)
all_set P (y ∷ xs) (suc i) x a p = (a.0, all_set P xs i x a.1 p)

-- the function that a list stands for, once one of its values is another
pub set_shows : {X : Type 0} (xs : List X) (i w : ℕ) (x : X) (new : ℕ → X) → i ≡ w → i < length xs → (v : ℕ) → get_or (slice_set xs i x) v (new v) ≡ with_at (λ v. get_or xs v (new v)) w x v
set_shows xs i w x new e lt v = by (v == w) refl
  where
    by : (b : Bool) → (v == w) ≡ b → get_or (slice_set xs i x) v (new v) ≡ cond b x (get_or xs v (new v))
    by true f = let same : v ≡ i = grind (arith, nat_tests) in ap (λ (k : ℕ). get_or (slice_set xs i x) k (new v)) same ∙ get_or-set_same xs i x (new v) lt
    by false f = let other : v ≢ i = grind (arith, nat_tests) in get_or-set_other xs i v x (new v) other

module _ {W : Type 0} (worker : W → WorkerAt) (sound : W → Type 0) (held : PlainHold → HoldAt) (s : Floor W) (w i : ℕ) (e : i ≡ w) (incoming : Incoming) (old new : W) (slots : List RowAt)
    (events : List Event) (waited waits : ℕ) (st : IsStaffed worker sound held s) (lt : w < s.conf.workers) (me : me_of ((world_of worker s).workers w) ≡ w) (at : old ≡ get_or s.hands.items i old)
    (h : HandsOver worker sound s.conf incoming old new s.slots slots events waited waits) where
  abbrev setup : Setup
  setup = setup_in s

  abbrev world : World
  world = world_of worker s

  abbrev none : ℕ → List ℕ
  none v = replicate s.conf.slots 0

  abbrev counts : List RowAt → ℕ → List ℕ
  counts rows v = (row_at rows v).holds

  abbrev left : Seat
  left = record { worker = worker new; row = (row_at slots w).slots; counts = seen_below s.conf.workers (counts slots) none }

  within : i < length s.hands.items
  within = omega (arith, lt, e, st.hired)

  worker_is : world.workers w ≡ worker old
  worker_is = ap (λ (k : ℕ). get_or (map worker s.hands.items) k (new_worker setup w)) (sym e) ∙ get_or-map worker s.hands.items i old (new_worker setup w) within ∙ ap worker (sym at)

  me_is : me_of (worker old) ≡ w
  me_is = ap me_of (sym worker_is) ∙ me

  handled_by : IsHandled true setup w incoming (seat_in (worker old) w s.slots) events (seat_in (worker new) w slots)
  handled_by = subst (λ (m : ℕ). IsHandled true setup m incoming (seat_in (worker old) m s.slots) events (seat_in (worker new) m slots)) me_is (h.handled s.first)

  seat_is : (let a : Seat = record { worker = worker old; row = (row_at s.slots w).slots; counts = world.counts } in a) ≡ seat w world
  seat_is = λ j. record { worker = sym worker_is j; row = sym (ap (λ c. cond c (row_at s.slots w).slots (replicate s.conf.slots Unused)) (below_is w s.conf.workers lt)) j; counts = world.counts }

  step : IsStepIn setup w incoming world events left
  step = told_is_handled setup w incoming world events left (subst (λ (a : Seat). IsHandled true setup w incoming a events left) seat_is
      (shared setup w incoming (worker old) (row_at s.slots w).slots s.conf.workers s.conf.slots (counts s.slots) (counts slots) lt events (worker new) (row_at slots w).slots handled_by))

  counted : pending_in setup (with_seat w left world) + waited ≡ s.pending + waits
  counted = four (pending_in setup (with_seat w left world)) (waiting_count s.conf.workers (world.workers w)) (pending_in setup world) (waiting_count s.conf.workers (worker new)) waited waits (waiting_count s.conf.workers (worker old)) s.pending (seat_counts setup w left world lt) h.before h.behind (ap (waiting_count s.conf.workers) worker_is) st.counted
    where
      four : (a b c d x y p q : ℕ) → a + b ≡ c + d → x ≡ p → y ≡ d → b ≡ p → q ≡ c → a + x ≡ q + y
      four a b c d x y p q f g k l m = omega (arith, f, g, k, l, m)

  pub enough : waited ≤ s.pending + waits
  enough = omega (arith, counted)

  module _ (count : ℕ) (told : List Event) (recounted : count + waited ≡ s.pending + waits) (tells : told ≡ s.told ++ events) where
    abbrev after : Floor W
    after = record s { hands = with_item s.hands i new; slots = slots; pending = count; told = told }

    world_is : world_of worker after ≡ with_seat w left world
    world_is = λ j. record {
      workers = fun_ext (λ v. ap (λ (l : List WorkerAt). get_or l v (new_worker setup v)) (map-set worker s.hands.items i new)
          ∙ set_shows (map worker s.hands.items) i w (worker new) (new_worker setup) e (subst (λ (k : ℕ). i < k) (sym (length-map s.hands.items worker)) within) v) j;
      rows = write_seen s.conf.workers (λ v. (row_at s.slots v).slots) (λ v. (row_at slots v).slots) (λ v. replicate s.conf.slots Unused) w lt
          (λ o ne. h.others o (λ x. ne (x ∙ me_is))) j;
      counts = seen_below s.conf.workers (counts slots) none;
      rings = world.rings;
    }

    pub moved : HasMoved worker (Handles w incoming) s after
    moved = λ j. record { setup = setup; world = (world_is ∙ step.leaves) j; told = (tells ∙ ap (λ (l : List Event). s.told ++ l) step.happened) j }

    pub staffed : IsStaffed worker sound held after
    staffed = record {
      setup = st.setup;
      hired = length-set s.hands.items i new ∙ st.hired;
      fit = all_set sound s.hands.items i new st.fit h.fit;
      between = st.between;
      counted = less count (pending_in setup (with_seat w left world)) waited (s.pending + waits) recounted counted ∙ ap (pending_in setup) (sym world_is);
    }
      where
        less : (a b x c : ℕ) → a + x ≡ c → b + x ≡ c → a ≡ b
        less a b x c f g = omega (arith, f, g)
