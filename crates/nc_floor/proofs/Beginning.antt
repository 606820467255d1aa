-- A new floor is a new world.
use Rattle.std.proofs.Common.{◌≡◌, ◌⊎◌, inl, inr, ℕ, zero, suc, ◌+◌, ◌<◌, ◌≤◌, Bool, true, false, cond, List, [], length, map, refl, sym, ap, ◌∙◌, subst, arith, get_or}
use Rattle.std.specs.Prelude.{nat_lt, replicate}
use Rattle.std.specs.List.{AllByRecursion}
use Rattle.std.proofs.Math.Path.{fun_ext}
use Rattle.std.proofs.Math.ListN.{get_or-map, get_or-eq_default}
use Rattle.std.proofs.lemmas.List.{length-map, get_or-replicate, get_or_default}
use Rattle.std.proofs.lemmas.Bool.Decides.{nat_tests}
use Rattle.nc_slots.specs.declared.plain.PlainHold.{PlainHold}
use Rattle.nc_slots.specs.Slots.{HoldAt}
use Rattle.nc_slots.specs.Plain.{RowAt, new_row, row_at}
use Rattle.nc_alert.specs.declared.packet.Packet.{Packet}
use Rattle.nc_rings.specs.Ring.{ring_of}
use Rattle.nc_worker_state.specs.Incoming.{told_packet}
use Rattle.nc_worker_state.specs.Worker.{WorkerAt, new_worker}
use Rattle.nc_world.specs.World.{World, new_world, sum_below, pending_in}
use Rattle.nc_world.specs.Lines.{below}
use Rattle.nc_world.specs.Reached.{IsSetup}
use Rattle.nc_world_laws.specs.Good.{Good}
use Rattle.nc_world_laws.proofs.Moving.{new_good}
use Rattle.nc_world_views.proofs.Sums.{sum_same}
use Rattle.nc_turns.proofs.Numbers.{length_below, at_below}
use Rattle.nc_floor.specs.declared.floor.Floor.{Floor}
use Rattle.nc_floor.specs.Hand.{IsBetween}
use Rattle.nc_floor.specs.Floor.{setup_in, world_of, telling_of, IsFloor}

-- a number is itself among those below one, and beyond them
number_is : (n i : ℕ) → get_or (below n) i i ≡ i
number_is n i = by (side i n)
  where
    side : (a b : ℕ) → (a < b) ⊎ (b ≤ a)
    side a b = grind arith

    by : (i < n) ⊎ (n ≤ i) → get_or (below n) i i ≡ i
    by (inl lt) = get_or_default (below n) i i 0 (subst (λ (k : ℕ). i < k) (sym (length_below n)) lt) ∙ at_below n i lt
    by (inr le) = get_or-eq_default (below n) i (subst (λ (k : ℕ). k ≤ i) (sym (length_below n)) le)

sum_none : (n : ℕ) → sum_below (λ v. 0) n ≡ 0
sum_none zero = refl
sum_none (suc n) = ap (λ (k : ℕ). k + 0) (sum_none n)

module _ {W : Type 0} (worker : W → WorkerAt) (s : Floor W) (hired : map worker s.hands.items ≡ map (new_worker (setup_in s)) (below s.conf.workers)) (slots : s.slots ≡ replicate s.conf.workers (new_row s.conf.slots)) (rings : s.rings ≡ []) where
  worker_at : (w : ℕ) → (world_of worker s).workers w ≡ new_worker (setup_in s) w
  worker_at w = ap (λ (l : List WorkerAt). get_or l w (new_worker (setup_in s) w)) hired ∙ get_or-map (new_worker (setup_in s)) (below s.conf.workers) w w ∙ ap (new_worker (setup_in s)) (number_is s.conf.workers w)

  row_is : (w : ℕ) → nat_lt w s.conf.workers ≡ true → row_at s.slots w ≡ new_row s.conf.slots
  row_is w e = ap (λ (l : List RowAt). row_at l w) slots ∙ get_or-replicate s.conf.workers w (new_row s.conf.slots) (new_row 0) (within w s.conf.workers e)
    where
      within : (a b : ℕ) → nat_lt a b ≡ true → a < b
      within a b e = grind (arith, nat_tests)

  row_at_all : {X : Type 0} (of : RowAt → X) (w : ℕ) → cond (nat_lt w s.conf.workers) (of (row_at s.slots w)) (of (new_row s.conf.slots)) ≡ of (new_row s.conf.slots)
  row_at_all {X = X} of w = by (nat_lt w s.conf.workers) refl
    where
      by : (b : Bool) → nat_lt w s.conf.workers ≡ b → cond b (of (row_at s.slots w)) (of (new_row s.conf.slots)) ≡ of (new_row s.conf.slots)
      by true e = ap of (row_is w e)
      by false e = refl

  world_is : world_of worker s ≡ new_world (setup_in s)
  world_is = λ j. record {
    workers = fun_ext worker_at j;
    rows = fun_ext (row_at_all (λ r. r.slots)) j;
    counts = fun_ext (row_at_all (λ r. r.holds)) j;
    rings = λ v w. map told_packet (ring_of (rings j) v w);
  }

  none_pending : pending_in (setup_in s) (new_world (setup_in s)) ≡ 0
  none_pending = sum_same (λ v. sum_below (λ w. 0) s.conf.workers) (λ v. 0) s.conf.workers (λ v. sum_none s.conf.workers) ∙ sum_none s.conf.workers

  pub begins : s.told ≡ [] → telling_of worker s ≡ record { setup = setup_in s; world = new_world (setup_in s); told = [] }
  begins told = λ j. record { setup = setup_in s; world = world_is j; told = told j }

  module _ (sound : W → Type 0) (held : PlainHold → HoldAt) (is : IsSetup (setup_in s)) (fit : AllByRecursion sound s.hands.items) (pending : s.pending ≡ 0) where
    pub floor : IsFloor worker sound held s
    floor = record {
      staffed = record {
        setup = is;
        hired = sym (length-map s.hands.items worker) ∙ ap (λ (l : List WorkerAt). length l) hired ∙ length-map (below s.conf.workers) (new_worker (setup_in s)) ∙ length_below s.conf.workers;
        fit = fit;
        between = λ v w. subst (λ (r : List (List (List (Packet PlainHold)))). AllByRecursion (IsBetween held v w) (ring_of r v w)) (sym rings) tt;
        counted = pending ∙ sym none_pending ∙ ap (pending_in (setup_in s)) (sym world_is);
      };
      history = [];
      good = subst (λ (x : World). Good (setup_in s) [] x) (sym world_is) (new_good (setup_in s) is);
    }
