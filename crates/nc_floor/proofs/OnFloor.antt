-- What stands on the floor, by its good world.
use Rattle.std.proofs.Common.{◌≡◌, ◌≢◌, ℕ, ◌<◌, true, false, List, [], ◌∷◌, map, drop, Some, sym, ap, ◌∙◌, subst, arith, get_or}
use Rattle.std.specs.Prelude.{◌==◌}
use Rattle.std.proofs.lemmas.List.{get_or-map}
use Rattle.std.proofs.lemmas.Bool.Decides.{nat_tests}
use Rattle.nc_journal.specs.History.{own, onto}
use Rattle.nc_slots.specs.declared.plain.PlainHold.{PlainHold}
use Rattle.nc_slots.specs.Slots.{HoldAt}
use Rattle.nc_alert.specs.declared.packet.Packet.{Packet}
use Rattle.nc_rings.specs.Ring.{first_packet}
use Rattle.nc_worker_state.specs.Worker.{WorkerAt, new_worker}
use Rattle.nc_world.specs.Moves.{Move, move_events, moved}
use Rattle.nc_world_laws.specs.Good.{Good}
use Rattle.nc_world_laws.proofs.Stepping.{is_me}
use Rattle.nc_turns.specs.Telling.{Telling}
use Rattle.nc_floor.specs.declared.floor.Floor.{Floor}
use Rattle.nc_floor.specs.Hand.{me_of}
use Rattle.nc_floor.specs.Floor.{setup_in, world_of, IsStaffed, IsFloor, HasMoved}

pub eq_of : (a b : ℕ) → (a == b) ≡ true → a ≡ b
eq_of a b e = grind (arith, nat_tests)

pub ne_of : (a b : ℕ) → (a == b) ≡ false → a ≢ b
ne_of a b e = grind (arith, nat_tests)

-- a list with a first item
pub first_is : {H : Type 0} (l : List (Packet H)) (p : Packet H) → Some p ≡ first_packet l → l ≡ p ∷ drop 1 l
first_is [] p e = cc
first_is (q ∷ qs) p e = let same : q ≡ p = cc in ap (λ x. x ∷ qs) same

module _ {W : Type 0} (worker : W → WorkerAt) (sound : W → Type 0) (held : PlainHold → HoldAt) (s : Floor W) (f : IsFloor worker sound held s) where
  -- each worker has its number
  pub me_is : (w : ℕ) → me_of ((world_of worker s).workers w) ≡ w
  me_is w = is_me w (setup_in s).workers (setup_in s).slots (setup_in s).first ((world_of worker s).rows w) (own w f.history) ((world_of worker s).workers w).owner (f.good.keeps w).stands

  -- and the floor is one after a move that keeps what is good
  pub still_floor : (m : Move) (new : Floor W) → IsStaffed worker sound held new → HasMoved worker m s new
      → Good (setup_in s) (onto (move_events (setup_in s) m (world_of worker s)) f.history) (moved (setup_in s) m (world_of worker s)) → IsFloor worker sound held new
  still_floor m new st mv good = record {
    staffed = st;
    history = onto (move_events (setup_in s) m (world_of worker s)) f.history;
    good = subst (λ (t : Telling). Good t.setup (onto (move_events (setup_in s) m (world_of worker s)) f.history) t.world) (sym mv) good;
  }

  -- a worker as the world sees it
  pub worker_is : (w i : ℕ) (old : W) → i ≡ w → w < s.conf.workers → old ≡ get_or s.hands.items i old → (world_of worker s).workers w ≡ worker old
  worker_is w i old e lt at = ap (λ (k : ℕ). get_or (map worker s.hands.items) k (new_worker (setup_in s) w)) (sym e)
      ∙ get_or-map worker s.hands.items i old (new_worker (setup_in s) w) (omega (arith, lt, e, f.staffed.hired)) ∙ ap worker (sym at)
