-- A take on the floor.
use Rattle.std.proofs.Common.{◌≡◌, ◌≢◌, ℕ, ◌+◌, ◌-◌, ◌<◌, ◌≤◌, List, ◌∷◌, ◌++◌, map, drop, Some, sym, ap, ◌∙◌, subst, arith}
use Rattle.std.specs.List.{AllByRecursion}
use Rattle.nc_slots.specs.declared.plain.PlainHold.{PlainHold}
use Rattle.nc_slots.specs.Slots.{HoldAt}
use Rattle.nc_alert.specs.declared.packet.Packet.{Packet}
use Rattle.nc_owner.specs.AlertLines.{alert_line}
use Rattle.nc_history.specs.Packets.{Packet as Told}
use Rattle.nc_rings.specs.Ring.{row_of, ring_of, first_packet}
use Rattle.nc_worker_state.specs.Incoming.{TakesPacket, told_packet}
use Rattle.nc_worker_state.specs.Worker.{WorkerAt}
use Rattle.nc_world.specs.World.{World, handled_events, handled, pending_in}
use Rattle.nc_world.specs.Moves.{Handles, Takes, with_ring, taken, taken_events}
use Rattle.nc_world_laws.specs.Good.{IsLineTo}
use Rattle.nc_world_laws.proofs.Moving.{move_good, taken_right}
use Rattle.nc_world_views.proofs.Counting.{ring_counts}
use Rattle.nc_turns.specs.Telling.{Telling}
use Rattle.nc_floor.specs.declared.floor.Floor.{Floor}
use Rattle.nc_floor.specs.Hand.{IsBetween}
use Rattle.nc_floor.specs.Floor.{setup_in, world_of, IsStaffed, IsFloor, HasMoved}
use Rattle.nc_floor.proofs.OnFloor.{first_is, still_floor}
use Rattle.nc_floor.proofs.Carrying.{ring_shows, rings_all}

module _ {W : Type 0} (worker : W → WorkerAt) (sound : W → Type 0) (held : PlainHold → HoldAt) (s : Floor W) (f : IsFloor worker sound held s) (w from : ℕ) (lt : w < s.conf.workers) (sender : from < s.conf.workers)
    (packet : Packet PlainHold) (first : Some packet ≡ first_packet (ring_of s.rings from w)) (rings : List (List (List (Packet PlainHold)))) (rest : ring_of rings from w ≡ drop 1 (ring_of s.rings from w))
    (receivers : (x : ℕ) → x ≢ w → ring_of rings from x ≡ ring_of s.rings from x) (senders : (v : ℕ) → v ≢ from → row_of rings v ≡ row_of s.rings v) where
  abbrev world : World
  world = world_of worker s

  abbrev behind : List Told
  behind = map told_packet (drop 1 (ring_of s.rings from w))

  abbrev between_moves : Floor W
  between_moves = record s { rings = rings; pending = s.pending - 1 }

  ring_is : ring_of s.rings from w ≡ packet ∷ drop 1 (ring_of s.rings from w)
  ring_is = first_is (ring_of s.rings from w) packet first

  told_is : world.rings from w ≡ told_packet packet ∷ behind
  told_is = ap (map told_packet) ring_is

  kept : AllByRecursion (IsBetween held from w) (packet ∷ drop 1 (ring_of s.rings from w))
  kept = subst (AllByRecursion (IsBetween held from w)) ring_is (f.staffed.between from w)

  sender_is : packet.from ≡ from
  sender_is = kept.0.sender

  world_is : world_of worker between_moves ≡ with_ring from w behind world
  world_is = λ j. record { workers = world.workers; rows = world.rows; counts = world.counts; rings = ring_shows s.rings rings from w receivers senders behind (ap (map told_packet) rest) j }

  one_less : pending_in (setup_in s) (with_ring from w behind world) + 1 ≡ s.pending
  one_less = ring_counts (setup_in s) from w (told_packet packet) behind world sender lt told_is ∙ sym f.staffed.counted

  pub some_pending : 1 ≤ s.pending
  some_pending = omega (arith, one_less)

  pub staffed : IsStaffed worker sound held between_moves
  staffed = record {
    setup = f.staffed.setup;
    hired = f.staffed.hired;
    fit = f.staffed.fit;
    between = rings_all s.rings rings from w receivers senders (IsBetween held) f.staffed.between (subst (AllByRecursion (IsBetween held from w)) (sym rest) kept.1);
    counted = less (pending_in (setup_in s) (with_ring from w behind world)) s.pending one_less ∙ ap (pending_in (setup_in s)) (sym world_is);
  }
    where
      less : (a b : ℕ) → a + 1 ≡ b → b - 1 ≡ a
      less a b e = omega (arith, e)

  pub right : IsBetween held packet.from w packet × packet.from < s.conf.workers × IsLineTo s.conf.workers packet.from w (alert_line packet.alert)
  right = (
    subst (λ (v : ℕ). IsBetween held v w packet) (sym sender_is) kept.0,
    subst (λ (v : ℕ). v < s.conf.workers) (sym sender_is) sender,
    subst (λ (v : ℕ). IsLineTo s.conf.workers v w (alert_line packet.alert)) (sym sender_is) (taken_right (setup_in s) w from (told_packet packet) behind f.history world f.good told_is),
  )

  abbrev takes : List Told → Telling
  takes ring = record { setup = setup_in s; world = taken (setup_in s) w from ring world; told = s.told ++ taken_events (setup_in s) w from ring world }

  module _ (new : Floor W) (did : HasMoved worker (Handles w (TakesPacket packet.from (told_packet packet))) between_moves new) where
    pub moved : HasMoved worker (Takes w from) s new
    moved = did ∙ (λ j. record {
      setup = setup_in s;
      world = handled (setup_in s) w (TakesPacket (sender_is j) (told_packet packet)) (world_is j);
      told = s.told ++ handled_events (setup_in s) w (TakesPacket (sender_is j) (told_packet packet)) (world_is j);
    }) ∙ ap takes (sym told_is)

    pub floor : IsStaffed worker sound held new → IsFloor worker sound held new
    floor st = still_floor worker sound held s f (Takes w from) new st moved (move_good (setup_in s) f.staffed.setup (Takes w from) f.history world f.good (lt, sender))
