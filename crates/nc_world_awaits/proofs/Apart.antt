-- In each reached world each number is awaited once at most.
use Rattle.std.proofs.Common.{◌≡◌, ℕ, ◌+◌, ◌≤◌, true, List, [], ◌∷◌, Option, refl, arith}
use Rattle.std.specs.Option.{option_map}
use Rattle.nc_types.specs.declared.info.Info.{Info}
use Rattle.nc_journal.specs.History.{onto}
use Rattle.nc_journal.specs.declared.event.Event.{Event}
use Rattle.nc_journal.specs.declared.alert.AlertLine.{AlertLine}
use Rattle.nc_journal.specs.declared.alert.AlertLine.TheVariants as lines
use Rattle.nc_spool.specs.Calls.{SpoolsAt, board_of, news_of}
use Rattle.nc_spool_laws.specs.Numbers.{total, looks_of, AreApart}
use Rattle.nc_spool_laws.proofs.Numbers.{apart-kept}
use Rattle.nc_history.specs.Packets.{Packet}
use Rattle.nc_worker_state.specs.Setup.{Setup}
use Rattle.nc_worker_state.specs.Incoming.{Incoming, TakesPacket, ClockReads, Reaps, Posts, Subscribes, Removes, Informs}
use Rattle.nc_worker_state.specs.Spooled.{found_in, found_by}
use Rattle.nc_worker_state.specs.Desk.{Desk, Served, unserved, is_waiting, replied, handled as answered, begun}
use Rattle.nc_worker_state.specs.Worker.{WorkerAt, with_at, dealt_worker}
use Rattle.nc_world.specs.World.{World, handled_events, handled}
use Rattle.nc_world.specs.Moves.{carried_one}
use Rattle.nc_world.specs.Reached.{IsSetup, Reached}
use Rattle.nc_world_laws.proofs.WorldTheme.{IsWorldTheme}
use Rattle.nc_world_laws.proofs.Local.{either}
use Rattle.nc_world_laws.proofs.Acting.{with_all}
use Rattle.nc_world_laws.proofs.Parts.{owns, serves}
use Rattle.nc_world_laws.proofs.WorldThemes.{world_theme_holds}
use Rattle.nc_world_places.specs.Places.{shelf_at}

-- the numbers that a worker awaits are apart
abbrev IsApart : Desk → Type 0
IsApart d = AreApart (board_of d.spools)

module _ (me : ℕ) (d : Desk) (apart : IsApart d) where
  reply_apart : (r status : ℕ) (info : Option Info) → IsApart (replied me r status info d).after
  reply_apart r status info = either (λ (x : Served). IsApart x.after) (is_waiting r d.waiting) _ (unserved d) apart apart

  line_apart : (from : ℕ) (line : AlertLine) → IsApart (answered me from line d).after
  line_apart from (lines.PubAnswer r status info usage) = reply_apart r status info
  line_apart from (lines.InfoAnswer r status info) = reply_apart r status info
  line_apart from (lines.DelAnswer r status info) = reply_apart r status info
  line_apart from (lines.LookAnswer number q floor found g slot) = let k = apart-kept.answer number (record { q = q; floor = floor }) (option_map news_of (found_in from found g slot)) (board_of d.spools) tt apart in record { once = k.once; below = k.below }
  line_apart from (lines.Notice c id g slot) = let k = apart-kept.notice c (news_of (found_by from id g slot)) (board_of d.spools) tt apart in record { once = k.once; below = k.below }
  line_apart from (lines.EdgeAnswer number q floor last) = let k = apart-kept.edge_answer number floor last (board_of d.spools) tt apart in record { once = k.once; below = k.below }
  line_apart from (lines.Gone c subs) = let k = apart-kept.removal c subs (board_of d.spools) apart in record { once = k.once; below = k.below }
  line_apart from (lines.Publish r c len timeout ct body) = apart
  line_apart from (lines.Look number c after fence) = apart
  line_apart from (lines.Edge number m c fence) = apart
  line_apart from (lines.Join c m) = apart
  line_apart from (lines.Part c m) = apart
  line_apart from (lines.Delete r c) = apart
  line_apart from (lines.Info r c) = apart

  begun_apart : (setup : Setup) (incoming : Incoming) → IsApart (begun setup me incoming d).after
  begun_apart setup (TakesPacket from p) = line_apart from p.line
  begun_apart setup (ClockReads t) = apart
  begun_apart setup Reaps = apart
  begun_apart setup (Posts c body) = record { once = apart.once; below = apart.below }
  begun_apart setup (Removes c) = record { once = apart.once; below = apart.below }
  begun_apart setup (Informs c) = record { once = apart.once; below = apart.below }
  begun_apart setup (Subscribes m list start) = let k = apart-kept.arrive (record { k = m; once = true }) list start (board_of d.spools) tt apart in record { once = k.once; below = k.below }

-- ---- the theme

abbrev AllApart : List Event → World → Type 0
AllApart h world = (w : ℕ) → IsApart (world.workers w).desk

module _ (setup : Setup) where
  step_apart : (x : ℕ) (incoming : Incoming) (h : List Event) (world : World) → AllApart h world → AllApart (onto (handled_events setup x incoming world) h) (handled setup x incoming world)
  step_apart x incoming h world a =
      let k = begun_apart x (world.workers x).desk (a x) setup incoming in
      with_all (λ w (s : WorkerAt). IsApart s.desk) world.workers x (dealt_worker (handled_events setup x incoming world) (owns x incoming world) (serves setup x incoming world) (world.workers x))
      (record { once = k.once; below = k.below }) (λ w other. a w)

  carries_apart : (w v : ℕ) (p : Packet) (ps : List Packet) (h : List Event) (world : World) → AllApart h world → AllApart h (carried_one w v p ps world)
  carries_apart w v p ps h world a = with_all (λ x (s : WorkerAt). IsApart s.desk) world.workers w (record (world.workers w) { outbox = with_at (world.workers w).outbox v ps }) (let k = a w in record { once = k.once; below = k.below }) (λ x other. a x)

  apart_theme : IsWorldTheme setup AllApart
  apart_theme = record {
    new = λ w. record { once = λ n. omega arith; below = λ n l. refl };
    handles = λ w incoming h world reached g here i a. step_apart w incoming h world a;
    takes = λ w v p ps h world reached g here there at a. step_apart w (TakesPacket v p) h world a;
    carries = λ w v p ps h world reached g here there at a. carries_apart w v p ps h world a;
    pending = λ n h world reached g same a. a;
    quiet = λ h world reached g same a. a;
  }

-- so is each look
pub once_awaited : (setup : Setup) → IsSetup setup → (h : List Event) (world : World) → Reached setup h world → (w n : ℕ) → total (looks_of n) (shelf_at world w) ≤ 1
once_awaited setup is h world reached w n = let once = ((world_theme_holds setup AllApart is (apart_theme setup) h world reached) w).once n in omega (arith, once)
