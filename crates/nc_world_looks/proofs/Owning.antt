-- A worker answers the look that it takes, and no other.
use Rattle.std.proofs.Common.{◌≡◌, ℕ, ◌+◌, ◌≤◌, Bool, true, false, cond, List, [], ◌∷◌, ◌++◌, Option, Some, None, refl, arith}
use Rattle.std.specs.Prelude.{◌==◌}
use Rattle.std.specs.List.{AllByRecursion}
use Rattle.nc_types.specs.Id.{Id}
use Rattle.nc_types.specs.declared.info.Info.{Info}
use Rattle.nc_journal.specs.declared.event.Event.{Event}
use Rattle.nc_journal.specs.declared.alert.AlertLine.{AlertLine}
use Rattle.nc_journal.specs.declared.alert.AlertLine.TheVariants as lines
use Rattle.nc_buffer.specs.declared.entry.Entry.{Entry}
use Rattle.nc_owner.specs.declared.desk.Desk.{Desk as OwnerDesk}
use Rattle.nc_owner.specs.declared.order.Order.{Order}
use Rattle.nc_owner.specs.AlertLines.{OutLine}
use Rattle.nc_owner.specs.State.{Bench, exists}
use Rattle.nc_owner.specs.Publish.{Polls, Outcome, late, full, stored, notices, asked, roomy, stamp, lowest_slot, post_alerts, publish_outcome, publish_cleared}
use Rattle.nc_owner.specs.Look.{found_on, found_line, look_ready}
use Rattle.nc_owner.specs.Fence.{with_floor}
use Rattle.nc_owner.specs.Remove.{delete_alerts}
use Rattle.nc_reaper.specs.Reap.{Step}
use Rattle.nc_owner_laws.specs.Sweeping.{AllAlerts}
use Rattle.nc_owner_laws.proofs.Sweeping.{deletion_told}
use Rattle.nc_worker_state.specs.Setup.{Setup}
use Rattle.nc_worker_state.specs.Incoming.{Incoming, TakesPacket, ClockReads, Reaps, Posts, Subscribes, Removes, Informs}
use Rattle.nc_worker_state.specs.Deed.{Deed, Does, Makes, next_after}
use Rattle.nc_worker_state.specs.Owned.{Holding, order_of, line_polls, owned_by}
use Rattle.nc_worker_state.specs.Worker.{holding}
use Rattle.nc_world.specs.World.{World, seat, handled_events}
use Rattle.nc_world.specs.Reached.{IsSetup}
use Rattle.nc_world_laws.proofs.WorkerKinds.{AsksOwner, AreDeeds}
use Rattle.nc_world_laws.specs.Good.{Good}
use Rattle.nc_world_laws.proofs.Parts.{owns, serves, before, part, behind, of, part_alerts, well}
use Rattle.nc_world_holds.specs.Balance.{one_if}
use Rattle.nc_world_requests.proofs.Weighing.{made_for, out_for, steps_for, part_for, deeds_for, made_append, part_out, told_out}
use Rattle.nc_world_looks.specs.Looks.{looking, looked}

module _ (n y : ℕ) where
  -- an alert answers no look
  abbrev IsPlainOut : OutLine → Type 0
  IsPlainOut o = looked n o.line ≡ 0

  nothing_for : (b : Bool) (k m : ℕ) → k ≡ 0 → m ≡ 0 → cond b k 0 + m ≡ 0
  nothing_for true k m e f = omega (arith, e, f)
  nothing_for false k m e f = omega (arith, f)

  plain_out : (alerts : List OutLine) → AllByRecursion IsPlainOut alerts → out_for (looked n) y alerts ≡ 0
  plain_out [] p = refl
  plain_out (a ∷ alerts) p = nothing_for (y == a.to) (looked n a.line) _ p.0 (plain_out alerts p.1)

  steps_plain : (steps : List Step) → AllAlerts IsPlainOut steps → steps_for (looked n) y steps ≡ 0
  steps_plain [] p = refl
  steps_plain (x ∷ steps) p = omega (arith, plain_out x.alerts p.0, steps_plain steps p.1)

  notices_plain : (c : List ℕ) (id : Id) (slot g : ℕ) (marks : List ℕ) (more : List OutLine) → AllByRecursion IsPlainOut more → AllByRecursion IsPlainOut (notices c id slot g marks ++ more)
  notices_plain c id slot g [] more m = m
  notices_plain c id slot g (to ∷ marks) more m = (refl, notices_plain c id slot (g + 1) marks more m)

  post_plain : (out : Outcome) (from : ℕ) (o : Order) (polls : Polls) (b : Bench) → AllByRecursion IsPlainOut (post_alerts out from o polls b)
  post_plain late from o polls b = (refl, tt)
  post_plain (full usage) from o polls b = (refl, tt)
  post_plain stored from o polls b = let c = asked polls.leaving b in notices_plain o.chan (stamp c) (lowest_slot (roomy o.length polls.left c).row) c.desk.grants c.channel.marks _ (refl, tt)

  info_plain : (b : Bool) (r : ℕ) (info : Option Info) → looked n (cond b (lines.InfoAnswer r 200 info) (lines.InfoAnswer r 404 None)) ≡ 0
  info_plain true r info = refl
  info_plain false r info = refl

  found_for : (from number : ℕ) (entry : Option Entry) (d : OwnerDesk) → out_for (looked n) y (found_line from number entry d ∷ []) ≡ cond (y == from) (one_if (number == n)) 0 + 0
  found_for from number None d = refl
  found_for from number (Some e) d = refl

  -- an owner that takes an alert of a worker answers it the look that it asks for, and no other
  owner_looks : (polls : Polls) (from : ℕ) (line : AlertLine) (s : Holding) → out_for (looked n) y (owned_by polls from line s).alerts ≤ cond (y == from) (looking n line) 0
  owner_looks polls from (lines.Publish r c len timeout ct body) s =
      let o = order_of r c len timeout ct body in
      let none = plain_out (post_alerts (publish_outcome o polls s.row s.owner) from o polls (publish_cleared o polls s.row s.owner)) (post_plain (publish_outcome o polls s.row s.owner) from o polls (publish_cleared o polls s.row s.owner)) in
      omega (arith, none)
  owner_looks polls from (lines.Info r c) s = let none = plain_out (owned_by polls from (lines.Info r c) s).alerts (info_plain (exists c s.owner) r _, tt) in omega (arith, none)
  owner_looks polls from (lines.Look number c after fence) s =
      let ready = look_ready c s.row (with_floor fence s.owner) in
      let found = found_for from number (found_on after ready) ready.desk in
      omega (arith, found)
  owner_looks polls from (lines.Edge number k c fence) s = let none = plain_out (owned_by polls from (lines.Edge number k c fence) s).alerts (refl, tt) in omega (arith, none)
  owner_looks polls from (lines.Join c k) s = omega arith
  owner_looks polls from (lines.Part c k) s = omega arith
  owner_looks polls from (lines.PubAnswer r status info usage) s = omega arith
  owner_looks polls from (lines.LookAnswer number q floor found g slot) s = omega arith
  owner_looks polls from (lines.Notice c id g slot) s = omega arith
  owner_looks polls from (lines.EdgeAnswer number q floor last) s = omega arith
  owner_looks polls from (lines.Delete r c) s =
      let none = plain_out (delete_alerts from r c s.row s.owner) (deletion_told IsPlainOut c (λ ms to. refl) from r s.row s.owner (λ status info is. refl)) in
      omega (arith, none)
  owner_looks polls from (lines.DelAnswer r status info) s = omega arith
  owner_looks polls from (lines.Gone c subs) s = omega arith
  owner_looks polls from (lines.InfoAnswer r status info) s = omega arith

  -- who asks an owner answers nothing
  asks_plain : (workers to : ℕ) (a : AlertLine) → AsksOwner workers to a → looked n a ≡ 0
  asks_plain workers to (lines.LookAnswer number q floor found g slot) k = absurd k
  asks_plain workers to a k = refl

  deeds_plain : (workers w : ℕ) (deeds : List Deed) → AreDeeds workers w deeds → deeds_for (looked n) y deeds ≡ 0
  deeds_plain workers w [] d = refl
  deeds_plain workers w (Does e ∷ deeds) d = deeds_plain workers w deeds d.1
  deeds_plain workers w (Makes to a ∷ deeds) d = nothing_for (y == to) (looked n a) _ (asks_plain workers to a d.0) (deeds_plain workers w deeds d.1)

  -- the look that came
  abbrev pub came : Incoming → ℕ
  came (TakesPacket from p) = cond (y == from) (looking n p.line) 0
  came i = 0

  module _ (setup : Setup) (is : IsSetup setup) (w : ℕ) (h : List Event) (world : World) (g : Good setup h world) where
    opening_none : (i : Incoming) → made_for (looked n) y (before setup w i world) ≡ 0
    opening_none (TakesPacket from p) = refl
    opening_none (ClockReads t) = refl
    opening_none Reaps = refl
    opening_none (Posts c body) = refl
    opening_none (Subscribes k list start) = refl
    opening_none (Removes c) = refl
    opening_none (Informs c) = refl

    owner_part : (i : Incoming) → part_for (looked n) y (owns w i world) ≤ came i
    owner_part (TakesPacket from p) = let few = owner_looks (line_polls p.line (holding w (seat w world))) from p.line (holding w (seat w world)) in omega (arith, few)
    owner_part (ClockReads t) = omega arith
    owner_part Reaps =
        let none = steps_plain (owns w Reaps world).sweeps (part_alerts setup is w Reaps h world g IsPlainOut (λ from p e. absurd cc) (λ c subs to mine. refl)).0 in
        omega (arith, none)
    owner_part (Posts c body) = omega arith
    owner_part (Subscribes k list start) = omega arith
    owner_part (Removes c) = omega arith
    owner_part (Informs c) = omega arith

    pub step_looks : (i : Incoming) → made_for (looked n) y (handled_events setup w i world) ≤ came i
    step_looks i =
        let f = looked n in
        omega (
          arith,
          made_append f y (before setup w i world ++ part w i world) (behind setup w i world),
          made_append f y (before setup w i world) (part w i world),
          opening_none i,
          part_out f y w w (world.workers w).next (owns w i world) (of setup is w i h world g),
          owner_part i,
          told_out f y setup.workers w (next_after (world.workers w).next (part w i world)) (serves setup w i world).deeds (well setup is w i h world g),
          deeds_plain setup.workers w (serves setup w i world).deeds (well setup is w i h world g),
        )
