-- The events of a worker's step, behind what opens it: of which kinds they are, how they are numbered, and what is sent.
use Rattle.std.proofs.Common.{◌≡◌, ℕ, List, ◌++◌, sym, ap, ◌∙◌, subst}
use Rattle.std.specs.List.{AllByRecursion}
use Rattle.nc_types.specs.Channel.{owner_of}
use Rattle.nc_journal.specs.History.{own, onto}
use Rattle.nc_journal.specs.declared.event.Event.{Event}
use Rattle.nc_journal.specs.declared.event.Event.TheVariants.{Freed, Made}
use Rattle.nc_journal.specs.declared.alert.AlertLine.{AlertLine}
use Rattle.nc_journal.specs.declared.alert.AlertLine.TheVariants.{Gone}
use Rattle.nc_owner.specs.AlertLines.{OutLine}
use Rattle.nc_owner_laws.specs.Kinds.{IsOfOwner}
use Rattle.nc_owner_laws.specs.Sweeping.{IsOfRemovals}
use Rattle.nc_history.specs.Packets.{Packet}
use Rattle.nc_worker_state.specs.Setup.{Setup}
use Rattle.nc_worker_state.specs.Incoming.{Incoming, TakesPacket, ClockReads, Reaps, Posts, Subscribes, Removes, Informs}
use Rattle.nc_worker_state.specs.Deed.{told, next_after}
use Rattle.nc_worker_state.specs.Owned.{OwnersPart, owned, owned_by}
use Rattle.nc_worker_state.specs.Desk.{Served, opening, served}
use Rattle.nc_worker_state.specs.Worker.{holding, part_woven}
use Rattle.nc_owner_laws.proofs.Stamping.{onto_append}
use Rattle.nc_world.specs.World.{World, seat, polls_of, handled_events}
use Rattle.nc_world.specs.Reached.{IsSetup}
use Rattle.nc_world_laws.proofs.WorkerKinds.{IsBy, IsUntaken, IsUnmade, IsOfWorker, AsksOwner, AreDeeds}
use Rattle.nc_world_laws.specs.Good.{IsLineTo, Good}
use Rattle.nc_world_laws.proofs.OwnerTheme.{OwnerFact, IsOwnerTheme}
use Rattle.nc_world_laws.proofs.Local.{eqb_self, all_append}
use Rattle.nc_world_laws.proofs.Telling.{told_made, told_all, deeds_do, deeds_make, PartEvents, PartAlerts, all_events_of, woven_part, woven_part_all, by_owner, by_worker, unmade_owner, unmade_worker, untaken_owner, untaken_worker, line_asked}
use Rattle.nc_world_laws.proofs.Numbers.{AreNumbered, numbered_append, part_numbered, told_numbered}
use Rattle.nc_world_laws.proofs.Serving.{served_well}
use Rattle.nc_world_laws.proofs.Owning.{packet_events, packet_alerts, of_owned, right_owned}
use Rattle.nc_world_laws.proofs.Stepping.{is_me, IsRight, Themed, told_themed, part_themed}
use Rattle.nc_world_laws.proofs.Acting.{MakesRightly}

unmade_right : (workers : ℕ) (e : Event) → IsUnmade e → MakesRightly workers e
unmade_right workers (Made w to n a) p = absurd p
unmade_right workers e p = tt

-- what the owner of a worker does, and what the worker does beside it
abbrev pub owns : ℕ → Incoming → World → OwnersPart
owns w incoming world = owned incoming (holding w (seat w world))

abbrev pub serves : Setup → ℕ → Incoming → World → Served
serves setup w incoming world = served setup w incoming (world.workers w).desk

abbrev pub before : Setup → ℕ → Incoming → World → List Event
before setup w incoming world = opening setup w incoming (world.workers w).desk

-- the events of the owner's part, and those behind them
abbrev pub part : ℕ → Incoming → World → List Event
part w incoming world = part_woven w (world.workers w).next (owns w incoming world)

abbrev pub behind : Setup → ℕ → Incoming → World → List Event
behind setup w incoming world = told w (next_after (world.workers w).next (part w incoming world)) (serves setup w incoming world).deeds

abbrev pub rest : Setup → ℕ → Incoming → World → List Event
rest setup w incoming world = part w incoming world ++ behind setup w incoming world

module _ (setup : Setup) (is : IsSetup setup) (w : ℕ) (incoming : Incoming) (h : List Event) (world : World) (g : Good setup h world) where
  -- an owner has its worker's number
  pub me : (world.workers w).owner.desk.me ≡ w
  me = is_me w setup.workers setup.slots setup.first (world.rows w) (own w h) (world.workers w).owner (g.keeps w).stands

  -- its events are its own, and the deeds are the worker's or ask owners
  pub of : PartEvents (IsOfOwner w) (owns w incoming world)
  of = of_owned setup.workers w (polls_of w incoming world) incoming (holding w (seat w world)) me (g.owns w)

  -- each alert of its owner keeps what its receiver counts on, where what comes does
  pub part_right : IsRight setup w incoming → PartAlerts (λ a. IsLineTo setup.workers w a.to a.line) (owns w incoming world)
  part_right right = right_owned setup w (polls_of w incoming world) incoming (holding w (seat w world)) me (g.owns w) right

  -- what holds of the owner's events with a packet, of what sweeps remove, and of what polls free, holds of the events of its part
  pub part_events : (P : Event → Type 0) → ((from : ℕ) (p : Packet) → incoming ≡ TakesPacket from p → AllByRecursion P (owned_by (polls_of w incoming world).publish from p.line (holding w (seat w world))).events)
      → ((e : Event) → IsOfRemovals setup.workers w e → P e) → ((slot : ℕ) → P (Freed w slot)) → PartEvents P (owns w incoming world)
  part_events P line removed freed = packet_events setup.workers w P (polls_of w incoming world) incoming (holding w (seat w world)) me (g.owns w) line removed freed

  -- the same of its alerts
  pub part_alerts : (Q : OutLine → Type 0) → ((from : ℕ) (p : Packet) → incoming ≡ TakesPacket from p → AllByRecursion Q (owned_by (polls_of w incoming world).publish from p.line (holding w (seat w world))).alerts)
      → ((c subs : List ℕ) (to : ℕ) → owner_of setup.workers c ≡ w → Q (record { to = to; line = Gone c subs })) → PartAlerts Q (owns w incoming world)
  part_alerts Q line lost = packet_alerts setup.workers w Q (polls_of w incoming world) incoming (holding w (seat w world)) me (g.owns w) line lost

  pub well : AreDeeds setup.workers w (serves setup w incoming world).deeds
  well = (served_well setup is w incoming (world.workers w).desk (g.knows w)).0

  -- what holds of what an owner does, and of what is made, holds of the owner's part
  pub part_all : (P : Event → Type 0) → ((e : Event) → IsOfOwner w e → P e) → ((to n : ℕ) (a : AlertLine) → P (Made w to n a)) → AllByRecursion P (part w incoming world)
  part_all P a m = woven_part_all P w (world.workers w).next m (owns w incoming world) (all_events_of (IsOfOwner w) P a (owns w incoming world) of)

  -- the same where it holds of those alerts alone that are so
  pub part_made : (P : Event → Type 0) (Q : OutLine → Type 0) → ((e : Event) → IsOfOwner w e → P e) → ((n : ℕ) (a : OutLine) → Q a → P (Made w a.to n a.line)) → PartAlerts Q (owns w incoming world) → AllByRecursion P (part w incoming world)
  part_made P Q a m q = woven_part P Q w m (world.workers w).next (owns w incoming world) (all_events_of (IsOfOwner w) P a (owns w incoming world) of) q

  -- and what holds of what a worker does beside it, and of what is made, holds of the rest
  pub behind_all : (P : Event → Type 0) → ((e : Event) → IsOfWorker w e → P e) → ((to n : ℕ) (a : AlertLine) → P (Made w to n a)) → AllByRecursion P (behind setup w incoming world)
  behind_all P b m = told_all P w _ m (serves setup w incoming world).deeds (deeds_do setup.workers w P b (serves setup w incoming world).deeds well)

  -- what holds of what an owner and a worker do, and of what is made, holds of these events
  pub rest_all : (P : Event → Type 0) → ((e : Event) → IsOfOwner w e → P e) → ((e : Event) → IsOfWorker w e → P e) → ((to n : ℕ) (a : AlertLine) → P (Made w to n a)) → AllByRecursion P (rest setup w incoming world)
  rest_all P a b m = all_append P (part w incoming world) (behind setup w incoming world) (part_all P a m) (behind_all P b m)

  -- the same where it holds of those alerts alone that are rightly made, where what comes is right
  pub rest_made : (P : Event → Type 0) → IsRight setup w incoming → ((e : Event) → IsOfOwner w e → P e) → ((e : Event) → IsOfWorker w e → P e) → ((to n : ℕ) (a : AlertLine) → IsLineTo setup.workers w to a → P (Made w to n a)) → AllByRecursion P (rest setup w incoming world)
  rest_made P right a b m =
      all_append P (part w incoming world) _
      (part_made P (λ o. IsLineTo setup.workers w o.to o.line) a (λ n o r. m o.to n o.line r) (part_right right))
      (told_made P (AsksOwner setup.workers) w _ (λ to n l q. m to n l (line_asked setup.workers w to l q)) (serves setup w incoming world).deeds (deeds_do setup.workers w P b (serves setup w incoming world).deeds well) (deeds_make setup.workers w (serves setup w incoming world).deeds well))

  pub rest_by : AllByRecursion (IsBy w) (rest setup w incoming world)
  rest_by = rest_all (IsBy w) (by_owner w) (by_worker w) (λ to n a. eqb_self w)

  pub rest_untaken : AllByRecursion IsUntaken (rest setup w incoming world)
  rest_untaken = rest_all IsUntaken (untaken_owner w) (untaken_worker w) (λ to n a. tt)

  pub rest_numbered : AreNumbered (world.workers w).next (rest setup w incoming world)
  rest_numbered = numbered_append (world.workers w).next (part w incoming world) _
      (part_numbered w (world.workers w).next (owns w incoming world) (all_events_of (IsOfOwner w) IsUnmade (unmade_owner w) (owns w incoming world) of))
      (told_numbered w _ (serves setup w incoming world).deeds (deeds_do setup.workers w IsUnmade (unmade_worker w) (serves setup w incoming world).deeds well))

  pub rest_right : IsRight setup w incoming → AllByRecursion (MakesRightly setup.workers) (rest setup w incoming world)
  rest_right right = rest_made (MakesRightly setup.workers) right (λ e q. unmade_right setup.workers e (unmade_owner w e q)) (λ e q. unmade_right setup.workers e (unmade_worker w e q)) (λ to n a r. r)

  -- ---- the whole step

  pub opening_by : AllByRecursion (IsBy w) (opening setup w incoming (world.workers w).desk)
  opening_by = by incoming
    where
      by : (i : Incoming) → AllByRecursion (IsBy w) (opening setup w i (world.workers w).desk)
      by (TakesPacket from p) = (eqb_self w, tt)
      by (ClockReads t) = (eqb_self w, tt)
      by Reaps = tt
      by (Posts c body) = (eqb_self w, tt)
      by (Subscribes k list start) = (eqb_self w, tt)
      by (Removes c) = (eqb_self w, tt)
      by (Informs c) = (eqb_self w, tt)

  -- the events of a step are the worker's own
  pub step_by : AllByRecursion (IsBy w) (handled_events setup w incoming world)
  step_by =
      all_append (IsBy w) (before setup w incoming world ++ part w incoming world) (behind setup w incoming world)
      (all_append (IsBy w) (before setup w incoming world) (part w incoming world) opening_by (part_all (IsBy w) (by_owner w) (λ to n a. eqb_self w)))
      (behind_all (IsBy w) (by_worker w) (λ to n a. eqb_self w))

  -- a theme of the owner over the step
  pub step_themed : (P : OwnerFact) (theme : IsOwnerTheme setup w P) → IsRight setup w incoming → P (world.rows w) (own w h) (world.workers w).owner
      → Themed setup w P theme (owns w incoming world).last.after.row (owns w incoming world).last.after.counts (onto (handled_events setup w incoming world) (own w h)) (owns w incoming world).last.after.owner
  step_themed P theme right p =
      let o = (owns w incoming world).last in
      let first = before setup w incoming world in
      let second = part w incoming world in
      let third = behind setup w incoming world in
      let t = part_themed setup w P theme incoming (world.workers w).next (world.workers w).desk (own w h) (holding w (seat w world)) right (record { base = record { keeps = g.keeps w; own = g.owns w; holds = g.holds w }; fact = p }) in
      let u = told_themed setup w P theme o.after.row o.after.counts o.after.owner (next_after (world.workers w).next second) (serves setup w incoming world).deeds (onto second (onto first (own w h))) well t in
      subst (λ (l : List Event). Themed setup w P theme o.after.row o.after.counts l o.after.owner)
      (sym (onto_append (first ++ second) third (own w h) ∙ ap (λ (l : List Event). onto third l) (onto_append first second (own w h)))) u
