-- In each reached world what was granted is released, on its way, or kept.
use Rattle.std.proofs.Common.{◌≡◌, ℕ, zero, suc, ◌+◌, ◌<◌, Bool, true, false, cond, List, [], ◌∷◌, ◌++◌, refl, sym, ap, ◌∙◌, subst, arith}
use Rattle.std.specs.Prelude.{◌==◌, ◌&&◌, drop, nat_lt, length}
use Rattle.std.specs.List.{AllByRecursion}
use Rattle.std.proofs.lemmas.Bool.Decides.{nat_tests}
use Rattle.nc_journal.specs.History.{own, onto}
use Rattle.nc_journal.specs.declared.event.Event.{Event}
use Rattle.nc_journal.specs.declared.event.Event.TheVariants.{Left, Granted, Released, Removed, Made, Took}
use Rattle.nc_journal.specs.declared.alert.AlertLine.{AlertLine}
use Rattle.nc_journal.specs.declared.alert.AlertLine.TheVariants as lines
use Rattle.nc_owner.specs.AlertLines.{OutLine}
use Rattle.nc_reaper.specs.Reap.{Step}
use Rattle.nc_owner_laws.specs.Kinds.{IsOfOwner}
use Rattle.nc_owner_laws.specs.Reaping.{steps_woven, next_behind}
use Rattle.nc_owner_laws.specs.Sweeping.{IsOfRemovals, IsLoss, SweepsAre}
use Rattle.nc_owner_laws.specs.Weave.{weave, makes, numbered}
use Rattle.nc_history.specs.Packets.{Packet, packet, kind_of, lines_of, pending}
use Rattle.nc_worker_state.specs.Setup.{Setup}
use Rattle.nc_worker_state.specs.Incoming.{Incoming, TakesPacket, ClockReads, Reaps, Posts, Subscribes, Removes, Informs}
use Rattle.nc_worker_state.specs.Deed.{Deed, Does, Makes, told, next_after}
use Rattle.nc_worker_state.specs.Owned.{Holding, step_polls}
use Rattle.nc_worker_state.specs.Desk.{Desk, opening}
use Rattle.nc_worker_state.specs.Worker.{with_at, sent_to, holding, woven, dealt_worker}
use Rattle.nc_world.specs.World.{World, seat, handled_events, handled, pending_in}
use Rattle.nc_world.specs.Moves.{Move, Handles, Carries, Takes, Counts, Rests, counted, rested, ring_size, carried_one, carried, with_ring, taken_events, taken, move_events, moved}
use Rattle.nc_world.specs.Reached.{IsSetup, IsInput, IsMove, Begins, Moves}
use Rattle.nc_world_laws.specs.Good.{Good}
use Rattle.nc_world_laws.proofs.WorkerKinds.{IsBy, IsUntaken, IsOfWorker, AsksOwner, AreDeeds}
use Rattle.nc_world_laws.proofs.Local.{eqb_self, eq_of, either, all_append, all_of}
use Rattle.nc_world_laws.proofs.Taking.{first_pending}
use Rattle.nc_world_laws.proofs.Parts.{owns, serves, before, part, part_made, part_alerts, behind, rest, rest_by, rest_untaken, step_by}
use Rattle.nc_world_laws.proofs.Stepping.{is_me}
use Rattle.nc_world_laws.proofs.Owning.{of_owned}
use Rattle.nc_world_laws.proofs.Serving.{served_well}
use Rattle.nc_world_laws.proofs.Telling.{deeds_do, deeds_make, told_all, told_made, steps_made, by_worker}
use Rattle.nc_world_laws.proofs.Moving.{reached_is_good}
use Rattle.nc_world_holds.specs.Balance.{granted_to, released_by, carries, carried_by, kept_by, brought, IsWholeIncoming, IsWholeLine, AreWhole, HoldsKept, ReachedHolds}
use Rattle.nc_world_holds.proofs.Granting.{grants_to, grants_append, last_matches, woven_matches}
use Rattle.nc_world_holds.proofs.Serving.{served_balances}
use Rattle.nc_world_holds.proofs.Removals.{sweeps_are}
use Rattle.nc_world_holds.proofs.Balancing.{releases_in, released_step, packets_append, step_balances}
use Rattle.nc_world_holds.proofs.Wholeness.{MakesWhole, IsWholeOut, asked_whole, asks_whole, owner_makes, worker_makes, opening_makes, pending_whole, dropped_whole}

sent_append : (x : ℕ) (es fs : List Event) → sent_to x (es ++ fs) ≡ sent_to x es ++ sent_to x fs
sent_append x [] fs = refl
sent_append x (Made v to n a ∷ es) fs = by (x == to) (sent_append x es fs)
  where
    by : (b : Bool) → sent_to x (es ++ fs) ≡ sent_to x es ++ sent_to x fs → cond b (packet n a ∷ sent_to x (es ++ fs)) (sent_to x (es ++ fs)) ≡ cond b (packet n a ∷ sent_to x es) (sent_to x es) ++ sent_to x fs
    by true e = ap (λ (l : List Packet). packet n a ∷ l) e
    by false e = e
sent_append x (e ∷ es) fs = sent_append x es fs

module _ (test : ℕ → ℕ → Bool) where
  releases_append : (o : ℕ) (es fs : List Event) → releases_in test o (es ++ fs) ≡ releases_in test o es + releases_in test o fs
  releases_append o [] fs = omega arith
  releases_append o (Released v owner g slot ∷ es) fs = by ((owner == o) && test g slot) (releases_append o es fs)
    where
      by : (b : Bool) → releases_in test o (es ++ fs) ≡ releases_in test o es + releases_in test o fs → cond b (releases_in test o (es ++ fs) + 1) (releases_in test o (es ++ fs)) ≡ cond b (releases_in test o es + 1) (releases_in test o es) + releases_in test o fs
      by true e = omega (arith, e)
      by false e = e
  releases_append o (e ∷ es) fs = releases_append o es fs

  -- ---- the parts of a step

  makes_release : (o w : ℕ) (next : ℕ → ℕ) (alerts : List OutLine) → releases_in test o (makes w next alerts) ≡ 0
  makes_release o w next [] = refl
  makes_release o w next (a ∷ alerts) = makes_release o w (numbered next a.to) alerts

  weave_releases : (o w v : ℕ) (next : ℕ → ℕ) (es : List Event) (alerts : List OutLine) → AllByRecursion (IsOfOwner v) es → releases_in test o (weave w next es alerts) ≡ 0
  weave_releases o w v next [] alerts of = makes_release o w next alerts
  weave_releases o w v next (Granted u g slot to ∷ es) [] of = weave_releases o w v next es [] of.1
  weave_releases o w v next (Granted u g slot to ∷ es) (a ∷ alerts) of = weave_releases o w v (numbered next a.to) es alerts of.1
  weave_releases o w v next (Released u owner g slot ∷ es) alerts of = absurd of.0
  weave_releases o w v next (e ∷ es) alerts of = weave_releases o w v next es alerts of.1

  -- nothing is granted and nothing released, and what is made carries no hold
  abbrev IsHoldless : Event → Type 0
  IsHoldless (Granted v g slot to) = ⊥
  IsHoldless (Released v owner g slot) = ⊥
  IsHoldless (Made v to n a) = carries test a ≡ 0
  IsHoldless e = Unit {0}

  holdless_grants : (x : ℕ) (es : List Event) → AllByRecursion IsHoldless es → grants_to test x es ≡ 0
  holdless_grants x [] none = refl
  holdless_grants x (Granted v g slot to ∷ es) none = absurd none.0
  holdless_grants x (e ∷ es) none = holdless_grants x es none.1

  holdless_sends : (x : ℕ) (es : List Event) → AllByRecursion IsHoldless es → carried_by test (lines_of (sent_to x es)) ≡ 0
  holdless_sends x [] none = refl
  holdless_sends x (Made v to n a ∷ es) none = by (x == to) (holdless_sends x es none.1)
    where
      by : (b : Bool) → carried_by test (lines_of (sent_to x es)) ≡ 0 → carried_by test (lines_of (cond b (packet n a ∷ sent_to x es) (sent_to x es))) ≡ 0
      by true others = omega (arith, none.0, others)
      by false others = others
  holdless_sends x (e ∷ es) none = holdless_sends x es none.1

  holdless_releases : (o : ℕ) (es : List Event) → AllByRecursion IsHoldless es → releases_in test o es ≡ 0
  holdless_releases o [] none = refl
  holdless_releases o (Released v owner g slot ∷ es) none = absurd none.0
  holdless_releases o (e ∷ es) none = holdless_releases o es none.1

  removal_holdless : (workers w : ℕ) (e : Event) → IsOfRemovals workers w e → IsHoldless e
  removal_holdless workers w (Left v c id slot cause) r = tt
  removal_holdless workers w (Removed v c last cause) r = tt
  removal_holdless workers w e r = absurd r

  loss_holdless : (workers w : ℕ) (a : AlertLine) → IsLoss workers w a → carries test a ≡ 0
  loss_holdless workers w (lines.Gone c subs) l = refl
  loss_holdless workers w a l = absurd l

  -- so are sweeps
  sweeps_holdless : (workers w : ℕ) (next : ℕ → ℕ) (steps : List Step) → SweepsAre workers w steps → AllByRecursion IsHoldless (steps_woven w next steps)
  sweeps_holdless workers w next steps are =
      steps_made IsHoldless (λ a. IsLoss workers w a.line) w (λ n a l. loss_holdless workers w a.line l) next steps
      (all_of (λ x. AllByRecursion (IsOfRemovals workers w) x.events) (λ x. AllByRecursion IsHoldless x.events) (λ x a. all_of (IsOfRemovals workers w) IsHoldless (removal_holdless workers w) x.events a) steps are.events) are.alerts

  told_grants : (workers w x : ℕ) (next : ℕ → ℕ) (deeds : List Deed) → AreDeeds workers w deeds → grants_to test x (told w next deeds) ≡ 0
  told_grants workers w x next [] d = refl
  told_grants workers w x next (Does (Granted v g slot to) ∷ deeds) d = absurd d.0
  told_grants workers w x next (Does e ∷ deeds) d = told_grants workers w x next deeds d.1
  told_grants workers w x next (Makes to a ∷ deeds) d = told_grants workers w x (numbered next to) deeds d.1

  asks_carry : (workers to : ℕ) (a : AlertLine) → AsksOwner workers to a → carries test a ≡ 0
  asks_carry workers to (lines.LookAnswer number q floor found g slot) k = absurd k
  asks_carry workers to (lines.Notice c id g slot) k = absurd k
  asks_carry workers to a k = refl

  told_carries : (workers w x : ℕ) (next : ℕ → ℕ) (deeds : List Deed) → AreDeeds workers w deeds → carried_by test (lines_of (sent_to x (told w next deeds))) ≡ 0
  told_carries workers w x next [] d = refl
  told_carries workers w x next (Does (Made v to n a) ∷ deeds) d = absurd d.0
  told_carries workers w x next (Does e ∷ deeds) d = told_carries workers w x next deeds d.1
  told_carries workers w x next (Makes to a ∷ deeds) d = by (x == to) (asks_carry workers to a d.0) (told_carries workers w x (numbered next to) deeds d.1)
    where
      by : (b : Bool) → carries test a ≡ 0 → carried_by test (lines_of (sent_to x (told w (numbered next to) deeds))) ≡ 0
          → carried_by test (lines_of (cond b (packet (next to) a ∷ sent_to x (told w (numbered next to) deeds)) (sent_to x (told w (numbered next to) deeds)))) ≡ 0
      by true e f = omega (arith, e, f)
      by false e f = f

  opening_grants : (setup : Setup) (w x : ℕ) (incoming : Incoming) (d : Desk) → grants_to test x (opening setup w incoming d) ≡ 0
  opening_grants setup w x (TakesPacket from p) d = refl
  opening_grants setup w x (ClockReads t) d = refl
  opening_grants setup w x Reaps d = refl
  opening_grants setup w x (Posts c body) d = refl
  opening_grants setup w x (Subscribes k list start) d = refl
  opening_grants setup w x (Removes c) d = refl
  opening_grants setup w x (Informs c) d = refl

  opening_sends : (setup : Setup) (w x : ℕ) (incoming : Incoming) (d : Desk) → carried_by test (lines_of (sent_to x (opening setup w incoming d))) ≡ 0
  opening_sends setup w x (TakesPacket from p) d = refl
  opening_sends setup w x (ClockReads t) d = refl
  opening_sends setup w x Reaps d = refl
  opening_sends setup w x (Posts c body) d = refl
  opening_sends setup w x (Subscribes k list start) d = refl
  opening_sends setup w x (Removes c) d = refl
  opening_sends setup w x (Informs c) d = refl

  opening_releases : (setup : Setup) (w o : ℕ) (incoming : Incoming) (d : Desk) → releases_in test o (opening setup w incoming d) ≡ 0
  opening_releases setup w o (TakesPacket from p) d = refl
  opening_releases setup w o (ClockReads t) d = refl
  opening_releases setup w o Reaps d = refl
  opening_releases setup w o (Posts c body) d = refl
  opening_releases setup w o (Subscribes k list start) d = refl
  opening_releases setup w o (Removes c) d = refl
  opening_releases setup w o (Informs c) d = refl

  -- ---- a worker's step in a good world

  module _ (setup : Setup) (is : IsSetup setup) (w : ℕ) (incoming : Incoming) (h : List Event) (world : World) (g : Good setup h world) (whole : IsWholeIncoming incoming) where
    me : (world.workers w).owner.desk.me ≡ w
    me = is_me w setup.workers setup.slots setup.first (world.rows w) (own w h) (world.workers w).owner (g.keeps w).stands

    abbrev seated : Holding
    seated = holding w (seat w world)

    of : AllByRecursion (IsOfOwner w) (owns w incoming world).last.events
    of = (of_owned setup.workers w (step_polls incoming seated) incoming seated me (g.owns w)).1

    -- the sweeps, and what the owner does last
    abbrev swept : List Event
    swept = steps_woven w (world.workers w).next (owns w incoming world).sweeps

    abbrev last : List Event
    last = woven w (next_behind (world.workers w).next (owns w incoming world).sweeps) (owns w incoming world).last

    swept_holdless : AllByRecursion IsHoldless swept
    swept_holdless = sweeps_holdless setup.workers w (world.workers w).next (owns w incoming world).sweeps (sweeps_are setup.workers w (step_polls incoming seated) incoming seated me (g.owns w))

    well : AreDeeds setup.workers w (serves setup w incoming world).deeds
    well = (served_well setup is w incoming (world.workers w).desk (g.knows w)).0

    abbrev next : ℕ → ℕ
    next = next_after (world.workers w).next (part w incoming world)

    part_sends : (x : ℕ) → carried_by test (lines_of (sent_to x (part w incoming world))) ≡ grants_to test x (part w incoming world)
    part_sends x =
        let a = grants_append test x swept last in
        let b = ap (λ (ps : List Packet). carried_by test (lines_of ps)) (sent_append x swept last) ∙ packets_append test (sent_to x swept) (sent_to x last) in
        let c = woven_matches test x w w (next_behind (world.workers w).next (owns w incoming world).sweeps) (owns w incoming world).last of (last_matches test x (step_polls incoming seated) incoming seated) in
        omega (arith, a, b, c, holdless_grants x swept swept_holdless, holdless_sends x swept swept_holdless)

    part_releases : (o : ℕ) → releases_in test o (part w incoming world) ≡ 0
    part_releases o =
        omega (arith, releases_append o swept last, holdless_releases o swept swept_holdless, weave_releases o w w (next_behind (world.workers w).next (owns w incoming world).sweeps) (owns w incoming world).last.events (owns w incoming world).last.alerts of)

    -- behind what opens it
    rest_sends : (x : ℕ) → grants_to test x (rest setup w incoming world) ≡ carried_by test (lines_of (sent_to x (rest setup w incoming world)))
    rest_sends x =
        let a = grants_append test x (part w incoming world) (behind setup w incoming world) in
        let b = told_grants setup.workers w x next (serves setup w incoming world).deeds well in
        let c = told_carries setup.workers w x next (serves setup w incoming world).deeds well in
        let d = ap (λ (ps : List Packet). carried_by test (lines_of ps)) (sent_append x (part w incoming world) (behind setup w incoming world)) ∙ packets_append test (sent_to x (part w incoming world)) (sent_to x (behind setup w incoming world)) in
        omega (arith, a, b, c, d, part_sends x)

    behind_keeps : (o : ℕ) → releases_in test o (behind setup w incoming world) + kept_by test o (serves setup w incoming world).after.spools.kept ≡ brought test o incoming + kept_by test o (world.workers w).desk.spools.kept
    behind_keeps o =
        let a = served_balances test setup o w incoming next (world.workers w).desk [] whole in
        let b = released_step test o w w (behind setup w incoming world) [] (told_by next (serves setup w incoming world).deeds well) in
        let c = self_case (w == w) (releases_in test o (behind setup w incoming world)) (eqb_self w) in
        omega (arith, a, b, c)
      where
        self_case : (b : Bool) (n : ℕ) → b ≡ true → cond b n 0 ≡ n
        self_case true n e = refl
        self_case false n e = absurd cc

        worker_by : (e : Event) → IsOfWorker w e → IsBy w e
        worker_by = by_worker w

        told_by : (next : ℕ → ℕ) (deeds : List Deed) → AreDeeds setup.workers w deeds → AllByRecursion (IsBy w) (told w next deeds)
        told_by next deeds d = told_all (IsBy w) w next (λ to n a. eqb_self w) deeds (deeds_do setup.workers w (IsBy w) worker_by deeds d)

    rest_keeps : (o : ℕ) → releases_in test o (rest setup w incoming world) + kept_by test o (serves setup w incoming world).after.spools.kept ≡ brought test o incoming + kept_by test o (world.workers w).desk.spools.kept
    rest_keeps o =
        let a = releases_append o (part w incoming world) (behind setup w incoming world) in
        let b = part_releases o in
        let c = behind_keeps o in
        omega (arith, a, b, c)

    -- the whole step
    step_sends : (x : ℕ) → grants_to test x (handled_events setup w incoming world) ≡ carried_by test (lines_of (sent_to x (handled_events setup w incoming world)))
    step_sends x =
        let first = before setup w incoming world in
        let second = part w incoming world in
        let third = behind setup w incoming world in
        let a = grants_append test x (first ++ second) third in
        let b = grants_append test x first second in
        let c = told_grants setup.workers w x next (serves setup w incoming world).deeds well in
        let d = told_carries setup.workers w x next (serves setup w incoming world).deeds well in
        let e = opening_grants setup w x incoming (world.workers w).desk in
        let f = opening_sends setup w x incoming (world.workers w).desk in
        let i = ap (λ (ps : List Packet). carried_by test (lines_of ps)) (sent_append x (first ++ second) third ∙ ap (λ (ps : List Packet). ps ++ sent_to x third) (sent_append x first second)) in
        let j = packets_append test (sent_to x first ++ sent_to x second) (sent_to x third) in
        let k = packets_append test (sent_to x first) (sent_to x second) in
        omega (arith, a, b, c, d, e, f, i, j, k, part_sends x)

    step_keeps : (o : ℕ) → releases_in test o (handled_events setup w incoming world) + kept_by test o (serves setup w incoming world).after.spools.kept ≡ brought test o incoming + kept_by test o (world.workers w).desk.spools.kept
    step_keeps o =
        let first = before setup w incoming world in
        let second = part w incoming world in
        let third = behind setup w incoming world in
        let a = releases_append o (first ++ second) third in
        let b = releases_append o first second in
        let c = part_releases o in
        let d = opening_releases setup w o incoming (world.workers w).desk in
        omega (arith, a, b, c, d, behind_keeps o)

-- ---- what a step makes is whole

module _ (setup : Setup) (is : IsSetup setup) (w : ℕ) (incoming : Incoming) (h : List Event) (world : World) (g : Good setup h world) where
  deeds_step : AreDeeds setup.workers w (serves setup w incoming world).deeds
  deeds_step = (served_well setup is w incoming (world.workers w).desk (g.knows w)).0

  part_whole : AllByRecursion MakesWhole (part w incoming world)
  part_whole = part_made setup is w incoming h world g MakesWhole IsWholeOut (owner_makes w) (λ n o q. q)
      (part_alerts setup is w incoming h world g IsWholeOut (λ from p e. asked_whole (step_polls incoming (holding w (seat w world))).publish from p.line (holding w (seat w world))) (λ c subs to mine. tt))

  rest_whole : AllByRecursion MakesWhole (rest setup w incoming world)
  rest_whole = all_append MakesWhole (part w incoming world) (behind setup w incoming world)
      part_whole
      (told_made MakesWhole (AsksOwner setup.workers) w (next_after (world.workers w).next (part w incoming world)) (λ to n a q. asks_whole setup.workers to a q) (serves setup w incoming world).deeds (deeds_do setup.workers w MakesWhole (worker_makes w) (serves setup w incoming world).deeds deeds_step) (deeds_make setup.workers w (serves setup w incoming world).deeds deeds_step))

  step_whole : AllByRecursion MakesWhole (handled_events setup w incoming world)
  step_whole = all_append MakesWhole (before setup w incoming world ++ part w incoming world) (behind setup w incoming world)
      (all_append MakesWhole (before setup w incoming world) (part w incoming world) (opening_makes setup w incoming (world.workers w).desk) part_whole)
      (told_made MakesWhole (AsksOwner setup.workers) w (next_after (world.workers w).next (part w incoming world)) (λ to n a q. asks_whole setup.workers to a q) (serves setup w incoming world).deeds (deeds_do setup.workers w MakesWhole (worker_makes w) (serves setup w incoming world).deeds deeds_step) (deeds_make setup.workers w (serves setup w incoming world).deeds deeds_step))

-- ---- the kinds of move

opening_untaken : (setup : Setup) (w : ℕ) (incoming : Incoming) (h : List Event) (d : Desk) → IsInput w h incoming → AllByRecursion IsUntaken (opening setup w incoming d)
opening_untaken setup w (TakesPacket from p) h d i = absurd i
opening_untaken setup w (ClockReads t) h d i = (tt, tt)
opening_untaken setup w Reaps h d i = tt
opening_untaken setup w (Posts c body) h d i = (tt, tt)
opening_untaken setup w (Subscribes k list start) h d i = (tt, tt)
opening_untaken setup w (Removes c) h d i = (tt, tt)
opening_untaken setup w (Informs c) h d i = (tt, tt)

input_whole : (w : ℕ) (incoming : Incoming) (h : List Event) → IsInput w h incoming → IsWholeIncoming incoming
input_whole w (TakesPacket from p) h i = absurd i
input_whole w (ClockReads t) h i = tt
input_whole w Reaps h i = tt
input_whole w (Posts c body) h i = tt
input_whole w (Subscribes k list start) h i = tt
input_whole w (Removes c) h i = tt
input_whole w (Informs c) h i = tt

nothing_brought : (test : ℕ → ℕ → Bool) (o w : ℕ) (incoming : Incoming) (h : List Event) → IsInput w h incoming → brought test o incoming ≡ 0
nothing_brought test o w (TakesPacket from p) h i = absurd i
nothing_brought test o w (ClockReads t) h i = refl
nothing_brought test o w Reaps h i = refl
nothing_brought test o w (Posts c body) h i = refl
nothing_brought test o w (Subscribes k list start) h i = refl
nothing_brought test o w (Removes c) h i = refl
nothing_brought test o w (Informs c) h i = refl

module _ (setup : Setup) (is : IsSetup setup) where
  input_holds : (w : ℕ) (incoming : Incoming) (h : List Event) (world : World) → Good setup h world → IsInput w h incoming → HoldsKept h world → HoldsKept (onto (handled_events setup w incoming world) h) (handled setup w incoming world)
  input_holds w incoming h world g i k =
      let es = handled_events setup w incoming world in
      let mine = step_by setup is w incoming h world g in
      let untaken : AllByRecursion IsUntaken es = all_append IsUntaken (before setup w incoming world ++ part w incoming world) (behind setup w incoming world)
      (all_append IsUntaken (before setup w incoming world) (part w incoming world) (opening_untaken setup w incoming h (world.workers w).desk i) (front_untaken (rest_untaken setup is w incoming h world g)))
      (back_untaken (rest_untaken setup is w incoming h world g)) in
      record {
        balanced = λ test o x. step_balances test w (λ n. brought test n incoming) es h world (dealt_worker es (owns w incoming world) (serves setup w incoming world) (world.workers w))
            (record { by = mine; untaken = untaken; sends = step_sends test setup is w incoming h world g (input_whole w incoming h i); keeps = step_keeps test setup is w incoming h world g (input_whole w incoming h i) })
            (λ n y. none_more (w == y) (k.balanced test n y) (nothing_brought test n w incoming h i)) o x;
        whole = λ v y. pending_whole w v y es h mine untaken (step_whole setup is w incoming h world g) (k.whole v y);
      }
    where
      none_more : (b : Bool) {a c : ℕ} {n : ℕ} → a ≡ c → n ≡ 0 → a ≡ c + cond b n 0
      none_more true e f = omega (arith, e, f)
      none_more false e f = omega (arith, e)

      split : (P : Event → Type 0) (xs ys : List Event) → AllByRecursion P (xs ++ ys) → AllByRecursion P xs × AllByRecursion P ys
      split P [] ys a = (tt, a)
      split P (x ∷ xs) ys a = let r = split P xs ys a.1 in ((a.0, r.0), r.1)

      front_untaken : AllByRecursion IsUntaken (rest setup w incoming world) → AllByRecursion IsUntaken (part w incoming world)
      front_untaken a = (split IsUntaken (part w incoming world) (behind setup w incoming world) a).0

      back_untaken : AllByRecursion IsUntaken (rest setup w incoming world) → AllByRecursion IsUntaken (behind setup w incoming world)
      back_untaken a = (split IsUntaken (part w incoming world) (behind setup w incoming world) a).1

  -- a packet is taken
  module _ (w v : ℕ) (p : Packet) (ps : List Packet) (h : List Event) (world : World) (there : v < setup.workers) (at : world.rings v w ≡ p ∷ ps) (g : Good setup h world) (k : HoldsKept h world) where
    abbrev took : Event
    took = Took w v p.number (kind_of p.line)

    first_whole : IsWholeLine p.line
    first_whole = (subst AreWhole (first_pending setup w v p ps h world g at) (k.whole v w)).0

    -- what is pending, without the packet, and what the packet carries
    came_case : (test : ℕ → ℕ → Bool) (b c : Bool) (q : List Packet) → ((b && c) ≡ true → q ≡ (p ∷ ps) ++ (world.workers v).outbox w)
        → carried_by test (lines_of q) ≡ carried_by test (lines_of (cond (b && c) (drop 1 q) q)) + cond c (cond b (carries test p.line) 0) 0
    came_case test true true q e =
        let a = ap (λ (l : List Packet). carried_by test (lines_of l)) (e refl) in
        let b = ap (λ (l : List Packet). carried_by test (lines_of (drop 1 l))) (e refl) in
        omega (arith, a, b)
    came_case test true false q e = omega arith
    came_case test false true q e = omega arith
    came_case test false false q e = omega arith

    both : (a b : Bool) → (a && b) ≡ true → (a ≡ true) × (b ≡ true)
    both true true e = (refl, refl)
    both true false e = absurd cc
    both false b e = absurd cc

    taken_before : (test : ℕ → ℕ → Bool) (o x : ℕ) → granted_to test o x (took ∷ h) ≡ released_by test o x (took ∷ h) + carried_by test (lines_of (pending o x (took ∷ h))) + kept_by test o (world.workers x).desk.spools.kept + cond (w == x) (brought test o (TakesPacket v p)) 0
    taken_before test o x =
        let first : ((o == v) && (x == w)) ≡ true → pending o x h ≡ (p ∷ ps) ++ (world.workers v).outbox w
        = λ e. let q = both (o == v) (x == w) e in subst (λ (z : ℕ × ℕ). pending z.0 z.1 h ≡ (p ∷ ps) ++ (world.workers v).outbox w) (λ i. (sym (eq_of o v q.0) i, sym (eq_of x w q.1) i)) (first_pending setup w v p ps h world g at) in
        let came = came_case test (o == v) (x == w) (pending o x h) first in
        let turn : cond (x == w) (cond (o == v) (carries test p.line) 0) 0 ≡ cond (w == x) (cond (v == o) (carries test p.line) 0) 0
        = λ i. cond (turned_eq x w i) (cond (turned_eq o v i) (carries test p.line) 0) 0 in
        omega (arith, k.balanced test o x, came, turn)
      where
        turned_eq : (a b : ℕ) → (a == b) ≡ (b == a)
        turned_eq a b = grind (arith, nat_tests)

    packet_holds : HoldsKept (onto (handled_events setup w (TakesPacket v p) world) h) (handled setup w (TakesPacket v p) (with_ring v w ps world))
    packet_holds =
        let incoming = TakesPacket v p in
        let es = rest setup w incoming world in
        record {
          balanced = λ test o x. step_balances test w (λ n. brought test n incoming) es (took ∷ h) world (dealt_worker (handled_events setup w incoming world) (owns w incoming world) (serves setup w incoming world) (world.workers w))
              (record { by = rest_by setup is w incoming h world g; untaken = rest_untaken setup is w incoming h world g; sends = rest_sends test setup is w incoming h world g first_whole; keeps = rest_keeps test setup is w incoming h world g first_whole })
              (taken_before test) o x;
          whole = λ x y. pending_whole w x y es (took ∷ h) (rest_by setup is w incoming h world g) (rest_untaken setup is w incoming h world g) (rest_whole setup is w incoming h world g)
              (dropped_whole ((x == v) && (y == w)) (pending x y h) (k.whole x y));
        }

  taken_holds : (w v : ℕ) (ring : List Packet) (h : List Event) (world : World) → v < setup.workers → world.rings v w ≡ ring → Good setup h world → HoldsKept h world → HoldsKept (onto (taken_events setup w v ring world) h) (taken setup w v ring world)
  taken_holds w v [] h world there at g k = k
  taken_holds w v (p ∷ ps) h world there at g k = packet_holds w v p ps h world there at g k

  -- ---- moves that tell nothing of holds

  carried_holds : (w v : ℕ) (outbox : List Packet) (h : List Event) (world : World) → HoldsKept h world → HoldsKept h (carried w v outbox world)
  carried_holds w v [] h world k = k
  carried_holds w v (p ∷ ps) h world k = either (HoldsKept h) (nat_lt (length (world.rings w v)) ring_size) (carried_one w v p ps world) world
      (record {
        balanced = λ test o x. k.balanced test o x ∙ ap (λ n. released_by test o x h + carried_by test (lines_of (pending o x h)) + n) (same_kept test o x (x == w) refl);
        whole = k.whole;
      }) k
    where
      same_kept : (test : ℕ → ℕ → Bool) (o x : ℕ) (b : Bool) → (x == w) ≡ b → kept_by test o (world.workers x).desk.spools.kept ≡ kept_by test o (cond b (record (world.workers w) { outbox = with_at (world.workers w).outbox v ps }) (world.workers x)).desk.spools.kept
      same_kept test o x true e = ap (λ (z : ℕ). kept_by test o (world.workers z).desk.spools.kept) (eq_of x w e)
      same_kept test o x false e = refl

  counts_holds : (n : ℕ) (h : List Event) (world : World) → HoldsKept h world → HoldsKept (onto (counted n) h) world
  counts_holds zero h world k = record { balanced = k.balanced; whole = k.whole }
  counts_holds (suc n) h world k = record { balanced = k.balanced; whole = k.whole }

  rests_holds : (n : ℕ) (h : List Event) (world : World) → HoldsKept h world → HoldsKept (onto (rested n) h) world
  rests_holds zero h world k = record { balanced = k.balanced; whole = k.whole }
  rests_holds (suc n) h world k = k

  pub move_holds : (m : Move) (h : List Event) (world : World) → Good setup h world → IsMove setup h m → HoldsKept h world → HoldsKept (onto (move_events setup m world) h) (moved setup m world)
  move_holds (Handles w incoming) h world g i k = input_holds w incoming h world g i.1 k
  move_holds (Carries w v) h world g i k = carried_holds w v ((world.workers w).outbox v) h world k
  move_holds (Takes w v) h world g i k = taken_holds w v (world.rings v w) h world i.1 refl g k
  move_holds Counts h world g i k = counts_holds (pending_in setup world) h world k
  move_holds Rests h world g i k = rests_holds (pending_in setup world) h world k

pub reached_holds : ReachedHolds
reached_holds setup h world is Begins = record { balanced = λ test o w. refl; whole = λ v w. tt }
reached_holds setup h world is (Moves before last m r i) = move_holds setup is m before last (reached_is_good setup before last is r) i (reached_holds setup before last is r)
