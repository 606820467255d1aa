-- The owners' steps stand in the journal of a script.
use Rattle.std.proofs.Common.{◌≡◌, ℕ, zero, suc, Bool, true, false, cond, List, [], ◌∷◌, ◌++◌, Option, Some, None, refl, sym, ap, ◌∙◌, subst}
use Rattle.std.specs.Prelude.{◌==◌}
use Rattle.std.specs.List.{AllByRecursion}
use Rattle.std.proofs.lemmas.List.{append-nil}
use Rattle.nc_journal.specs.History.{onto}
use Rattle.nc_journal.specs.declared.event.Event.{Event}
use Rattle.nc_journal.specs.declared.event.Event.TheVariants.{Clock, Asked, Subscribed, Joined, Parted, Raised, Stored, Left, Looked, Edged, Granted, Freed, Removed, Took, Pending, Quiet}
use Rattle.nc_journal.specs.declared.alert.AlertLine.{AlertLine}
use Rattle.nc_journal.specs.declared.alert.AlertLine.TheVariants as lines
use Rattle.nc_history.specs.Packets.{Packet, packet, kind_of}
use Rattle.nc_history.specs.Steps.{AtEachStep, AtEachStepOf, joined}
use Rattle.nc_worker_state.specs.Setup.{Setup}
use Rattle.nc_worker_state.specs.Incoming.{Incoming, TakesPacket, ClockReads, Reaps, Posts, Subscribes, Removes, Informs}
use Rattle.nc_worker_state.specs.Deed.{Deed, told}
use Rattle.nc_worker_state.specs.Spooled.{releases}
use Rattle.nc_worker_state.specs.Owned.{owned}
use Rattle.nc_worker_state.specs.Worker.{holding, part_woven}
use Rattle.nc_world.specs.World.{World, seat, handled_events, pending_in}
use Rattle.nc_world.specs.Moves.{Move, Handles, Carries, Takes, Counts, Rests, counted, rested, taken_events, move_events, moved}
use Rattle.nc_world.specs.Lines.{Line, Blank, Clocks, Reap, Carry, Take, Settle, Post, Poll, Remove, Inform, round, does, first_turn, turn_with, settle_moves, events_of, moves_of, lines_world, journal_of}
use Rattle.nc_world.specs.OwnersRule.{IsToldOwner, IsOwnersStep, IsNoOwners, AreNoOwners, IsStepOf, IsStepOfFirst, StepAt}
use Rattle.nc_world.specs.Reached.{IsSetup, IsInput, IsMove, Reached, Moves}
use Rattle.nc_world.specs.Laws.{CanMove}
use Rattle.nc_world_laws.specs.Good.{Good}
use Rattle.nc_world_laws.proofs.WorkerKinds.{IsOfWorker, AreDeeds}
use Rattle.nc_world_laws.proofs.Telling.{told_all, deeds_do}
use Rattle.nc_world_laws.proofs.Moving.{reached_is_good}
use Rattle.nc_world_laws.proofs.Parts.{serves, part, rest, rest_all}
use Rattle.nc_world_laws.proofs.Serving.{served_well}
use Rattle.nc_world_laws.proofs.Taking.{first_pending}
use Rattle.nc_world_holds.proofs.Counting.{reached_counts}
use Rattle.nc_world_follows.specs.Fitting.{AreFit}
use Rattle.nc_world_follows.specs.Laws.{IsBusy, FitLinesReach, OwnersRuleHolds}
use Rattle.nc_world_follows.proofs.Busy.{reached_is_busy}
use Rattle.nc_world_follows.proofs.Fitting.{IsTurn, FirstCan, first_can, round_turns, line_can}
use Rattle.nc_world_follows.proofs.Steps.{IsInner, inner_owner, inner_worker, IsCut, cut_append, cut_inner, cut_step}

no_owners : (me : ℕ) (e : Event) → IsOfWorker me e → IsNoOwners e
no_owners me (Joined w c from k) p = absurd p
no_owners me (Parted w c from k) p = absurd p
no_owners me (Raised w t) p = absurd p
no_owners me (Stored w c id slot len exp kept members from r ct body) p = absurd p
no_owners me (Left w c id slot cause) p = absurd p
no_owners me (Looked w q from number c after floor found) p = absurd p
no_owners me (Edged w q from number k c floor last) p = absurd p
no_owners me (Granted w g slot to) p = absurd p
no_owners me (Freed w slot) p = absurd p
no_owners me (Removed w c last cause) p = absurd p
no_owners me e p = tt

-- inside a step nothing more is told
inner_step : (setup : Setup) (h : List Event) (e : Event) (es : List Event) → IsInner e → StepAt setup h e es
inner_step setup h (Took w from n kind) es i = absurd cc
inner_step setup h (Clock w t) es i = absurd cc
inner_step setup h (Asked w r None act list status rule) es i = absurd cc
inner_step setup h (Asked w r (Some x) act list status rule) es i = tt
inner_step setup h (Subscribed w k None list mode start timeout close) es i = absurd cc
inner_step setup h (Subscribed w k (Some x) list mode start timeout close) es i = tt
inner_step setup h (Pending n) es i = absurd cc
inner_step setup h Quiet es i = absurd cc
inner_step setup h e es i = tt

module _ (setup : Setup) (is : IsSetup setup) (h : List Event) (world : World) (r : Reached setup h world) where
  good : Good setup h world
  good = reached_is_good setup h world is r

  busy : IsBusy world
  busy = reached_is_busy setup h world r

  pub told_owner : (w : ℕ) → IsToldOwner setup w h (holding w (seat w world))
  told_owner w = record { tells = (good.keeps w).stands.tells; fits = (good.keeps w).stands.fits; counts = (reached_counts setup h world is r).each w }

  -- where a worker does nothing beside its owner, its step is the owner's
  pub owners_step : (w : ℕ) (incoming : Incoming) (es : List Event) → es ≡ part w incoming world → IsOwnersStep setup w incoming h es
  owners_step w incoming es same = record {
    owner = holding w (seat w world);
    told = told_owner w;
    same = same ∙ ap (λ (n : ℕ → ℕ). part_woven w n (owned incoming (holding w (seat w world)))) (λ i to. good.follow w to i);
  }

  -- the releases of a worker that keeps only what it uses
  unreleased : (w : ℕ) (next : ℕ → ℕ) (es : List Event) → es ++ told w next (releases w (world.workers w).desk.spools) ≡ es
  unreleased w next es = ap (λ (deeds : List Deed). es ++ told w next deeds) (busy w) ∙ append-nil es

  module _ (w : ℕ) where
    deeds_well : (incoming : Incoming) → AreDeeds setup.workers w (serves setup w incoming world).deeds
    deeds_well incoming = (served_well setup is w incoming (world.workers w).desk (good.knows w)).0

    others_step : (incoming : Incoming) (next : ℕ → ℕ) → AreNoOwners (told w next (serves setup w incoming world).deeds)
    others_step incoming next = told_all IsNoOwners w next (λ to n a. tt) (serves setup w incoming world).deeds (deeds_do setup.workers w IsNoOwners (no_owners w) (serves setup w incoming world).deeds (deeds_well incoming))

    pub rest_inner : (incoming : Incoming) → AllByRecursion IsInner (rest setup w incoming world)
    rest_inner incoming = rest_all setup is w incoming h world good IsInner (inner_owner w) (inner_worker w) (λ to n a. refl)

    pub told_inner : (incoming : Incoming) (next : ℕ → ℕ) → AllByRecursion IsInner (told w next (serves setup w incoming world).deeds)
    told_inner incoming next = told_all IsInner w next (λ to n a. refl) (serves setup w incoming world).deeds (deeds_do setup.workers w IsInner (inner_worker w) (serves setup w incoming world).deeds (deeds_well incoming))

    step_of : (from n : ℕ) (line : AlertLine) → IsStepOf setup w from n line h (rest setup w (TakesPacket from (packet n line)) world)
    step_of from n (lines.Publish r c len timeout ct body) = owners_step w (TakesPacket from (packet n (lines.Publish r c len timeout ct body))) _ (unreleased w _ _)
    step_of from n (lines.Look number c after fence) = owners_step w (TakesPacket from (packet n (lines.Look number c after fence))) _ (unreleased w _ _)
    step_of from n (lines.Edge number k c fence) = owners_step w (TakesPacket from (packet n (lines.Edge number k c fence))) _ (unreleased w _ _)
    step_of from n (lines.Join c k) = owners_step w (TakesPacket from (packet n (lines.Join c k))) _ (unreleased w _ _)
    step_of from n (lines.Part c k) = owners_step w (TakesPacket from (packet n (lines.Part c k))) _ (unreleased w _ _)
    step_of from n (lines.Delete r c) = owners_step w (TakesPacket from (packet n (lines.Delete r c))) _ (unreleased w _ _)
    step_of from n (lines.Info r c) = owners_step w (TakesPacket from (packet n (lines.Info r c))) _ (unreleased w _ _)
    step_of from n (lines.PubAnswer r status info full) = others_step (TakesPacket from (packet n (lines.PubAnswer r status info full))) (world.workers w).next
    step_of from n (lines.LookAnswer number q floor found g slot) = others_step (TakesPacket from (packet n (lines.LookAnswer number q floor found g slot))) (world.workers w).next
    step_of from n (lines.Notice c id g slot) = others_step (TakesPacket from (packet n (lines.Notice c id g slot))) (world.workers w).next
    step_of from n (lines.InfoAnswer r status info) = others_step (TakesPacket from (packet n (lines.InfoAnswer r status info))) (world.workers w).next
    step_of from n (lines.EdgeAnswer number q floor last) = others_step (TakesPacket from (packet n (lines.EdgeAnswer number q floor last))) (world.workers w).next
    step_of from n (lines.DelAnswer r status info) = others_step (TakesPacket from (packet n (lines.DelAnswer r status info))) (world.workers w).next
    step_of from n (lines.Gone c subs) = others_step (TakesPacket from (packet n (lines.Gone c subs))) (world.workers w).next

    taken_cut : (v : ℕ) (ring : List Packet) → world.rings v w ≡ ring → AtEachStep (StepAt setup) h (taken_events setup w v ring world)
    taken_cut v [] at = tt
    taken_cut v (p ∷ ps) at = cut_step (StepAt setup) (inner_step setup) (Took w v p.number (kind_of p.line)) (rest setup w (TakesPacket v p) world) h (rest_inner (TakesPacket v p))
        (subst (λ (q : List Packet). IsStepOfFirst setup w v q h (rest setup w (TakesPacket v p) world)) (sym (first_pending setup w v p ps h world good at)) (step_of v p.number p.line))

    input_cut : (incoming : Incoming) → IsInput w h incoming → AtEachStep (StepAt setup) h (handled_events setup w incoming world)
    input_cut (TakesPacket from p) i = absurd i
    input_cut (ClockReads t) i = cut_step (StepAt setup) (inner_step setup) (Clock w t) (told w (world.workers w).next (serves setup w (ClockReads t) world).deeds) h (told_inner (ClockReads t) (world.workers w).next) (others_step (ClockReads t) (world.workers w).next)
    input_cut Reaps i = cut_inner (StepAt setup) (inner_step setup) (rest setup w Reaps world) h (rest_inner Reaps)
    input_cut (Posts c body) i = cut_step (StepAt setup) (inner_step setup) _ (told w (world.workers w).next (serves setup w (Posts c body) world).deeds) h (told_inner (Posts c body) (world.workers w).next) (others_step (Posts c body) (world.workers w).next)
    input_cut (Subscribes k list start) i = cut_step (StepAt setup) (inner_step setup) _ (told w (world.workers w).next (serves setup w (Subscribes k list start) world).deeds) h (told_inner (Subscribes k list start) (world.workers w).next) (others_step (Subscribes k list start) (world.workers w).next)
    input_cut (Removes c) i = cut_step (StepAt setup) (inner_step setup) _ (told w (world.workers w).next (serves setup w (Removes c) world).deeds) h (told_inner (Removes c) (world.workers w).next) (others_step (Removes c) (world.workers w).next)
    input_cut (Informs c) i = cut_step (StepAt setup) (inner_step setup) _ (told w (world.workers w).next (serves setup w (Informs c) world).deeds) h (told_inner (Informs c) (world.workers w).next) (others_step (Informs c) (world.workers w).next)

  counts_cut : (n : ℕ) → AtEachStep (StepAt setup) h (counted n)
  counts_cut zero = (refl, tt)
  counts_cut (suc n) = (refl, tt)

  rests_cut : (n : ℕ) → AtEachStep (StepAt setup) h (rested n)
  rests_cut zero = (refl, tt)
  rests_cut (suc n) = tt

  move_cut : (m : Move) → IsMove setup h m → AtEachStep (StepAt setup) h (move_events setup m world)
  move_cut (Handles w incoming) i = input_cut w incoming i.1
  move_cut (Carries w v) i = tt
  move_cut (Takes w v) i = taken_cut w v (world.rings v w) refl
  move_cut Counts i = counts_cut (pending_in setup world)
  move_cut Rests i = rests_cut (pending_in setup world)

-- ---- moves of a line

-- a reap alone has no event with which its step begins, and it is the first move of its line
abbrev BeginsAll : List Move → Type 0
BeginsAll [] = Unit {0}
BeginsAll (Handles w incoming ∷ ms) = ⊥
BeginsAll (m ∷ ms) = BeginsAll ms

taken_is_cut : (setup : Setup) (w v : ℕ) (ring : List Packet) (world : World) → IsCut (taken_events setup w v ring world)
taken_is_cut setup w v [] world = tt
taken_is_cut setup w v (p ∷ ps) world = refl

counted_is_cut : (n : ℕ) → IsCut (counted n)
counted_is_cut zero = refl
counted_is_cut (suc n) = refl

rested_is_cut : (n : ℕ) → IsCut (rested n)
rested_is_cut zero = refl
rested_is_cut (suc n) = tt

both_cut : (es fs : List Event) → IsCut es → IsCut fs → IsCut (es ++ fs)
both_cut [] fs a b = b
both_cut (e ∷ es) fs a b = a

all_cut : (setup : Setup) (ms : List Move) (world : World) → BeginsAll ms → IsCut (events_of setup ms world)
all_cut setup [] world b = tt
all_cut setup (Handles w incoming ∷ ms) world b = absurd b
all_cut setup (Carries w v ∷ ms) world b = all_cut setup ms (moved setup (Carries w v) world) b
all_cut setup (Takes w v ∷ ms) world b = both_cut (taken_events setup w v (world.rings v w) world) (events_of setup ms (moved setup (Takes w v) world)) (taken_is_cut setup w v (world.rings v w) world) (all_cut setup ms (moved setup (Takes w v) world) b)
all_cut setup (Counts ∷ ms) world b = both_cut (counted (pending_in setup world)) (events_of setup ms world) (counted_is_cut (pending_in setup world)) (all_cut setup ms world b)
all_cut setup (Rests ∷ ms) world b = both_cut (rested (pending_in setup world)) (events_of setup ms world) (rested_is_cut (pending_in setup world)) (all_cut setup ms world b)

begins_more : (ms ns : List Move) → BeginsAll ms → BeginsAll ns → BeginsAll (ms ++ ns)
begins_more [] ns a b = b
begins_more (Handles w incoming ∷ ms) ns a b = absurd a
begins_more (Carries w v ∷ ms) ns a b = begins_more ms ns a b
begins_more (Takes w v ∷ ms) ns a b = begins_more ms ns a b
begins_more (Counts ∷ ms) ns a b = begins_more ms ns a b
begins_more (Rests ∷ ms) ns a b = begins_more ms ns a b

turn_begins : (setup : Setup) (m : Move) (ms : List Move) → IsTurn setup m → BeginsAll ms → BeginsAll (m ∷ ms)
turn_begins setup (Handles w incoming) ms i b = absurd i
turn_begins setup (Carries w v) ms i b = b
turn_begins setup (Takes w v) ms i b = b
turn_begins setup Counts ms i b = absurd i
turn_begins setup Rests ms i b = absurd i

settle_begins : (setup : Setup) (n : ℕ) (turns : List Move) (world : World) → AllByRecursion (IsTurn setup) turns → BeginsAll (settle_moves setup n turns world)
settle_begins setup zero turns world a = tt
settle_begins setup (suc n) turns world a = by (pending_in setup world == 0) (first_turn (does world) [] turns) (first_can setup (does world) turns [] tt a) (λ rest m b. settle_begins setup n rest (moved setup m world) b)
  where
    by : (b : Bool) (o : Option (Move × List Move)) → FirstCan setup o → ((rest : List Move) (m : Move) → AllByRecursion (IsTurn setup) rest → BeginsAll (settle_moves setup n rest (moved setup m world)))
        → BeginsAll (cond b [] (turn_with o (λ m rest. settle_moves setup n rest (moved setup m world))))
    by true o f go = tt
    by false None f go = tt
    by false (Some turn) f go = turn_begins setup turn.0 _ f.0 (go turn.1 turn.0 f.1)

abbrev TailBegins : List Move → Type 0
TailBegins [] = Unit {0}
TailBegins (m ∷ ms) = BeginsAll ms

all_tail : (ms : List Move) → BeginsAll ms → TailBegins ms
all_tail [] b = tt
all_tail (Handles w incoming ∷ ms) b = absurd b
all_tail (Carries w v ∷ ms) b = b
all_tail (Takes w v ∷ ms) b = b
all_tail (Counts ∷ ms) b = b
all_tail (Rests ∷ ms) b = b

line_tail : (setup : Setup) (line : Line) (world : World) → TailBegins (moves_of setup line world)
line_tail setup Blank world = tt
line_tail setup (Clocks w t) world = tt
line_tail setup (Reap w) world = tt
line_tail setup (Carry w v) world = tt
line_tail setup (Take w v) world = tt
line_tail setup (Settle n) world = all_tail (settle_moves setup n (round setup.workers) world ++ Counts ∷ []) (begins_more (settle_moves setup n (round setup.workers) world) (Counts ∷ []) (settle_begins setup n (round setup.workers) world (round_turns setup)) tt)
line_tail setup (Post w c body) world = tt
line_tail setup (Poll w k list start) world = tt
line_tail setup (Remove w c) world = tt
line_tail setup (Inform w c) world = tt

-- what holds at each step of each move that can be made holds at each step of a script's journal
module _ (setup : Setup) (P : List Event → Event → List Event → Type 0) (each : (m : Move) (h : List Event) (world : World) → Reached setup h world → IsMove setup h m → AtEachStep P h (move_events setup m world)) where
  moves_cut : (ms : List Move) (h : List Event) (world : World) → Reached setup h world → CanMove setup ms h world → TailBegins ms → AtEachStep P h (events_of setup ms world)
  moves_cut [] h world r can b = tt
  moves_cut (m ∷ ms) h world r can b = cut_append P (move_events setup m world) (events_of setup ms (moved setup m world)) h (all_cut setup ms (moved setup m world) b) (each m h world r can.0)
      (moves_cut ms (onto (move_events setup m world) h) (moved setup m world) (Moves h world m r can.0) can.1 (all_tail ms b))

  pub lines_cut : FitLinesReach → (lines : List Line) → AreFit setup lines → AtEachStepOf P (journal_of setup lines)
  lines_cut reach [] f = tt
  lines_cut reach (line ∷ lines) f = (
    lines_cut reach lines f.0,
    moves_cut (moves_of setup line (lines_world setup lines)) (joined (journal_of setup lines)) (lines_world setup lines) (reach setup lines f.0) (line_can setup line (joined (journal_of setup lines)) (lines_world setup lines) f.1) (line_tail setup line (lines_world setup lines)),
  )

pub owners_rule_holds : FitLinesReach → OwnersRuleHolds
owners_rule_holds reach setup lines is f = lines_cut setup (StepAt setup) (λ m h world r i. move_cut setup is h world r m i) reach lines f
