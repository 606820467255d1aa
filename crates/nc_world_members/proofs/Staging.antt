-- Each move keeps the stages, and members are those who stand by the journal.
use Rattle.std.proofs.Common.{◌≡◌, ℕ, zero, suc, ◌+◌, Bool, true, false, cond, ◌||◌, ◌&&◌, List, [], ◌∷◌, refl, sym, ap, ◌∙◌, subst, arith, ◌==◌}
use Rattle.std.specs.List.{AllByRecursion, list_any}
use Rattle.nc_journal.specs.History.{own, onto}
use Rattle.nc_journal.specs.Standing.{Stage, Starting, Standing, Over, IsServed, IsStarting, stage_of, is_subscribed}
use Rattle.nc_journal.specs.declared.event.Event.{Event}
use Rattle.nc_spool_state.specs.declared.spool.Reader.{Reader}
use Rattle.nc_spool_state.specs.Key.{KeyAt, is_in}
use Rattle.nc_spool_state.specs.Spool.{SpoolAt, is_reader, has_reader, is_among}
use Rattle.nc_spool_state.specs.Starting.{StartingAt, starts_with}
use Rattle.nc_spool.specs.declared.board.Board.{Board}
use Rattle.nc_spool.specs.Calls.{board_of}
use Rattle.nc_spool_laws.specs.Numbers.{one, total}
use Rattle.nc_spool_laws.specs.Tally.{reader_at, readers_of, start_at, stands}
use Rattle.nc_types.specs.declared.start.Start.TheVariants.{Newest}
use Rattle.nc_spool_members.specs.Members.{reads_with, begins_with, stands_with}
use Rattle.nc_spool_members.specs.Stages.{ReaderStands, SpoolStands, StartStarts, HasStage}
use Rattle.nc_history.specs.Packets.{Packet}
use Rattle.nc_worker_state.specs.Setup.{Setup}
use Rattle.nc_worker_state.specs.Incoming.{Incoming, TakesPacket, ClockReads, Reaps, Posts, Subscribes, Removes, Informs}
use Rattle.nc_worker_state.specs.Desk.{Desk}
use Rattle.nc_worker_state.specs.Worker.{WorkerAt, with_at, dealt_worker}
use Rattle.nc_world.specs.World.{World, handled_events, handled}
use Rattle.nc_world.specs.Moves.{carried_one, with_ring}
use Rattle.nc_world.specs.Reached.{IsSetup, IsInput}
use Rattle.nc_world_laws.specs.Good.{Good}
use Rattle.nc_world_laws.proofs.WorldTheme.{IsWorldTheme}
use Rattle.nc_world_laws.proofs.Local.{eqb_self}
use Rattle.nc_world_laws.proofs.Acting.{with_all}
use Rattle.nc_world_laws.proofs.Parts.{owns, serves, before, part}
use Rattle.nc_world_laws.proofs.Frames.{own_handled, handled_onto, part_stage}
use Rattle.nc_world_laws.proofs.WorldThemes.{world_theme_holds}
use Rattle.nc_world_members.specs.Members.{spools_at}
use Rattle.nc_world_members.specs.Stages.{stage_away, HasStages, AllStand, Starts, is_with}
use Rattle.nc_world_members.specs.Laws.{ReachedHasStages, SpoolsStand, MembersByStages, NobodyWaits}
use Rattle.nc_world_members.proofs.Stepping.{subscribed_here}
use Rattle.nc_world_members.proofs.Deeds.{stage_done, told_stage, stage_opened, away_stage, IsFresh, served_stays}
use Rattle.nc_world_members.proofs.Moving.{members_stand}

-- ---- a step

module _ (setup : Setup) (is : IsSetup setup) (x : ℕ) (incoming : Incoming) (h : List Event) (world : World) (g : Good setup h world) (has : HasStages h world)
    (fresh : (k : ℕ) → IsFresh setup x k (is_subscribed k (own x h)) (stage_of k (own x h)) incoming (world.workers x).desk) where
  abbrev es : List Event
  es = handled_events setup x incoming world

  abbrev new : WorkerAt
  new = dealt_worker es (owns x incoming world) (serves setup x incoming world) (world.workers x)

  opened : (k : ℕ) (i : Incoming) (l : List Event) → stage_of k (onto (before setup x i world) l) ≡ stage_opened k i (stage_of k l)
  opened k (TakesPacket from p) l = refl
  opened k (ClockReads t) l = refl
  opened k Reaps l = refl
  opened k (Posts c body) l = refl
  opened k (Subscribes n list start) l = refl
  opened k (Removes c) l = refl
  opened k (Informs c) l = refl

  stage_here : (k : ℕ) → stage_of k (onto es (own x h)) ≡ stage_done k (stage_opened k incoming (stage_of k (own x h))) (serves setup x incoming world).deeds
  stage_here k =
      let first = onto (before setup x incoming world) (own x h) in
      ap (stage_of k) (handled_onto setup is x incoming h world g (own x h))
      ∙ told_stage k x _ (serves setup x incoming world).deeds (onto (part x incoming world) first)
      ∙ ap (λ (s : Stage). stage_done k s (serves setup x incoming world).deeds) (part_stage setup is x incoming h world g k first ∙ opened k incoming (own x h))

  -- at the worker itself
  mine : (k : ℕ) → HasStage k (stage_away k (onto es (own x h))) (stage_of k (onto es (own x h))) (board_of (serves setup x incoming world).after.spools)
  mine k =
      let there = served_stays setup x k (is_subscribed k (own x h)) (stage_of k (own x h)) (world.workers x).desk (has.staged x k) incoming (fresh k) in
      subst (λ (s : Stage). HasStage k (stage_away k (onto es (own x h))) s (board_of (serves setup x incoming world).after.spools)) (sym (stage_here k))
      (subst (λ (b : Bool). HasStage k (away_stage b) (stage_done k (stage_opened k incoming (stage_of k (own x h))) (serves setup x incoming world).deeds) (board_of (serves setup x incoming world).after.spools)) (sym (subscribed_here setup is x incoming h world g k)) there)

  staged_after : (w k : ℕ) → HasStage k (stage_away k (own w (onto es h))) (stage_of k (own w (onto es h))) (board_of (with_at world.workers x new w).desk.spools)
  staged_after w k = with_all (λ z (s : WorkerAt). HasStage k (stage_away k (own z (onto es h))) (stage_of k (own z (onto es h))) (board_of s.desk.spools)) world.workers x new here there w
    where
      here : HasStage k (stage_away k (own x (onto es h))) (stage_of k (own x (onto es h))) (board_of new.desk.spools)
      here = subst (λ (l : List Event). HasStage k (stage_away k l) (stage_of k l) (board_of new.desk.spools)) (sym (own_handled setup is x incoming h world g x ∙ ap (λ b. cond b (onto es (own x h)) (own x h)) (eqb_self x))) (mine k)

      there : (z : ℕ) → (z == x) ≡ false → HasStage k (stage_away k (own z (onto es h))) (stage_of k (own z (onto es h))) (board_of (world.workers z).desk.spools)
      there z other = subst (λ (l : List Event). HasStage k (stage_away k l) (stage_of k l) (board_of (world.workers z).desk.spools)) (sym (own_handled setup is x incoming h world g z ∙ ap (λ b. cond b (onto es (own z h)) (own z h)) other)) (has.staged z k)

  pub step_staged : HasStages (onto es h) (handled setup x incoming world)
  step_staged = record { staged = staged_after }

-- ---- the theme

-- a number that was never subscribed stands nowhere
nowhere : (n : ℕ) (subscribed : Bool) (stage : Stage) (b : Board) → subscribed ≡ false → HasStage n (away_stage subscribed) stage b → stands n b ≡ 0
nowhere n subscribed stage b never has = by (stands n b) refl
  where
    clash : (s : Bool) → s ≡ false → away_stage s ≡ Over → ⊥
    clash true e f = cc
    clash false e f = cc

    by : (m : ℕ) → stands n b ≡ m → stands n b ≡ 0
    by zero e = e
    by (suc m) e = absurd (clash subscribed never (has.over (omega (arith, e))))

input_fresh : (setup : Setup) (x : ℕ) (incoming : Incoming) (h : List Event) (world : World) → HasStages h world → IsInput x h incoming → (k : ℕ) → IsFresh setup x k (is_subscribed k (own x h)) (stage_of k (own x h)) incoming (world.workers x).desk
input_fresh setup x (TakesPacket from p) h world has i k = absurd i
input_fresh setup x (ClockReads t) h world has i k = tt
input_fresh setup x Reaps h world has i k = tt
input_fresh setup x (Posts c body) h world has i k = tt
input_fresh setup x (Removes c) h world has i k = tt
input_fresh setup x (Informs c) h world has i k = tt
input_fresh setup x (Subscribes n list start) h world has i k = nowhere n (is_subscribed n (own x h)) (stage_of n (own x h)) (spools_at world x) i.new (has.staged x n)

module _ (setup : Setup) (is : IsSetup setup) where
  carries_staged : (w v : ℕ) (p : Packet) (ps : List Packet) (h : List Event) (world : World) → HasStages h world → HasStages h (carried_one w v p ps world)
  carries_staged w v p ps h world has = record { staged = λ x k. subst (λ (d : Desk). HasStage k (stage_away k (own x h)) (stage_of k (own x h)) (board_of d.spools)) (sym (desk x)) (has.staged x k) }
    where
      desk : (x : ℕ) → ((carried_one w v p ps world).workers x).desk ≡ (world.workers x).desk
      desk = with_all (λ x (s : WorkerAt). s.desk ≡ (world.workers x).desk) world.workers w (record (world.workers w) { outbox = with_at (world.workers w).outbox v ps }) refl (λ x e. refl)

  takes_staged : (x v : ℕ) (p : Packet) (ps : List Packet) (h : List Event) (world : World) → Good setup h world → HasStages h world
      → HasStages (onto (handled_events setup x (TakesPacket v p) world) h) (handled setup x (TakesPacket v p) (with_ring v x ps world))
  takes_staged x v p ps h world g has =
      let step = step_staged setup is x (TakesPacket v p) h world g has (λ k. tt) in
      record { staged = step.staged }

  stages_theme : IsWorldTheme setup HasStages
  stages_theme = record {
    new = record { staged = λ w k. record { few = omega arith; over = λ e. absurd (omega (arith, e)); standing = tt; starting = tt; away = λ e. refl } };
    handles = λ w incoming h world reached g here i has. step_staged setup is w incoming h world g has (input_fresh setup w incoming h world has i);
    takes = λ w v p ps h world reached g here there at has. takes_staged w v p ps h world g has;
    carries = λ w v p ps h world reached g here there at has. carries_staged w v p ps h world has;
    pending = λ n h world reached g same has. record { staged = has.staged };
    quiet = λ h world reached g same has. record { staged = has.staged };
  }

pub reached_has_stages : ReachedHasStages
reached_has_stages setup h world is r = world_theme_holds setup HasStages is (stages_theme setup is) h world r

-- ---- all of a worker's spools

module _ (w : ℕ) (h : List Event) where
  readers_stand : (key : KeyAt) (readers : List Reader) → ((k : ℕ) → AllByRecursion (ReaderStands k (stage_of k (own w h)) key) readers) → AllByRecursion (λ (r : Reader). stage_of r.k (own w h) ≡ Standing key.list r.once key.cursor) readers
  readers_stand key [] each = tt
  readers_stand key (r ∷ readers) each = ((each r.k).0 (eqb_self r.k), readers_stand key readers (λ k. (each k).1))

  shelf_stands : (shelf : List SpoolAt) → ((k : ℕ) → AllByRecursion (SpoolStands k (stage_of k (own w h))) shelf) → AllByRecursion (AllStand w h) shelf
  shelf_stands [] each = tt
  shelf_stands (s ∷ shelf) each = (readers_stand s.key s.readers (λ k. (each k).0), shelf_stands shelf (λ k. (each k).1))

  starts_start : (sts : List StartingAt) → ((k : ℕ) → AllByRecursion (StartStarts k (stage_of k (own w h))) sts) → AllByRecursion (Starts w h) sts
  starts_start [] each = tt
  starts_start (s ∷ sts) each = ((each s.reader.k).0 (eqb_self s.reader.k), starts_start sts (λ k. (each k).1))

pub spools_stand : SpoolsStand
spools_stand setup h world is r w =
    let has = reached_has_stages setup h world is r in
    (shelf_stands w h (spools_at world w).shelf (λ k. (has.staged w k).standing), starts_start w h (spools_at world w).starts (λ k. (has.staged w k).starting))

-- ---- who stands with a channel, by its stage

module _ (c : List ℕ) (k : ℕ) (stage : Stage) where
  -- one that reads in a spool reads its stage's list
  reads_same : (s : SpoolAt) → SpoolStands k stage s → reads_with c k s ≡ has_reader k s && is_with c stage
  reads_same s each = readers s.readers each
    where
      readers : (rs : List Reader) → AllByRecursion (ReaderStands k stage s.key) rs → (is_in c s.key.list && is_among k rs) ≡ is_among k rs && is_with c stage
      readers [] each = none (is_in c s.key.list)
        where
          none : (a : Bool) → a && false ≡ false
          none true = refl
          none false = refl
      readers (r ∷ rs) each = by (is_reader k r) (λ e. each.0 e) (readers rs each.1)
        where
          with_true : (a : Bool) → a && true ≡ a
          with_true true = refl
          with_true false = refl

          by : (t : Bool) → (t ≡ true → stage ≡ Standing s.key.list r.once s.key.cursor) → (is_in c s.key.list && is_among k rs) ≡ is_among k rs && is_with c stage → (is_in c s.key.list && (t || is_among k rs)) ≡ (t || is_among k rs) && is_with c stage
          by true here rest = with_true (is_in c s.key.list) ∙ ap (is_with c) (sym (here refl))
          by false here rest = rest

  begins_same : (s : StartingAt) → StartStarts k stage s → begins_with c k s ≡ starts_with k s && is_with c stage
  begins_same s each = by (starts_with k s) each
    where
      with_true : (a : Bool) → a && true ≡ a
      with_true true = refl
      with_true false = refl

      with_false : (a : Bool) → a && false ≡ false
      with_false true = refl
      with_false false = refl

      by : (t : Bool) → (t ≡ true → stage ≡ Starting s.list s.reader.once Newest) → (is_in c s.list && t) ≡ t && is_with c stage
      by true here = with_true (is_in c s.list) ∙ ap (is_with c) (sym (here refl))
      by false here = with_false (is_in c s.list)

or_both : (a b v : Bool) → ((a && v) || (b && v)) ≡ (a || b) && v
or_both true b true = refl
or_both true true false = refl
or_both true false false = refl
or_both false b v = refl

any_same : {X : Type 0} (P : X → Type 0) (test found : X → Bool) (v : Bool) → ((x : X) → P x → test x ≡ found x && v) → (xs : List X) → AllByRecursion P xs → list_any test xs ≡ list_any found xs && v
any_same P test found v each [] all = refl
any_same P test found v each (x ∷ xs) all = ap (λ b. b || list_any test xs) (each x all.0) ∙ ap (λ b. (found x && v) || b) (any_same P test found v each xs all.1) ∙ or_both (found x) (list_any found xs) v

-- who isn't found stands nowhere
module _ (k : ℕ) where
  no_reader : (rs : List Reader) → is_among k rs ≡ false → total (reader_at k) rs ≡ 0
  no_reader [] e = refl
  no_reader (r ∷ rs) e = by (is_reader k r) e (λ f. no_reader rs f)
    where
      by : (t : Bool) → (t || is_among k rs) ≡ false → (is_among k rs ≡ false → total (reader_at k) rs ≡ 0) → one t + total (reader_at k) rs ≡ 0
      by true e rest = absurd cc
      by false e rest = let none = rest e in omega (arith, none)

  no_spool : (shelf : List SpoolAt) → list_any (has_reader k) shelf ≡ false → total (readers_of k) shelf ≡ 0
  no_spool [] e = refl
  no_spool (s ∷ shelf) e = by (has_reader k s) refl e (λ f. no_spool shelf f)
    where
      by : (t : Bool) → has_reader k s ≡ t → (t || list_any (has_reader k) shelf) ≡ false → (list_any (has_reader k) shelf ≡ false → total (readers_of k) shelf ≡ 0) → readers_of k s + total (readers_of k) shelf ≡ 0
      by true was e rest = absurd cc
      by false was e rest = let none = rest e in omega (arith, no_reader s.readers was, none)

  no_start : (sts : List StartingAt) → list_any (starts_with k) sts ≡ false → total (start_at k) sts ≡ 0
  no_start [] e = refl
  no_start (s ∷ sts) e = by (starts_with k s) e (λ f. no_start sts f)
    where
      by : (t : Bool) → (t || list_any (starts_with k) sts) ≡ false → (list_any (starts_with k) sts ≡ false → total (start_at k) sts ≡ 0) → one t + total (start_at k) sts ≡ 0
      by true e rest = absurd cc
      by false e rest = let none = rest e in omega (arith, none)

stands_by_stage : (c : List ℕ) (k : ℕ) (subscribed : Bool) (stage : Stage) (b : Board) → HasStage k (away_stage subscribed) stage b → stands_with c k b ≡ is_with c stage
stands_by_stage c k subscribed stage b has =
    ap (λ t. t || list_any (begins_with c k) b.starts) (any_same (SpoolStands k stage) (reads_with c k) (has_reader k) (is_with c stage) (reads_same c k stage) b.shelf has.standing)
    ∙ ap (λ t. (list_any (has_reader k) b.shelf && is_with c stage) || t) (any_same (StartStarts k stage) (begins_with c k) (starts_with k) (is_with c stage) (begins_same c k stage) b.starts has.starting)
    ∙ or_both (list_any (has_reader k) b.shelf) (list_any (starts_with k) b.starts) (is_with c stage)
    ∙ by (list_any (has_reader k) b.shelf) (list_any (starts_with k) b.starts) refl refl
  where
    nobody : (s : Bool) → is_with c (away_stage s) ≡ false
    nobody true = refl
    nobody false = refl

    by : (x y : Bool) → list_any (has_reader k) b.shelf ≡ x → list_any (starts_with k) b.starts ≡ y → ((x || y) && is_with c stage) ≡ is_with c stage
    by true y e f = refl
    by false true e f = refl
    by false false e f =
        let none : stands k b ≡ 0 = omega (arith, no_spool k b.shelf e, no_start k b.starts f) in
        sym (ap (is_with c) (has.away none) ∙ nobody subscribed)

pub members_by_stages : MembersByStages
members_by_stages setup h world is r w k c none none_back =
    members_stand setup h world is r w k c none none_back ∙ stands_by_stage c k (is_subscribed k (own w h)) (stage_of k (own w h)) (spools_at world w) ((reached_has_stages setup h world is r).staged w k)

-- ---- nobody waits for its end, or for its start

-- one that is starting is one of the starts
pub starting_listed : (k : ℕ) (subscribed : Bool) (stage : Stage) (b : Board) → HasStage k (away_stage subscribed) stage b → IsStarting stage → b.starts ≡ [] → ⊥
starting_listed k subscribed stage b has was none = by (list_any (has_reader k) b.shelf) refl
  where
    in_readers : (key : KeyAt) (rs : List Reader) → is_among k rs ≡ true → AllByRecursion (ReaderStands k stage key) rs → ⊥
    in_readers key [] e each = cc
    in_readers key (r ∷ rs) e each = at (is_reader k r) e (λ f. each.0 f) (λ f. in_readers key rs f each.1)
      where
        at : (t : Bool) → (t || is_among k rs) ≡ true → (t ≡ true → stage ≡ Standing key.list r.once key.cursor) → (is_among k rs ≡ true → ⊥) → ⊥
        at true e here rest = subst IsStarting (here refl) was
        at false e here rest = rest e

    in_shelf : (shelf : List SpoolAt) → list_any (has_reader k) shelf ≡ true → AllByRecursion (SpoolStands k stage) shelf → ⊥
    in_shelf [] e each = cc
    in_shelf (s ∷ shelf) e each = at (has_reader k s) refl e (λ f. in_shelf shelf f each.1)
      where
        at : (t : Bool) → has_reader k s ≡ t → (t || list_any (has_reader k) shelf) ≡ true → (list_any (has_reader k) shelf ≡ true → ⊥) → ⊥
        at true f e rest = in_readers s.key s.readers f each.0
        at false f e rest = rest e

    nobody : (s : Bool) → stage ≡ away_stage s → ⊥
    nobody true e = subst IsStarting e was
    nobody false e = subst IsStarting e was

    by : (x : Bool) → list_any (has_reader k) b.shelf ≡ x → ⊥
    by true e = in_shelf b.shelf e has.standing
    by false e =
        let no_starts : total (start_at k) b.starts ≡ 0 = ap (λ (l : List StartingAt). total (start_at k) l) none in
        let nowhere_now : stands k b ≡ 0 = omega (arith, no_spool k b.shelf e, no_starts) in
        nobody subscribed (has.away nowhere_now)

not_served : (k : ℕ) (subscribed : Bool) (stage : Stage) (b : Board) → HasStage k (away_stage subscribed) stage b → IsServed stage → ⊥
not_served k subscribed stage b has was = by (list_any (has_reader k) b.shelf) (list_any (starts_with k) b.starts) refl refl
  where
    in_readers : (key : KeyAt) (rs : List Reader) → is_among k rs ≡ true → AllByRecursion (ReaderStands k stage key) rs → ⊥
    in_readers key [] e each = cc
    in_readers key (r ∷ rs) e each = at (is_reader k r) e (λ f. each.0 f) (λ f. in_readers key rs f each.1)
      where
        at : (t : Bool) → (t || is_among k rs) ≡ true → (t ≡ true → stage ≡ Standing key.list r.once key.cursor) → (is_among k rs ≡ true → ⊥) → ⊥
        at true e here rest = subst IsServed (here refl) was
        at false e here rest = rest e

    in_shelf : (shelf : List SpoolAt) → list_any (has_reader k) shelf ≡ true → AllByRecursion (SpoolStands k stage) shelf → ⊥
    in_shelf [] e each = cc
    in_shelf (s ∷ shelf) e each = at (has_reader k s) refl e (λ f. in_shelf shelf f each.1)
      where
        at : (t : Bool) → has_reader k s ≡ t → (t || list_any (has_reader k) shelf) ≡ true → (list_any (has_reader k) shelf ≡ true → ⊥) → ⊥
        at true f e rest = in_readers s.key s.readers f each.0
        at false f e rest = rest e

    in_starts : (sts : List StartingAt) → list_any (starts_with k) sts ≡ true → AllByRecursion (StartStarts k stage) sts → ⊥
    in_starts [] e each = cc
    in_starts (s ∷ sts) e each = at (starts_with k s) e (λ f. each.0 f) (λ f. in_starts sts f each.1)
      where
        at : (t : Bool) → (t || list_any (starts_with k) sts) ≡ true → (t ≡ true → stage ≡ Starting s.list s.reader.once Newest) → (list_any (starts_with k) sts ≡ true → ⊥) → ⊥
        at true e here rest = subst IsServed (here refl) was
        at false e here rest = rest e

    nobody : (s : Bool) → stage ≡ away_stage s → ⊥
    nobody true e = subst IsServed e was
    nobody false e = subst IsServed e was

    by : (x y : Bool) → list_any (has_reader k) b.shelf ≡ x → list_any (starts_with k) b.starts ≡ y → ⊥
    by true y e f = in_shelf b.shelf e has.standing
    by false true e f = in_starts b.starts f has.starting
    by false false e f =
        let none : stands k b ≡ 0 = omega (arith, no_spool k b.shelf e, no_start k b.starts f) in
        nobody subscribed (has.away none)

pub nobody_waits : NobodyWaits
nobody_waits setup h world is r w k was = not_served k (is_subscribed k (own w h)) (stage_of k (own w h)) (spools_at world w) ((reached_has_stages setup h world is r).staged w k) was
