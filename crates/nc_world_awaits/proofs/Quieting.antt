-- At quiet nobody lacks a buffered message.
use Rattle.std.proofs.Common.{◌≡◌, ◌⊎◌, inl, inr, ℕ, zero, suc, ◌+◌, ◌<◌, ◌≤◌, Bool, true, false, cond, ◌||◌, List, [], ◌∷◌, ◌++◌, Option, Some, refl, sym, ap, ◌∙◌, subst, length, map, slice_get, arith}
use Rattle.std.specs.Prelude.{◌==◌}
use Rattle.std.specs.List.{AllByRecursion, list_any}
use Rattle.nc_types.specs.Cursor.{CursorAt, cursor_id}
use Rattle.nc_types.specs.declared.start.Start.TheVariants.{Newest}
use Rattle.nc_journal.specs.History.{own, onto, Along}
use Rattle.nc_journal.specs.Standing.{Stage, Starting, Standing, Absent, Over, stage_of, is_subscribed}
use Rattle.nc_journal.specs.Sending.{LacksNothing, QuietAt, IsQuietRule}
use Rattle.nc_journal.specs.declared.event.Event.{Event}
use Rattle.nc_journal.specs.declared.event.Event.TheVariants.{Quiet}
use Rattle.nc_owner_laws.specs.Kinds.{IsOfOwner}
use Rattle.nc_spool_state.specs.declared.place.Place.{Place}
use Rattle.nc_spool_state.specs.declared.place.Place.TheVariants as places
use Rattle.nc_spool_state.specs.declared.spool.Reader.{Reader}
use Rattle.nc_spool_state.specs.Key.{KeyAt}
use Rattle.nc_spool_state.specs.Place.{is_asked}
use Rattle.nc_spool_state.specs.Choice.{is_any_asked}
use Rattle.nc_spool_state.specs.Spool.{SpoolAt, is_reader, is_among, has_reader}
use Rattle.nc_spool_state.specs.Starting.{StartingAt, starts_with}
use Rattle.nc_spool.specs.Calls.{board_of}
use Rattle.nc_spool.specs.declared.board.Board.{Board}
use Rattle.nc_spool_laws.specs.Numbers.{one, total, look_at, looks_of}
use Rattle.nc_spool_laws.specs.Resting.{is_found, is_any_found, Rests}
use Rattle.nc_spool_laws.specs.Tally.{reader_at, readers_of, start_at, stands}
use Rattle.nc_spool_members.specs.Stages.{ReaderStands, SpoolStands, StartStarts, HasStage}
use Rattle.nc_history.specs.Packets.{pending, lines_of}
use Rattle.nc_worker_state.specs.Setup.{Setup}
use Rattle.nc_worker_state.specs.Incoming.{Incoming, TakesPacket, ClockReads, Reaps, Posts, Subscribes, Removes, Informs}
use Rattle.nc_world.specs.World.{World, handled_events, pending_in}
use Rattle.nc_world.specs.Moves.{Counts, counted}
use Rattle.nc_world.specs.Reached.{IsSetup, Reached, Moves}
use Rattle.nc_world_laws.proofs.WorkerKinds.{IsOfWorker}
use Rattle.nc_world_laws.specs.Good.{Good}
use Rattle.nc_world_laws.proofs.WorldTheme.{IsWorldTheme}
use Rattle.nc_world_laws.proofs.Local.{eqb_self}
use Rattle.nc_world_laws.proofs.Parts.{before, part, behind, part_all, behind_all}
use Rattle.nc_world_laws.proofs.Frames.{handled_onto}
use Rattle.nc_world_laws.proofs.WorldThemes.{world_theme_holds}
use Rattle.nc_world_owners.proofs.ReachedHistories.{counts_are_told}
use Rattle.nc_rests.specs.Owners.{Owners}
use Rattle.nc_rests.specs.Places.{PlaceHolds}
use Rattle.nc_rests.specs.Rests.{Rest, Nothing, Found, RestsAt}
use Rattle.nc_rests.specs.Spools.{FoundNothing}
use Rattle.nc_rests.proofs.Lists.{all_at, at_length}
use Rattle.nc_rests.proofs.Spools.{quiet_spools}
use Rattle.nc_world_told.specs.Known.{SpoolKnows}
use Rattle.nc_world_told.proofs.Written.{spool_holds}
use Rattle.nc_world_members.specs.Stages.{stage_away}
use Rattle.nc_world_members.specs.Members.{spools_at}
use Rattle.nc_world_members.proofs.Staging.{reached_has_stages}
use Rattle.nc_world_places.specs.Places.{shelf_at}
use Rattle.nc_world_places.proofs.Reaching.{reached_spools_know, reached_has_places}
use Rattle.nc_world_places.proofs.Telling.{reached_owners_tell}
use Rattle.nc_world_looks.specs.Looks.{looking, looked, weigh}
use Rattle.nc_world_awaits.specs.Awaits.{awaiting, IsOnItsWay, HistoriesRest}
use Rattle.nc_world_awaits.proofs.Asked.{looks_come_back}

-- ---- places that await nothing

pub no_asked : (ps : List Place) → ((n : ℕ) → total (look_at n) ps ≡ 0) → is_any_asked ps ≡ false
no_asked [] none = refl
no_asked (places.Asked m earlier ∷ ps) none = absurd (let k = none m in let here = ap one (eqb_self m) in omega (arith, k, here))
no_asked (places.Nothing quiet ∷ ps) none = no_asked ps (λ n. let k = none n in omega (arith, k))
no_asked (places.Found q id owner g ∷ ps) none = no_asked ps (λ n. let k = none n in omega (arith, k))

no_found : (found asked : Bool) → (found ≡ true → asked ≡ true) → asked ≡ false → found ≡ false
no_found true asked rest none = absurd (let some = rest refl in cc)
no_found false asked rest none = refl

-- nothing was found at a place that isn't asked
abbrev IsNothingPlace : Place → Type 0
IsNothingPlace (places.Nothing quiet) = Unit {0}
IsNothingPlace place = ⊥

all_nothing : (ps : List Place) → is_any_asked ps ≡ false → is_any_found ps ≡ false → AllByRecursion IsNothingPlace ps
all_nothing [] a f = tt
all_nothing (places.Nothing quiet ∷ ps) a f = (tt, all_nothing ps a f)
all_nothing (places.Asked m earlier ∷ ps) a f = absurd cc
all_nothing (places.Found q id owner g ∷ ps) a f = absurd cc

abbrev rest_of : Place → Rest
rest_of (places.Nothing quiet) = Nothing quiet.q quiet.floor
rest_of (places.Asked m earlier) = Nothing 0 0
rest_of (places.Found q id owner g) = Found q id

rests_found : (ps : List Place) → AllByRecursion IsNothingPlace ps → AllByRecursion FoundNothing (map rest_of ps)
rests_found [] all = tt
rests_found (places.Nothing quiet ∷ ps) all = (tt, rests_found ps all.1)
rests_found (places.Asked m earlier ∷ ps) all = absurd all.0
rests_found (places.Found q id owner g ∷ ps) all = absurd all.0

rest_at : (ps : List Place) (j : ℕ) (r : Rest) → slice_get (map rest_of ps) j ≡ Some r → (p : Place) × (slice_get ps j ≡ Some p) × (rest_of p ≡ r)
rest_at [] j r at = absurd cc
rest_at (p ∷ ps) zero r at = let same : rest_of p ≡ r = cc in (p, refl, same)
rest_at (p ∷ ps) (suc j) r at = rest_at ps j r at

rests_length : (ps : List Place) → length (map rest_of ps) ≡ length ps
rests_length [] = refl
rests_length (p ∷ ps) = ap suc (rests_length ps)

-- ---- who isn't found stands nowhere

module _ (k : ℕ) where
  no_reader : (rs : List Reader) → is_among k rs ≡ false → total (reader_at k) rs ≡ 0
  no_reader [] e = refl
  no_reader (r ∷ rs) e = by (is_reader k r) e (no_reader rs)
    where
      by : (t : Bool) → (t || is_among k rs) ≡ false → (is_among k rs ≡ false → total (reader_at k) rs ≡ 0) → one t + total (reader_at k) rs ≡ 0
      by true e rest = absurd cc
      by false e rest = let none = rest e in omega (arith, none)

  no_spool : (shelf : List SpoolAt) → list_any (has_reader k) shelf ≡ false → total (readers_of k) shelf ≡ 0
  no_spool [] e = refl
  no_spool (s ∷ shelf) e = by (has_reader k s) refl e (no_spool shelf)
    where
      by : (t : Bool) → has_reader k s ≡ t → (t || list_any (has_reader k) shelf) ≡ false → (list_any (has_reader k) shelf ≡ false → total (readers_of k) shelf ≡ 0) → readers_of k s + total (readers_of k) shelf ≡ 0
      by true was e rest = absurd cc
      by false was e rest = let none = rest e in omega (arith, no_reader s.readers was, none)

  no_start : (sts : List StartingAt) → list_any (starts_with k) sts ≡ false → total (start_at k) sts ≡ 0
  no_start [] e = refl
  no_start (s ∷ sts) e = by (starts_with k s) e (no_start sts)
    where
      by : (t : Bool) → (t || list_any (starts_with k) sts) ≡ false → (list_any (starts_with k) sts ≡ false → total (start_at k) sts ≡ 0) → one t + total (start_at k) sts ≡ 0
      by true e rest = absurd cc
      by false e rest = let none = rest e in omega (arith, none)

module _ (setup : Setup) (is : IsSetup setup) (h : List Event) (world : World) (reached : Reached setup h world) (none : (v w : ℕ) → pending v w h ≡ []) where
  -- nothing is awaited
  not_on_its_way : (w n owner : ℕ) → (1 ≤ weigh (looking n) (lines_of (pending w owner h))) ⊎ (1 ≤ weigh (looked n) (lines_of (pending owner w h))) → ⊥
  not_on_its_way w n owner (inl some) = absurd (let empty = ap (λ ps. weigh (looking n) (lines_of ps)) (none w owner) in omega (arith, some, empty))
  not_on_its_way w n owner (inr some) = absurd (let empty = ap (λ ps. weigh (looked n) (lines_of ps)) (none owner w) in omega (arith, some, empty))

  pub nothing_awaited : (w n : ℕ) → awaiting n (shelf_at world w) ≡ 0
  nothing_awaited w n = by (awaiting n (shelf_at world w)) refl
    where
      clash : IsOnItsWay w n h → ⊥
      clash k = not_on_its_way w n k.owner k.pends

      by : (m : ℕ) → awaiting n (shelf_at world w) ≡ m → awaiting n (shelf_at world w) ≡ 0
      by zero e = e
      by (suc m) e = absurd (clash (looks_come_back setup h world is reached w n (omega (arith, e))))

  -- so who stands in a spool lacks nothing
  spool_lacks : (w : ℕ) (s : SpoolAt) → SpoolKnows setup.workers w s h → Rests s → ((n : ℕ) → looks_of n s ≡ 0) → (once : Bool) → LacksNothing h (Standing s.key.list once s.key.cursor)
  spool_lacks w s k rests unasked once =
      let told = reached_owners_tell setup h world is reached in
      let holds = spool_holds setup.workers w s h k in
      let asked = no_asked s.places unasked in
      let nothing = all_nothing s.places asked (no_found (is_any_found s.places) (is_any_asked s.places) rests asked) in
      quiet_spools setup.workers w s.key.list once s.key.cursor (map rest_of s.places) h told.owners told.tells (λ o. none o w)
      (record {
        distinct = k.distinct;
        places = rests_length s.places ∙ k.each;
        tags = k.tags;
        rest = λ j c r at_list at_rest.
            let p = rest_at s.places j r at_rest in
            subst (λ (x : Rest). RestsAt setup.workers w c (cursor_id s.key.cursor j) x h) p.2 (place_rests w c s.key.cursor j p.0 (all_at IsNothingPlace s.places j p.0 nothing p.1) (holds.holds j c p.0 at_list p.1));
      })
      (rests_found s.places nothing)
    where
      place_rests : (w : ℕ) (c : List ℕ) (cur : CursorAt) (j : ℕ) (p : Place) → IsNothingPlace p → PlaceHolds setup.workers w c (cursor_id cur j) p h → RestsAt setup.workers w c (cursor_id cur j) (rest_of p) h
      place_rests w c cur j (places.Nothing quiet) is k = k
      place_rests w c cur j (places.Asked m earlier) is k = absurd is
      place_rests w c cur j (places.Found q id owner g) is k = absurd is

  abbrev SpoolLacks : SpoolAt → Type 0
  SpoolLacks s = (once : Bool) → LacksNothing h (Standing s.key.list once s.key.cursor)

  shelf_lacks : (w : ℕ) (shelf : List SpoolAt) → AllByRecursion (λ s. SpoolKnows setup.workers w s h) shelf → AllByRecursion Rests shelf → ((n : ℕ) → total (looks_of n) shelf ≡ 0) → AllByRecursion SpoolLacks shelf
  shelf_lacks w [] know rest unasked = tt
  shelf_lacks w (s ∷ shelf) know rest unasked =
      (spool_lacks w s know.0 rest.0 (λ n. let u = unasked n in omega (arith, u)), shelf_lacks w shelf know.1 rest.1 (λ n. let u = unasked n in omega (arith, u)))

  -- whoever stands, stands in a spool
  module _ (k : ℕ) (stage : Stage) where
    in_readers : (key : KeyAt) (rs : List Reader) → is_among k rs ≡ true → AllByRecursion (ReaderStands k stage key) rs → ((once : Bool) → LacksNothing h (Standing key.list once key.cursor)) → LacksNothing h stage
    in_readers key [] e each lacks = absurd cc
    in_readers key (r ∷ rs) e each lacks = at (is_reader k r) e (λ f. each.0 f) (λ f. in_readers key rs f each.1 lacks)
      where
        at : (t : Bool) → (t || is_among k rs) ≡ true → (t ≡ true → stage ≡ Standing key.list r.once key.cursor) → (is_among k rs ≡ true → LacksNothing h stage) → LacksNothing h stage
        at true e here rest = subst (LacksNothing h) (sym (here refl)) (lacks r.once)
        at false e here rest = rest e

    in_shelf : (shelf : List SpoolAt) → list_any (has_reader k) shelf ≡ true → AllByRecursion (SpoolStands k stage) shelf → AllByRecursion SpoolLacks shelf → LacksNothing h stage
    in_shelf [] e each lacks = absurd cc
    in_shelf (s ∷ shelf) e each lacks = at (has_reader k s) refl e (λ f. in_shelf shelf f each.1 lacks.1)
      where
        at : (t : Bool) → has_reader k s ≡ t → (t || list_any (has_reader k) shelf) ≡ true → (list_any (has_reader k) shelf ≡ true → LacksNothing h stage) → LacksNothing h stage
        at true f e rest = in_readers s.key s.readers f each.0 lacks.0
        at false f e rest = rest e

    in_starts : (sts : List StartingAt) → list_any (starts_with k) sts ≡ true → AllByRecursion (StartStarts k stage) sts → LacksNothing h stage
    in_starts [] e each = absurd cc
    in_starts (s ∷ sts) e each = at (starts_with k s) e (λ f. each.0 f) (λ f. in_starts sts f each.1)
      where
        at : (t : Bool) → (t || list_any (starts_with k) sts) ≡ true → (t ≡ true → stage ≡ Starting s.list s.reader.once Newest) → (list_any (starts_with k) sts ≡ true → LacksNothing h stage) → LacksNothing h stage
        at true e here rest = subst (LacksNothing h) (sym (here refl)) tt
        at false e here rest = rest e

    away : (b : Bool) → stage ≡ cond b Over Absent → LacksNothing h stage
    away true e = subst (LacksNothing h) (sym e) tt
    away false e = subst (LacksNothing h) (sym e) tt

  rested : (w k : ℕ) → LacksNothing h (stage_of k (own w h))
  rested w k = by (list_any (has_reader k) (shelf_at world w)) (list_any (starts_with k) (spools_at world w).starts) refl refl
    where
      has : HasStage k (stage_away k (own w h)) (stage_of k (own w h)) (spools_at world w)
      has = (reached_has_stages setup h world is reached).staged w k

      lacks : AllByRecursion SpoolLacks (shelf_at world w)
      lacks = shelf_lacks w (shelf_at world w) (reached_spools_know setup h world is reached w) ((reached_has_places setup h world is reached).rest w) (nothing_awaited w)

      by : (x y : Bool) → list_any (has_reader k) (shelf_at world w) ≡ x → list_any (starts_with k) (spools_at world w).starts ≡ y → LacksNothing h (stage_of k (own w h))
      by true y e f = in_shelf k (stage_of k (own w h)) (shelf_at world w) e has.standing lacks
      by false true e f = in_starts k (stage_of k (own w h)) (spools_at world w).starts f has.starting
      by false false e f = away k (stage_of k (own w h)) (is_subscribed k (own w h)) (has.away (omega (arith, no_spool k (shelf_at world w) e, no_start k (spools_at world w).starts f)))

-- ---- the theme

abbrev pub IsUnquiet : Event → Type 0
IsUnquiet Quiet = ⊥
IsUnquiet _ = Unit {0}

quiet_one : (h : List Event) (e : Event) → IsUnquiet e → QuietAt h e
quiet_one h Quiet k = absurd k
quiet_one h e k = tt

quiet_onto : (es h : List Event) → AllByRecursion IsUnquiet es → IsQuietRule h → IsQuietRule (onto es h)
quiet_onto [] h k a = a
quiet_onto (e ∷ es) h k a = quiet_onto es (e ∷ h) k.1 (a, quiet_one h e k.0)

pub unquiet_owner : (w : ℕ) (e : Event) → IsOfOwner w e → IsUnquiet e
unquiet_owner w Quiet p = absurd p
unquiet_owner w e p = tt

pub unquiet_worker : (w : ℕ) (e : Event) → IsOfWorker w e → IsUnquiet e
unquiet_worker w Quiet p = absurd p
unquiet_worker w e p = tt

module _ (setup : Setup) (is : IsSetup setup) where
  pub unquiet_opening : (w : ℕ) (i : Incoming) (world : World) → AllByRecursion IsUnquiet (before setup w i world)
  unquiet_opening w (TakesPacket from p) world = (tt, tt)
  unquiet_opening w (ClockReads t) world = (tt, tt)
  unquiet_opening w Reaps world = tt
  unquiet_opening w (Posts c body) world = (tt, tt)
  unquiet_opening w (Subscribes k list start) world = (tt, tt)
  unquiet_opening w (Removes c) world = (tt, tt)
  unquiet_opening w (Informs c) world = (tt, tt)

  step_quiet : (w : ℕ) (i : Incoming) (h : List Event) (world : World) → Good setup h world → IsQuietRule h → IsQuietRule (onto (handled_events setup w i world) h)
  step_quiet w i h world g a =
      let opened = onto (before setup w i world) h in
      subst IsQuietRule (sym (handled_onto setup is w i h world g h))
      (quiet_onto (behind setup w i world) (onto (part w i world) opened) (behind_all setup is w i h world g IsUnquiet (unquiet_worker w) (λ to n l. tt))
      (quiet_onto (part w i world) opened (part_all setup is w i h world g IsUnquiet (unquiet_owner w) (λ to n l. tt))
      (quiet_onto (before setup w i world) h (unquiet_opening w i world) a)))

  at_quiet : (h : List Event) (world : World) → Reached setup h world → pending_in setup world ≡ 0 → QuietAt h Quiet
  at_quiet h world reached same =
      let then : Reached setup (Quiet ∷ h) world = subst (λ n. Reached setup (onto (counted n) h) world) same (Moves h world Counts reached tt) in
      rested setup is h world reached (counts_are_told setup (Quiet ∷ h) world is then).1

  quiet_theme : IsWorldTheme setup (λ h world. IsQuietRule h)
  quiet_theme = record {
    new = tt;
    handles = λ w incoming h world reached g here i a. step_quiet w incoming h world g a;
    takes = λ w v p ps h world reached g here there at a. step_quiet w (TakesPacket v p) h world g a;
    carries = λ w v p ps h world reached g here there at a. a;
    pending = λ n h world reached g same a. (a, tt);
    quiet = λ h world reached g same a. (a, at_quiet h world reached same);
  }

pub histories_rest : HistoriesRest
histories_rest setup h world is reached = world_theme_holds setup (λ h world. IsQuietRule h) is (quiet_theme setup is) h world reached
