-- A subscriber that comes is sent nothing, and each subscriber of a spool stands then at its key.
use Rattle.std.proofs.Common.{◌≡◌, ℕ, ◌+◌, Bool, true, false, cond, List, [], ◌∷◌, Option, Some, None, refl, sym, ap, ◌∙◌, subst, arith, length}
use Rattle.std.specs.Prelude.{◌==◌, fold}
use Rattle.std.specs.List.{AllByRecursion}
use Rattle.std.proofs.lemmas.Bool.Decides.{nat_tests}
use Rattle.nc_types.specs.Cursor.{CursorAt}
use Rattle.nc_types.specs.declared.start.Start.{Start}
use Rattle.nc_types.specs.declared.start.Start.TheVariants.{Oldest, Newest, Given}
use Rattle.nc_journal.specs.History.{own, Along}
use Rattle.nc_journal.specs.Standing.{Starting, started, stage_of}
use Rattle.nc_journal.specs.declared.event.Event.{Event}
use Rattle.nc_journal.specs.declared.word.EndedCause.{EndedCause}
use Rattle.nc_journal.specs.declared.word.EndedCause.TheVariants.{Answered}
use Rattle.nc_spool_state.specs.declared.spool.Reader.{Reader}
use Rattle.nc_spool_state.specs.Key.{KeyAt}
use Rattle.nc_spool_state.specs.Shelf.{spool_of, others, place_before}
use Rattle.nc_spool_state.specs.Spool.{SpoolAt, is_of, with_reader, place_above}
use Rattle.nc_spool.specs.declared.board.Board.{Board}
use Rattle.nc_spool.specs.declared.fact.Fact.{Fact}
use Rattle.nc_spool.specs.declared.fact.Fact.TheVariants as facts
use Rattle.nc_spool.specs.Arrive.{arrived, started_by, joined, oldest_cursor}
use Rattle.nc_spool.specs.Board.{told as tells, shelved, standing, opened, entered, fresh_spool}
use Rattle.nc_spool.specs.Calls.{SpoolsAt, board_of, arrive_facts, arrive_after}
use Rattle.nc_spool.specs.Newest.{begun, edges_from, asked_edge}
use Rattle.nc_spool_laws.specs.Numbers.{one, total}
use Rattle.nc_spool_laws.specs.Tally.{reader_at, readers_of, stands}
use Rattle.nc_spool_laws.proofs.Lists.{all-insert, all-without, all-found, all-changed, found-passes}
use Rattle.nc_spool_laws.proofs.Same.{asked-shelf, joined-shelf, edges-shelf}
use Rattle.nc_spool_laws.proofs.SameKey.{key_same}
use Rattle.nc_worker_state.specs.Spooled.{Hold}
use Rattle.nc_rests.proofs.Received.{eqb_self}
use Rattle.nc_sends.specs.GoodSends.{IsGoodSend}
use Rattle.nc_world_told.specs.Written.{fact_event, written, next_written}
use Rattle.nc_world_told.specs.Readers.{StandsAtKey, StandHere}
use Rattle.nc_world_told.proofs.Written.{written_is, written_append, IsAway, IsUnsent, unsent_written}
use Rattle.nc_world_told.proofs.Sends.{Appends, same_facts, one_fact, then_facts, IsOut, weaker, out_unsent, entered_outs}
use Rattle.nc_world_told.proofs.Staying.{away_stands, out_away, outs_still}
use Rattle.nc_world_calls.specs.Arriving.{ArrivalSendsNothing, ArrivalStands}

pub joined_outs : (k : ℕ) (names : List (List ℕ)) (b : Board) → Appends IsOut b.facts (fold (joined k) b names).facts
joined_outs k [] b = same_facts IsOut b.facts
joined_outs k (c ∷ names) b = then_facts IsOut b.facts (joined k b c).facts _ (one_fact IsOut b.facts _ tt) (joined_outs k names (joined k b c))

pub edges_outs : (k : ℕ) (names : List (List ℕ)) (b : Board) → Appends IsOut b.facts (edges_from k names b).facts
edges_outs k [] b = same_facts IsOut b.facts
edges_outs k (c ∷ names) b = then_facts IsOut b.facts (asked_edge k c 0 b).facts _ (one_fact IsOut b.facts _ tt) (edges_outs k names (asked_edge k c 0 b))

-- ---- it is sent nothing

pub unsent : (xs ys : List Fact) → Appends IsOut xs ys → Appends IsUnsent xs ys
unsent xs ys a = record { facts = a.facts; are = a.are; all = weaker IsOut IsUnsent out_unsent a.facts a.all }

pub begun_unsent : (r : Reader) (key : KeyAt) (b : Board) → Appends IsUnsent b.facts (begun r key b).facts
begun_unsent r key b = then_facts IsUnsent b.facts (tells (facts.Started r.k key.cursor) b).facts _ (one_fact IsUnsent b.facts _ tt) (unsent _ _ (entered_outs key r (tells (facts.Started r.k key.cursor) b)))

started_unsent : (start : Start) (r : Reader) (list : List (List ℕ)) (b : Board) → Appends IsUnsent b.facts (started_by start r list b).facts
started_unsent Oldest r list b = begun_unsent r (record { list = list; cursor = oldest_cursor (length list) }) b
started_unsent Newest r list b = unsent _ _ (edges_outs r.k list b)
started_unsent (Given cursor) r list b = begun_unsent r (record { list = list; cursor = cursor }) b

arrived_unsent : (r : Reader) (list : List (List ℕ)) (start : Start) (b : Board) → Appends IsUnsent b.facts (arrived r list start b).facts
arrived_unsent r list start b = then_facts IsUnsent b.facts (fold (joined r.k) b list).facts _ (unsent _ _ (joined_outs r.k list b)) (started_unsent start r list (fold (joined r.k) b list))

pub arrival_sends_nothing : ArrivalSendsNothing
arrival_sends_nothing workers me next k list start once s h good =
    let a = arrived_unsent (record { k = k; once = once }) list start (board_of s) in
    subst (Along (IsGoodSend workers)) (written_is me Answered next (arrive_facts k list start once s) h)
    (unsent_written workers me Answered next (arrive_facts k list start once s) h (subst (AllByRecursion IsUnsent) (sym a.are) a.all) good)

-- ---- it stands

module _ (me : ℕ) (cause : EndedCause) (next : ℕ → ℕ) (h : List Event) where
  -- who enters where it stands, stands in the spool, as all others do
  entered_stand : (key : KeyAt) (r : Reader) (b : Board) → StandsAtKey me key (written me cause next b.facts h) r → AllByRecursion (λ x. StandHere me x (written me cause next b.facts h)) b.shelf
      → AllByRecursion (λ x. StandHere me x (written me cause next (entered key r b).facts h)) (entered key r b).shelf
  entered_stand key r b stands shelf = by (spool_of key b.shelf) refl
    where
      there : StandsAtKey me key (written me cause next (entered key r b).facts h) r
      there = (outs_still me cause next h b.facts (entered key r b).facts key (r ∷ []) (entered_outs key r b) (stands, tt)).0

      on : AllByRecursion (λ x. StandHere me x (written me cause next (entered key r b).facts h)) b.shelf
      on = all-changed (λ (x : SpoolAt). StandHere me x (written me cause next b.facts h)) (λ (x : SpoolAt). StandHere me x (written me cause next (entered key r b).facts h)) b.shelf
          (λ x f. outs_still me cause next h b.facts (entered key r b).facts x.key x.readers (entered_outs key r b) f) shelf

      by : (o : Option SpoolAt) → spool_of key b.shelf ≡ o
          → AllByRecursion (λ x. StandHere me x (written me cause next (entered key r b).facts h)) (shelved (with_reader r (standing o key b)) (opened o key (record b { shelf = others key b.shelf }))).shelf
      by None was = all-insert (λ (x : SpoolAt). StandHere me x (written me cause next (entered key r b).facts h)) _ (place_before key _) (with_reader r (fresh_spool b.next key)) (there, tt)
          (subst (AllByRecursion (λ (x : SpoolAt). StandHere me x (written me cause next (entered key r b).facts h))) (sym (asked-shelf key 0 key.list (record b { shelf = others key b.shelf })))
          (all-without (λ (x : SpoolAt). StandHere me x (written me cause next (entered key r b).facts h)) (is_of key) b.shelf on))
      by (Some x) was =
          let same : key ≡ x.key = key_same key x.key (found-passes (is_of key) b.shelf x was) in
          all-insert (λ (x : SpoolAt). StandHere me x (written me cause next (entered key r b).facts h)) (others key b.shelf) (place_before x.key (others key b.shelf)) (with_reader r x)
          (all-insert (StandsAtKey me x.key (written me cause next (entered key r b).facts h)) x.readers (place_above r.k x.readers) r
          (subst (λ (k : KeyAt). StandsAtKey me k (written me cause next (entered key r b).facts h) r) same there)
          (all-found (λ (x : SpoolAt). StandHere me x (written me cause next (entered key r b).facts h)) (is_of key) b.shelf x was on))
          (all-without (λ (x : SpoolAt). StandHere me x (written me cause next (entered key r b).facts h)) (is_of key) b.shelf on)

  -- a start moves its subscriber, and no other
  away_here : (k : ℕ) (key : KeyAt) (cursor : CursorAt) (b : Board) (rs : List Reader) → total (reader_at k) rs ≡ 0 → AllByRecursion (StandsAtKey me key (written me cause next b.facts h)) rs
      → AllByRecursion (StandsAtKey me key (written me cause next (tells (facts.Started k cursor) b).facts h)) rs
  away_here k key cursor b [] none f = tt
  away_here k key cursor b (r ∷ rs) none f = (by (r.k == k) refl none, away_here k key cursor b rs (omega (arith, none)) f.1)
    where
      flipped : (a c : ℕ) → (a == c) ≡ false → (c == a) ≡ false
      flipped a c e = grind (arith, nat_tests)

      by : (t : Bool) → (r.k == k) ≡ t → one t + total (reader_at k) rs ≡ 0 → StandsAtKey me key (written me cause next (tells (facts.Started k cursor) b).facts h) r
      by true was e = absurd (omega (arith, e))
      by false was e = away_stands me cause next h r.k b.facts (tells (facts.Started k cursor) b).facts (one_fact (IsAway r.k) b.facts (facts.Started k cursor) (flipped r.k k was)) ∙ f.0

  away_all : (k : ℕ) (cursor : CursorAt) (b : Board) (shelf : List SpoolAt) → total (readers_of k) shelf ≡ 0 → AllByRecursion (λ x. StandHere me x (written me cause next b.facts h)) shelf
      → AllByRecursion (λ x. StandHere me x (written me cause next (tells (facts.Started k cursor) b).facts h)) shelf
  away_all k cursor b [] none f = tt
  away_all k cursor b (x ∷ shelf) none f = (away_here k x.key cursor b x.readers (omega (arith, none)) f.0, away_all k cursor b shelf (omega (arith, none)) f.1)

  begun_stand : (r : Reader) (key : KeyAt) (start : Start) (b : Board) → total (readers_of r.k) b.shelf ≡ 0 → stage_of r.k (own me (written me cause next b.facts h)) ≡ Starting key.list r.once start
      → AllByRecursion (λ x. StandHere me x (written me cause next b.facts h)) b.shelf → AllByRecursion (λ x. StandHere me x (written me cause next (begun r key b).facts h)) (begun r key b).shelf
  begun_stand r key start b none stage shelf = entered_stand key r (tells (facts.Started r.k key.cursor) b) stands (away_all r.k key.cursor b b.shelf none shelf)
    where
      stands : StandsAtKey me key (written me cause next (tells (facts.Started r.k key.cursor) b).facts h) r
      stands =
          ap (λ (l : List Event). stage_of r.k (own me l)) (written_append me cause next b.facts (facts.Started r.k key.cursor ∷ []) h)
          ∙ ap (λ t. stage_of r.k (cond t (fact_event me cause (next_written me cause next b.facts) (facts.Started r.k key.cursor) ∷ own me (written me cause next b.facts h)) (own me (written me cause next b.facts h)))) (eqb_self me)
          ∙ ap (λ t. cond t (started key.cursor (stage_of r.k (own me (written me cause next b.facts h)))) (stage_of r.k (own me (written me cause next b.facts h)))) (eqb_self r.k)
          ∙ ap (started key.cursor) stage

  started_stand : (start : Start) (r : Reader) (list : List (List ℕ)) (b : Board) → total (readers_of r.k) b.shelf ≡ 0 → stage_of r.k (own me (written me cause next b.facts h)) ≡ Starting list r.once start
      → AllByRecursion (λ x. StandHere me x (written me cause next b.facts h)) b.shelf → AllByRecursion (λ x. StandHere me x (written me cause next (started_by start r list b).facts h)) (started_by start r list b).shelf
  started_stand Oldest r list b none stage shelf = begun_stand r (record { list = list; cursor = oldest_cursor (length list) }) Oldest b none stage shelf
  started_stand Newest r list b none stage shelf =
      subst (AllByRecursion (λ (x : SpoolAt). StandHere me x (written me cause next (edges_from r.k list b).facts h))) (sym (edges-shelf r.k list b))
      (all-changed (λ (x : SpoolAt). StandHere me x (written me cause next b.facts h)) (λ (x : SpoolAt). StandHere me x (written me cause next (edges_from r.k list b).facts h)) b.shelf
      (λ x f. outs_still me cause next h b.facts (edges_from r.k list b).facts x.key x.readers (edges_outs r.k list b) f) shelf)
  started_stand (Given cursor) r list b none stage shelf = begun_stand r (record { list = list; cursor = cursor }) (Given cursor) b none stage shelf

  arrived_stand : (r : Reader) (list : List (List ℕ)) (start : Start) (s : SpoolsAt Hold) → stands r.k (board_of s) ≡ 0 → stage_of r.k (own me h) ≡ Starting list r.once start
      → AllByRecursion (λ x. StandHere me x h) s.shelf → AllByRecursion (λ x. StandHere me x (written me cause next (arrived r list start (board_of s)).facts h)) (arrived r list start (board_of s)).shelf
  arrived_stand r list start s none stage shelf =
      let outs = joined_outs r.k list (board_of s) in
      started_stand start r list (fold (joined r.k) (board_of s) list)
      (ap (total (readers_of r.k)) (joined-shelf r.k list (board_of s)) ∙ omega (arith, none))
      (away_stands me cause next h r.k [] (fold (joined r.k) (board_of s) list).facts (record { facts = outs.facts; are = outs.are; all = weaker IsOut (IsAway r.k) (out_away me cause next h r.k) outs.facts outs.all }) ∙ stage)
      (subst (AllByRecursion (λ (x : SpoolAt). StandHere me x (written me cause next (fold (joined r.k) (board_of s) list).facts h))) (sym (joined-shelf r.k list (board_of s)))
      (all-changed (λ (x : SpoolAt). StandHere me x h) (λ (x : SpoolAt). StandHere me x (written me cause next (fold (joined r.k) (board_of s) list).facts h)) s.shelf
      (λ x f. outs_still me cause next h [] (fold (joined r.k) (board_of s) list).facts x.key x.readers outs f) shelf))

pub arrival_stands : ArrivalStands
arrival_stands me next k list start once s h none stage shelf =
    subst (λ (l : List Event). AllByRecursion (λ (x : SpoolAt). StandHere me x l) (arrive_after k list start once s).shelf) (written_is me Answered next (arrive_facts k list start once s) h)
    (arrived_stand me Answered next h (record { k = k; once = once }) list start s none stage shelf)
