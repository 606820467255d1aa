-- The answer to an edge leaves what is so of each start.
use Rattle.std.proofs.Common.{◌≡◌, ℕ, ◌+◌, ◌≤◌, Bool, true, false, cond, List, [], ◌∷◌, length, Option, Some, None, refl, sym, ap, ◌∙◌, subst, arith, find}
use Rattle.std.specs.Prelude.{◌==◌, slice_set}
use Rattle.std.specs.List.{AllByRecursion}
use Rattle.std.proofs.lemmas.Bool.Decides.{nat_tests}
use Rattle.nc_types.specs.Id.{Id}
use Rattle.nc_types.specs.Cursor.{CursorAt}
use Rattle.nc_journal.specs.declared.event.Event.{Event}
use Rattle.nc_journal.specs.declared.event.Event.TheVariants.{Took}
use Rattle.nc_journal.specs.declared.word.EndedCause.TheVariants.{Answered}
use Rattle.nc_spool_state.specs.declared.edge.Edge.{Edge}
use Rattle.nc_spool_state.specs.declared.edge.Edge.TheVariants.{Known}
use Rattle.nc_spool_state.specs.declared.spool.Reader.{Reader}
use Rattle.nc_spool_state.specs.Edge.{is_any_awaited, is_any_behind, edge_awaiting, newest_cursor}
use Rattle.nc_spool_state.specs.Key.{KeyAt}
use Rattle.nc_spool_state.specs.Shelf.{spool_of, others, without_first}
use Rattle.nc_spool_state.specs.Spool.{SpoolAt, with_reader}
use Rattle.nc_spool_state.specs.Starting.{StartingAt, with_edge, start_awaits}
use Rattle.nc_spool.specs.declared.board.Board.{Board}
use Rattle.nc_spool.specs.declared.fact.Fact.{Fact}
use Rattle.nc_spool.specs.declared.fact.Fact.TheVariants as facts
use Rattle.nc_spool.specs.Board.{told as tells, shelved, standing, opened, entered}
use Rattle.nc_spool.specs.Calls.{board_of, edge_facts, edge_after}
use Rattle.nc_spool.specs.Newest.{begun, parked, edges_behind, behind_edges, second_by, answered_all, edge_heard_at, edge_heard, edge_answered_by, edge_answered}
use Rattle.nc_spool_laws.specs.Numbers.{one, total}
use Rattle.nc_spool_laws.specs.Tally.{readers_of, start_at, StandOnce}
use Rattle.nc_spool_laws.proofs.Lists.{all-append, all-without, all-found, all-changed}
use Rattle.nc_spool_laws.proofs.Same.{asked-starts, behinds-starts}
use Rattle.nc_spool_laws.proofs.Totals.{total-without}
use Rattle.nc_rests.proofs.Received.{eqb_self}
use Rattle.nc_world_edges.specs.Edges.{IsToldFor}
use Rattle.nc_world_told.specs.Written.{written}
use Rattle.nc_world_told.proofs.Sends.{Appends}
use Rattle.nc_world_told.proofs.Staying.{all_both}
use Rattle.nc_world_told.proofs.Written.{written_is}
use Rattle.nc_world_begins.specs.Knowing.{EdgesKnown, StartHolds}
use Rattle.nc_world_begins.specs.Calls.{EdgesGive, EdgeHolds}
use Rattle.nc_world_begins.proofs.EdgeNumbers.{IsAside, IsSame, took_same, same_written, begun_aside}
use Rattle.nc_world_begins.proofs.EdgePlaces.{start_kept, answered_at, known_answered, set_length}
use Rattle.nc_world_begins.proofs.EdgeSeconds.{behinds_aside, behinds_length, behinds_awaited, seconds_known}

-- ---- the other starts are of other subscribers

abbrev IsOfAnother : ℕ → StartingAt → Type 0
IsOfAnother k s = (k == s.reader.k) ≡ false

none_starts : (k : ℕ) (starts : List StartingAt) → total (start_at k) starts ≡ 0 → AllByRecursion (IsOfAnother k) starts
none_starts k [] none = tt
none_starts k (s ∷ starts) none = (by (s.reader.k == k) refl none, none_starts k starts (omega (arith, none)))
  where
    flipped : (a b : ℕ) → (a == b) ≡ false → (b == a) ≡ false
    flipped a b e = grind (arith, nat_tests)

    by : (t : Bool) → (s.reader.k == k) ≡ t → one t + total (start_at k) starts ≡ 0 → (k == s.reader.k) ≡ false
    by true was e = absurd (omega (arith, e))
    by false was e = flipped s.reader.k k was

others_start : (test : StartingAt → Bool) (s : StartingAt) (b : Board) → StandOnce b → find test b.starts ≡ Some s → AllByRecursion (IsOfAnother s.reader.k) (without_first test b.starts)
others_start test s b once was =
    none_starts s.reader.k (without_first test b.starts)
    (few (total (readers_of s.reader.k) b.shelf) (start_at s.reader.k s) (total (start_at s.reader.k) (without_first test b.starts)) (total (start_at s.reader.k) b.starts)
    (ap one (eqb_self s.reader.k)) (total-without (start_at s.reader.k) test b.starts s was) (once s.reader.k))
  where
    few : (w x y z : ℕ) → x ≡ 1 → x + y ≡ z → w + z ≤ 1 → y ≡ 0
    few w x y z a b c = omega (arith, a, b, c)

entered_starts : (key : KeyAt) (r : Reader) (b : Board) → (entered key r b).starts ≡ b.starts
entered_starts key r b = by (spool_of key b.shelf)
  where
    by : (o : Option SpoolAt) → (shelved (with_reader r (standing o key b)) (opened o key (record b { shelf = others key b.shelf }))).starts ≡ b.starts
    by None = asked-starts key 0 key.list (record b { shelf = others key b.shelf })
    by (Some s) = refl

-- ---- what is so after each way to go on

-- h is the history that the answer came to, and h1 the one with the answer
module _ (workers me : ℕ) (next : ℕ → ℕ) (h h1 : List Event) (same : (k : ℕ) → IsSame workers me k h h1) where
  abbrev Holds : Board → Type 0
  Holds b = AllByRecursion (StartHolds workers me (written me Answered next b.facts h1)) b.starts

  -- the others stay as they are, while facts are told that ask for none of their edges
  all_kept : (k : ℕ) (starts : List StartingAt) (xs ys : List Fact) → ((s : StartingAt) → IsOfAnother k s → Appends (IsAside s.reader.k) xs ys) → AllByRecursion (IsOfAnother k) starts
      → AllByRecursion (StartHolds workers me (written me Answered next xs h1)) starts → AllByRecursion (StartHolds workers me (written me Answered next ys h1)) starts
  all_kept k starts xs ys aside apart holds =
      all-changed (λ (s : StartingAt). StartHolds workers me (written me Answered next xs h1) s × IsOfAnother k s) (StartHolds workers me (written me Answered next ys h1)) starts
      (λ s x. start_kept workers me (written me Answered next xs h1) (written me Answered next ys h1) s (same_written workers me s.reader.k Answered next xs ys h1 (aside s x.1)) x.0)
      (all_both (StartHolds workers me (written me Answered next xs h1)) (IsOfAnother k) starts holds apart)

  -- one that begins leaves the starts
  begun_holds : (r : Reader) (key : KeyAt) (b : Board) → AllByRecursion (IsOfAnother r.k) b.starts → Holds b → Holds (begun r key b)
  begun_holds r key b apart holds =
      subst (AllByRecursion (StartHolds workers me (written me Answered next (begun r key b).facts h1))) (sym (entered_starts key r (tells (facts.Started r.k key.cursor) b)))
      (all_kept r.k b.starts b.facts (begun r key b).facts (λ s apart. begun_aside s.reader.k r key b) apart holds)

  -- one that goes on waiting is put behind them
  parked_holds : (s : StartingAt) (b : Board) → StartHolds workers me (written me Answered next b.facts h1) s → Holds b → Holds (parked s b)
  parked_holds s b one holds = all-append (StartHolds workers me (written me Answered next b.facts h1)) b.starts (s ∷ []) holds (one, tt)

  module _ (number floor drawn from : ℕ) (last : Id) (give : EdgesGive workers me drawn h) (told_for : IsToldFor workers me from number floor last h) where
    -- each first edge was answered: it asks for second ones, or begins
    second_holds : (s : StartingAt) (edges : List Edge) (b : Board) → StartHolds workers me h s → length edges ≡ length s.list → EdgesKnown workers me s.reader.k s.list None edges h → is_any_awaited edges ≡ false
        → b.workers ≡ workers → b.next ≡ drawn → b.facts ≡ [] → AllByRecursion (IsOfAnother s.reader.k) b.starts → Holds b
        → (t : Bool) → is_any_behind (newest_cursor edges).time edges ≡ t → Holds (second_by t s.reader s.list edges (newest_cursor edges) b)
    second_holds s edges b start each known told workers_same next_same bare apart holds true behind =
        parked_holds (record { reader = s.reader; list = s.list; edges = behind_edges (newest_cursor edges).time s.reader.k s.list 0 edges b; cursor = Some (newest_cursor edges) }) (edges_behind (newest_cursor edges).time s.reader.k s.list 0 edges b)
        (record {
          distinct = start.distinct;
          each = behinds_length (newest_cursor edges).time s.reader.k s.list 0 edges b ∙ each;
          known = seconds_known workers me next h h1 same drawn give s.reader.k s.list edges b workers_same next_same bare start.distinct each told known;
          awaits = behinds_awaited (newest_cursor edges).time s.reader.k s.list 0 edges b behind;
        })
        (subst (AllByRecursion (StartHolds workers me (written me Answered next (edges_behind (newest_cursor edges).time s.reader.k s.list 0 edges b).facts h1))) (sym (behinds-starts (newest_cursor edges).time s.reader.k s.list 0 edges b))
        (all_kept s.reader.k b.starts b.facts (edges_behind (newest_cursor edges).time s.reader.k s.list 0 edges b).facts (λ x other. behinds_aside x.reader.k (newest_cursor edges).time s.reader.k s.list 0 edges b other) apart holds))
    second_holds s edges b start each known told workers_same next_same bare apart holds false behind = begun_holds s.reader (record { list = s.list; cursor = newest_cursor edges }) b apart holds

    -- the answer for one that was taken from the others
    heard_holds : (s : StartingAt) (b : Board) → StartHolds workers me h s → b.workers ≡ workers → b.next ≡ drawn → b.facts ≡ [] → AllByRecursion (IsOfAnother s.reader.k) b.starts → Holds b → Holds (edge_heard number (Known last floor) s b)
    heard_holds s b start workers_same next_same bare apart holds = at (edge_awaiting number s.edges) refl
      where
        -- it holds still where the answer came
        arrived : (x : StartingAt) → StartHolds workers me h x → StartHolds workers me (written me Answered next b.facts h1) x
        arrived x x_holds = subst (λ (l : List Fact). StartHolds workers me (written me Answered next l h1) x) (sym bare) (start_kept workers me h h1 x (same x.reader.k) x_holds)

        at : (o : Option ℕ) → edge_awaiting number s.edges ≡ o → Holds (edge_heard_at o (Known last floor) s b)
        at None was = parked_holds s b (arrived s start) holds
        at (Some j) was = go (is_any_awaited (slice_set s.edges j (Known last floor))) refl
          where
            each : length (slice_set s.edges j (Known last floor)) ≡ length s.list
            each = set_length s.edges j (Known last floor) ∙ start.each

            known : EdgesKnown workers me s.reader.k s.list s.cursor (slice_set s.edges j (Known last floor)) h
            known = known_answered workers me from number drawn floor last h give told_for s.reader.k s.list s.cursor s.edges j (answered_at number s.edges j was) start.known

            all : (o : Option CursorAt) → EdgesKnown workers me s.reader.k s.list o (slice_set s.edges j (Known last floor)) h → is_any_awaited (slice_set s.edges j (Known last floor)) ≡ false
                → Holds (answered_all o s.reader s.list (slice_set s.edges j (Known last floor)) b)
            all None o_known told = second_holds s (slice_set s.edges j (Known last floor)) b start each o_known told workers_same next_same bare apart holds
                (is_any_behind (newest_cursor (slice_set s.edges j (Known last floor))).time (slice_set s.edges j (Known last floor))) refl
            all (Some cursor) o_known told = begun_holds s.reader (record { list = s.list; cursor = cursor }) b apart holds

            go : (t : Bool) → is_any_awaited (slice_set s.edges j (Known last floor)) ≡ t
                → Holds (cond t (parked (with_edge j (Known last floor) s) b) (answered_all s.cursor s.reader s.list (slice_set s.edges j (Known last floor)) b))
            go true waits = parked_holds (with_edge j (Known last floor) s) b (arrived (with_edge j (Known last floor) s) (record { distinct = start.distinct; each = each; known = known; awaits = waits })) holds
            go false told = all s.cursor known told

    answered_holds : (b : Board) → b.workers ≡ workers → b.next ≡ drawn → b.facts ≡ [] → StandOnce b → AllByRecursion (StartHolds workers me h) b.starts → Holds (edge_answered number (Known last floor) b)
    answered_holds b workers_same next_same bare once starts = by (find (start_awaits number) b.starts) refl
      where
        holds : AllByRecursion (StartHolds workers me (written me Answered next b.facts h1)) (without_first (start_awaits number) b.starts)
        holds = subst (λ (l : List Fact). AllByRecursion (StartHolds workers me (written me Answered next l h1)) (without_first (start_awaits number) b.starts)) (sym bare)
            (all-changed (StartHolds workers me h) (StartHolds workers me h1) (without_first (start_awaits number) b.starts) (λ x x_holds. start_kept workers me h h1 x (same x.reader.k) x_holds)
            (all-without (StartHolds workers me h) (start_awaits number) b.starts starts))

        by : (o : Option StartingAt) → find (start_awaits number) b.starts ≡ o → Holds (edge_answered_by o number (Known last floor) (record b { starts = without_first (start_awaits number) b.starts }))
        by None was = holds
        by (Some s) was = heard_holds s (record b { starts = without_first (start_awaits number) b.starts }) (all-found (StartHolds workers me h) (start_awaits number) b.starts s was starts)
            workers_same next_same bare (others_start (start_awaits number) s b once was) holds

pub edge_holds : EdgeHolds
edge_holds workers me from n number q floor last kind next h s give told_for same_workers once starts =
    subst (λ (l : List Event). AllByRecursion (StartHolds workers me l) (edge_after number floor last s).starts) (written_is me Answered next (edge_facts number floor last s) (Took me from n kind ∷ h))
    (answered_holds workers me next h (Took me from n kind ∷ h) (λ k. took_same workers me k from n kind h) number floor s.next from last give told_for (board_of s) same_workers refl refl once starts)
