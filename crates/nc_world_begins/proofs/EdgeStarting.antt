-- Whom the answer to an edge starts, it starts by its edges.
use Rattle.std.proofs.Common.{◌≡◌, ℕ, suc, ◌≤◌, Bool, true, false, cond, List, [], ◌∷◌, length, map, Option, Some, None, refl, sym, ap, ◌∙◌, subst, arith, find}
use Rattle.std.specs.Prelude.{slice_set}
use Rattle.std.specs.List.{AllByRecursion}
use Rattle.std.proofs.lemmas.Bool.Decides.{nat_tests}
use Rattle.nc_types.specs.Id.{Id, no_id}
use Rattle.nc_types.specs.Cursor.{CursorAt}
use Rattle.nc_types.specs.declared.start.Start.TheVariants.{Newest}
use Rattle.nc_journal.specs.Edges.{edge_told, edges_of}
use Rattle.nc_journal.specs.History.{Along, own}
use Rattle.nc_journal.specs.Newest.{greatest_time, StartsByEdges}
use Rattle.nc_journal.specs.Standing.{Starting, stage_of}
use Rattle.nc_journal.specs.declared.event.Event.{Event}
use Rattle.nc_journal.specs.declared.event.Event.TheVariants.{Took}
use Rattle.nc_journal.specs.declared.word.AlertKind.{AlertKind}
use Rattle.nc_journal.specs.declared.word.EndedCause.{EndedCause}
use Rattle.nc_journal.specs.declared.word.EndedCause.TheVariants.{Answered}
use Rattle.nc_spool_state.specs.declared.edge.Edge.{Edge}
use Rattle.nc_spool_state.specs.declared.edge.Edge.TheVariants.{Awaited, Known}
use Rattle.nc_spool_state.specs.declared.spool.Reader.{Reader}
use Rattle.nc_spool_state.specs.Edge.{is_awaited, is_behind, is_any_awaited, is_any_behind, edge_awaiting, newest_cursor}
use Rattle.nc_spool_state.specs.Shelf.{without_first}
use Rattle.nc_spool_state.specs.Starting.{StartingAt, with_edge, start_awaits}
use Rattle.nc_spool.specs.declared.board.Board.{Board}
use Rattle.nc_spool.specs.declared.fact.Fact.{Fact}
use Rattle.nc_spool.specs.declared.fact.Fact.TheVariants as facts
use Rattle.nc_spool.specs.Board.{told as tells}
use Rattle.nc_spool.specs.Calls.{board_of, edge_facts}
use Rattle.nc_spool.specs.Newest.{begun, parked, edges_behind, second_by, answered_all, edge_heard_at, edge_heard, edge_answered_by, edge_answered}
use Rattle.nc_spool_laws.proofs.Lists.{all-found}
use Rattle.nc_rests.specs.Owners.{IsByOwner}
use Rattle.nc_rests.proofs.Lists.{at_length}
use Rattle.nc_rests.proofs.Received.{eqb_self}
use Rattle.nc_starts.specs.Starts.{StartsThen, StartedThen}
use Rattle.nc_starts.specs.EdgesTold.{EdgesTold, Once, Twice, edge_last}
use Rattle.nc_starts.proofs.Asked.{starts_know}
use Rattle.nc_starts.proofs.Drawn.{edges_cursor}
use Rattle.nc_starts.proofs.Known.{told_starts}
use Rattle.nc_world_edges.specs.Edges.{IsToldFor}
use Rattle.nc_world_members.specs.Stages.{Starts}
use Rattle.nc_world_told.specs.Written.{fact_event, fact_next, written, next_written}
use Rattle.nc_world_told.proofs.Sends.{Appends, IsOut, entered_outs}
use Rattle.nc_world_told.proofs.Written.{written_is, written_append}
use Rattle.nc_world_begins.specs.Knowing.{FirstEdge, FirstKnown, SecondEdge, StillKnown, SecondKnown, FirstEdges, SecondEdges, EdgesKnown, StartHolds}
use Rattle.nc_world_begins.specs.Calls.{EdgesGive, EdgeStarts}
use Rattle.nc_world_begins.proofs.EdgePlaces.{answered_at, known_answered, set_length, fails_at, map_at}
use Rattle.nc_world_begins.proofs.EdgeSeconds.{behinds_outs}

-- ---- alerts start nobody

outs_written : (workers me : ℕ) (cause : EndedCause) (next : ℕ → ℕ) (fs : List Fact) (h : List Event) → AllByRecursion IsOut fs → Along (StartedThen workers) h → Along (StartedThen workers) (written me cause next fs h)
outs_written workers me cause next [] h outs along = along
outs_written workers me cause next (facts.Out o ∷ fs) h outs along = outs_written workers me cause (fact_next me cause next (facts.Out o)) fs (fact_event me cause next (facts.Out o) ∷ h) outs.1 (along, tt)
outs_written workers me cause next (facts.Started k cursor ∷ fs) h outs along = absurd outs.0
outs_written workers me cause next (facts.Sent s ∷ fs) h outs along = absurd outs.0
outs_written workers me cause next (facts.Ended k deleted ∷ fs) h outs along = absurd outs.0

-- ---- what the edges told

-- h is the history that the answer came to
module _ (workers me drawn : ℕ) (h : List Event) (give : EdgesGive workers me drawn h) where
  fenced : (floor time : ℕ) → is_behind time (Known no_id floor) ≡ false → time ≤ floor
  fenced floor time is = grind (arith, nat_tests)

  told_once : (k n floor time : ℕ) (c : List ℕ) (last first : Id) → edges_of me k c h ≡ edge_told n floor last ∷ [] → last ≡ first → time ≤ floor → EdgesTold time first (edges_of me k c h)
  told_once k n floor time c last first are same fence = subst (EdgesTold time first) (sym are) (Once (edge_told n floor last) same fence)

  -- a first edge whose floor isn't below the time is the only one
  first_told : (k : ℕ) (c : List ℕ) (time : ℕ) (last : Id) (e : Edge) → is_awaited e ≡ false → is_behind time e ≡ false → edge_last e ≡ last → FirstEdge workers me k c h e → EdgesTold time last (edges_of me k c h)
  first_told k c time last (Awaited x) told behind same known = absurd cc
  first_told k c time last (Known l f) told behind same (FirstKnown n floor id asks has) =
      told_once k n floor time c id last ((starts_know workers me k c h (give.done k c)).once n (edge_told n floor id) asks has) same (fenced floor time behind)

  -- with a cursor there is one that isn't, or a second one
  second_told : (k : ℕ) (c : List ℕ) (time : ℕ) (last : Id) (e : Edge) → is_awaited e ≡ false → SecondEdge workers me k c time last h e → EdgesTold time last (edges_of me k c h)
  second_told k c time last (Awaited x) told known = absurd cc
  second_told k c time last (Known l f) told (StillKnown n floor asks has fence) = told_once k n floor time c last last ((starts_know workers me k c h (give.done k c)).once n (edge_told n floor last) asks has) refl fence
  second_told k c time last (Known l f) told (SecondKnown n floor m later last_later asks apart first below has fence) =
      subst (EdgesTold time last) (sym ((starts_know workers me k c h (give.done k c)).twice n m (edge_told n floor last) (edge_told m later last_later) asks first has apart))
      (Twice (edge_told m later last_later) (edge_told n floor last) refl below fence)

  -- h1 is the one with the answer, with the same edges
  module _ (h1 : List Event) (same : (k : ℕ) (c : List ℕ) → edges_of me k c h1 ≡ edges_of me k c h) (by_owner : AllByRecursion (IsByOwner workers) h1) where
    -- so they give the start
    first_starts : (k : ℕ) (list : List (List ℕ)) (edges : List Edge) → length edges ≡ length list → is_any_awaited edges ≡ false → is_any_behind (newest_cursor edges).time edges ≡ false → FirstEdges workers me k list edges h
        → StartsByEdges workers me k list (newest_cursor edges) h1
    first_starts k list edges each told behind known =
        subst (λ (cur : CursorAt). StartsByEdges workers me k list cur h1) (sym (edges_cursor edges))
        (told_starts workers me k list (map edge_last edges) h1 by_owner (map_length edges ∙ each) (λ j c last at_list at_lasts.
        let e = at_length list edges j c each at_list in
        subst (EdgesTold (greatest_time (map edge_last edges)) last) (sym (same k c))
        (first_told k c (greatest_time (map edge_last edges)) last e.0 (fails_at is_awaited edges j e.0 told e.1)
        (subst (λ (time : ℕ). is_behind time e.0 ≡ false) (ap (λ (cur : CursorAt). cur.time) (edges_cursor edges)) (fails_at (is_behind (newest_cursor edges).time) edges j e.0 behind e.1))
        (map_at edge_last edges j e.0 last e.1 at_lasts) (known j c e.0 at_list e.1))))
      where
        map_length : (es : List Edge) → length (map edge_last es) ≡ length es
        map_length [] = refl
        map_length (e ∷ es) = ap suc (map_length es)

    second_starts : (k : ℕ) (list : List (List ℕ)) (cur : CursorAt) (edges : List Edge) → length edges ≡ length list → is_any_awaited edges ≡ false → SecondEdges workers me k list cur edges h → StartsByEdges workers me k list cur h1
    second_starts k list cur edges each told known =
        subst (λ (x : CursorAt). StartsByEdges workers me k list x h1) (sym known.cursor)
        (told_starts workers me k list known.lasts h1 by_owner known.lasts_each (λ j c last at_list at_lasts.
        let e = at_length list edges j c each at_list in
        subst (EdgesTold (greatest_time known.lasts) last) (sym (same k c))
        (second_told k c (greatest_time known.lasts) last e.0 (fails_at is_awaited edges j e.0 told e.1)
        (subst (λ (time : ℕ). SecondEdge workers me k c time last h e.0) (ap (λ (x : CursorAt). x.time) known.cursor) (known.each j c last e.0 at_list at_lasts e.1)))))

-- ---- the step

module _ (workers me : ℕ) (next : ℕ → ℕ) (h1 : List Event) where
  abbrev Lawful : Board → Type 0
  Lawful b = Along (StartedThen workers) (written me Answered next b.facts h1)

  outs_lawful : (xs ys : List Fact) → Appends IsOut xs ys → Along (StartedThen workers) (written me Answered next xs h1) → Along (StartedThen workers) (written me Answered next ys h1)
  outs_lawful xs ys a along =
      subst (λ (l : List Fact). Along (StartedThen workers) (written me Answered next l h1)) (sym a.are)
      (subst (Along (StartedThen workers)) (sym (written_append me Answered next xs a.facts h1)) (outs_written workers me Answered (next_written me Answered next xs) a.facts (written me Answered next xs h1) a.all along))

  -- who begins while nothing was told, is started on the history with the answer
  begun_lawful : (r : Reader) (list : List (List ℕ)) (cur : CursorAt) (b : Board) → b.facts ≡ [] → stage_of r.k (own me h1) ≡ Starting list r.once Newest → StartsByEdges workers me r.k list cur h1 → Lawful b
      → Lawful (begun r (record { list = list; cursor = cur }) b)
  begun_lawful r list cur b bare stage starts along =
      let b1 = tells (facts.Started r.k cur) b in
      outs_lawful b1.facts (begun r (record { list = list; cursor = cur }) b).facts (entered_outs (record { list = list; cursor = cur }) r b1)
      (subst (Along (StartedThen workers)) (sym (written_append me Answered next b.facts (facts.Started r.k cur ∷ []) h1)) (
        along,
        subst (λ (l : List Fact). StartsThen workers me r.k cur (written me Answered next l h1) (stage_of r.k (own me (written me Answered next l h1)))) (sym bare) (subst (StartsThen workers me r.k cur h1) (sym stage) starts),
      ))

module _ (workers me drawn : ℕ) (next : ℕ → ℕ) (h h1 : List Event) (give : EdgesGive workers me drawn h) (same : (k : ℕ) (c : List ℕ) → edges_of me k c h1 ≡ edges_of me k c h) (by_owner : AllByRecursion (IsByOwner workers) h1)
    (number floor from : ℕ) (last : Id) (told_for : IsToldFor workers me from number floor last h) where
  heard_lawful : (s : StartingAt) (b : Board) → StartHolds workers me h s → stage_of s.reader.k (own me h1) ≡ Starting s.list s.reader.once Newest → b.facts ≡ [] → Lawful workers me next h1 b
      → Lawful workers me next h1 (edge_heard number (Known last floor) s b)
  heard_lawful s b start stage bare along = at (edge_awaiting number s.edges) refl
    where
      at : (o : Option ℕ) → edge_awaiting number s.edges ≡ o → Lawful workers me next h1 (edge_heard_at o (Known last floor) s b)
      at None was = along
      at (Some j) was = go (is_any_awaited (slice_set s.edges j (Known last floor))) refl
        where
          each : length (slice_set s.edges j (Known last floor)) ≡ length s.list
          each = set_length s.edges j (Known last floor) ∙ start.each

          known : EdgesKnown workers me s.reader.k s.list s.cursor (slice_set s.edges j (Known last floor)) h
          known = known_answered workers me from number drawn floor last h give told_for s.reader.k s.list s.cursor s.edges j (answered_at number s.edges j was) start.known

          second : (edges : List Edge) → length edges ≡ length s.list → is_any_awaited edges ≡ false → FirstEdges workers me s.reader.k s.list edges h → (t : Bool) → is_any_behind (newest_cursor edges).time edges ≡ t
              → Lawful workers me next h1 (second_by t s.reader s.list edges (newest_cursor edges) b)
          second edges edges_each told edges_known true behind = outs_lawful workers me next h1 b.facts (edges_behind (newest_cursor edges).time s.reader.k s.list 0 edges b).facts
              (behinds_outs (newest_cursor edges).time s.reader.k s.list 0 edges b) along
          second edges edges_each told edges_known false behind =
              begun_lawful workers me next h1 s.reader s.list (newest_cursor edges) b bare stage (first_starts workers me drawn h give h1 same by_owner s.reader.k s.list edges edges_each told behind edges_known) along

          all : (o : Option CursorAt) → EdgesKnown workers me s.reader.k s.list o (slice_set s.edges j (Known last floor)) h → is_any_awaited (slice_set s.edges j (Known last floor)) ≡ false
              → Lawful workers me next h1 (answered_all o s.reader s.list (slice_set s.edges j (Known last floor)) b)
          all None o_known told = second (slice_set s.edges j (Known last floor)) each told o_known (is_any_behind (newest_cursor (slice_set s.edges j (Known last floor))).time (slice_set s.edges j (Known last floor))) refl
          all (Some cursor) o_known told =
              begun_lawful workers me next h1 s.reader s.list cursor b bare stage (second_starts workers me drawn h give h1 same by_owner s.reader.k s.list cursor (slice_set s.edges j (Known last floor)) each told o_known) along

          go : (t : Bool) → is_any_awaited (slice_set s.edges j (Known last floor)) ≡ t
              → Lawful workers me next h1 (cond t (parked (with_edge j (Known last floor) s) b) (answered_all s.cursor s.reader s.list (slice_set s.edges j (Known last floor)) b))
          go true waits = along
          go false told = all s.cursor known told

  answered_lawful : (b : Board) → AllByRecursion (StartHolds workers me h) b.starts → AllByRecursion (Starts me h1) b.starts → b.facts ≡ [] → Lawful workers me next h1 b → Lawful workers me next h1 (edge_answered number (Known last floor) b)
  answered_lawful b holds starts bare along = by (find (start_awaits number) b.starts) refl
    where
      by : (o : Option StartingAt) → find (start_awaits number) b.starts ≡ o → Lawful workers me next h1 (edge_answered_by o number (Known last floor) (record b { starts = without_first (start_awaits number) b.starts }))
      by None was = along
      by (Some s) was = heard_lawful s (record b { starts = without_first (start_awaits number) b.starts }) (all-found (StartHolds workers me h) (start_awaits number) b.starts s was holds)
          (all-found (Starts me h1) (start_awaits number) b.starts s was starts) bare along

-- what is taken moves nobody
taken_starts : (me from n : ℕ) (kind : AlertKind) (h : List Event) (starts : List StartingAt) → AllByRecursion (Starts me h) starts → AllByRecursion (Starts me (Took me from n kind ∷ h)) starts
taken_starts me from n kind h [] all = tt
taken_starts me from n kind h (s ∷ starts) all =
    (ap (λ b. stage_of s.reader.k (cond b (Took me from n kind ∷ own me h) (own me h))) (eqb_self me) ∙ all.0, taken_starts me from n kind h starts all.1)

pub edge_starts : EdgeStarts
edge_starts workers me from n number q floor last kind next h s give told_for holds starts along =
    subst (Along (StartedThen workers)) (written_is me Answered next (edge_facts number floor last s) (Took me from n kind ∷ h))
    (answered_lawful workers me s.next next h (Took me from n kind ∷ h) give (λ k c. refl) (tt, give.by_owner) number floor from last told_for (board_of s) holds (taken_starts me from n kind h s.starts starts) refl (along, tt))
