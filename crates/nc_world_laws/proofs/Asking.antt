-- What spools ask, they ask of the owner of the channel.
use Rattle.std.proofs.Common.{◌≡◌, ℕ, ◌+◌, Bool, true, false, cond, List, [], ◌∷◌, Option, refl, sym, ap}
use Rattle.std.specs.Prelude.{slice_index_or}
use Rattle.std.specs.List.{AllByRecursion}
use Rattle.nc_types.specs.Id.{Id}
use Rattle.nc_types.specs.Channel.{owner_of}
use Rattle.nc_types.specs.declared.start.Start.{Start}
use Rattle.nc_journal.specs.declared.word.EndedCause.{EndedCause}
use Rattle.nc_spool_state.specs.declared.place.Place.{Place}
use Rattle.nc_spool_state.specs.declared.edge.Edge.{Edge}
use Rattle.nc_spool_state.specs.declared.kept.Held.{Held}
use Rattle.nc_spool_state.specs.Key.{KeyAt, name_at, id_at}
use Rattle.nc_spool_state.specs.Spool.{SpoolAt}
use Rattle.nc_spool_state.specs.Starting.{StartingAt}
use Rattle.nc_spool_state.specs.Choice.{is_below}
use Rattle.nc_spool_state.specs.Edge.{is_behind}
use Rattle.nc_spool.specs.declared.fact.Fact.{Fact}
use Rattle.nc_spool.specs.declared.fact.Fact.TheVariants as facts
use Rattle.nc_spool.specs.declared.spools.Found.{Found}
use Rattle.nc_spool.specs.declared.board.Board.{Board}
use Rattle.nc_spool.specs.Board.{told as tells, looked, asked_from}
use Rattle.nc_spool.specs.Decide.{fence_look, fence_looks}
use Rattle.nc_spool.specs.Newest.{asked_edge, edges_from, edge_behind, edges_behind}
use Rattle.nc_spool.specs.Calls.{SpoolsAt, board_of, arrive_board, answer_board, edge_board, notice_board, gone_board, news_of}
use Rattle.nc_spool_laws.specs.Closed.{IsKept}
use Rattle.nc_spool_laws.proofs.Closing.{IsClosed}
use Rattle.nc_spool_laws.specs.Attended.{AnyNews, AnyAnswer, AnyLast, AnyKey, AnyFind}
use Rattle.nc_spool_laws.proofs.Lists.{all-append}
use Rattle.nc_spool_laws.proofs.Walk.{all-kept}
use Rattle.nc_worker_state.specs.Spooled.{Hold, Spooled, ask_line, fact_deed, facts_deeds, arrives, answers, edges, notices, loses, release}
use Rattle.nc_world_laws.proofs.WorkerKinds.{AsksOwner, AreDeeds}
use Rattle.nc_world_laws.proofs.Telling.{deeds_append}
use Rattle.std.specs.Prelude.{map}

module _ (workers : ℕ) where
  abbrev pub FactAsks : Fact → Type 0
  FactAsks (facts.Out o) = AsksOwner workers o.to (ask_line o.ask)
  FactAsks (facts.Started k cursor) = Unit {0}
  FactAsks (facts.Sent s) = Unit {0}
  FactAsks (facts.Ended k deleted) = Unit {0}

  abbrev pub BoardAsks : Board → Type 0
  BoardAsks b = (b.workers ≡ workers) × AllByRecursion FactAsks b.facts

  abbrev BesideAsks : SpoolAt → Board → Type 0
  BesideAsks s b = BoardAsks b

  abbrev ApartAsks : StartingAt → Board → Type 0
  ApartAsks s b = BoardAsks b

  told_asks : (fact : Fact) (b : Board) → FactAsks fact → BoardAsks b → BoardAsks (tells fact b)
  told_asks fact b f i = (i.0, all-append FactAsks b.facts (fact ∷ []) i.1 (f, tt))

  same_owner : (n : ℕ) (c : List ℕ) → n ≡ workers → owner_of workers c ≡ owner_of n c
  same_owner n c e = ap (λ (m : ℕ). owner_of m c) (sym e)

  looked_asks : (c : List ℕ) (after : Id) (fence : ℕ) (b : Board) → BoardAsks b → BoardAsks (looked c after fence b)
  looked_asks c after fence b i = (i.0, all-append FactAsks b.facts (_ ∷ []) i.1 (same_owner b.workers c i.0, tt))

  asked_asks : (key : KeyAt) (j : ℕ) (names : List (List ℕ)) (b : Board) → BoardAsks b → BoardAsks (asked_from key j names b)
  asked_asks key j [] b i = i
  asked_asks key j (c ∷ names) b i = asked_asks key (j + 1) names (looked c (id_at key j) 0 b) (looked_asks c (id_at key j) 0 b i)

  fence_asks : (time : ℕ) (key : KeyAt) (j : ℕ) (p : Place) (b : Board) → BoardAsks b → BoardAsks (fence_look time key j p b)
  fence_asks time key j p b i = by (is_below time p)
    where
      by : (t : Bool) → BoardAsks (cond t (looked (name_at key j) (id_at key j) time b) b)
      by true = looked_asks (name_at key j) (id_at key j) time b i
      by false = i

  fences_asks : (time : ℕ) (key : KeyAt) (j : ℕ) (places : List Place) (b : Board) → BoardAsks b → BoardAsks (fence_looks time key j places b)
  fences_asks time key j [] b i = i
  fences_asks time key j (p ∷ places) b i = fences_asks time key (j + 1) places (fence_look time key j p b) (fence_asks time key j p b i)

  edge_asks : (k : ℕ) (c : List ℕ) (fence : ℕ) (b : Board) → BoardAsks b → BoardAsks (asked_edge k c fence b)
  edge_asks k c fence b i = (i.0, all-append FactAsks b.facts (_ ∷ []) i.1 (same_owner b.workers c i.0, tt))

  edges_ask : (k : ℕ) (names : List (List ℕ)) (b : Board) → BoardAsks b → BoardAsks (edges_from k names b)
  edges_ask k [] b i = i
  edges_ask k (c ∷ names) b i = edges_ask k names (asked_edge k c 0 b) (edge_asks k c 0 b i)

  behind_asks : (time k : ℕ) (c : List ℕ) (e : Edge) (b : Board) → BoardAsks b → BoardAsks (edge_behind time k c e b)
  behind_asks time k c e b i = by (is_behind time e)
    where
      by : (t : Bool) → BoardAsks (cond t (asked_edge k c time b) b)
      by true = edge_asks k c time b i
      by false = i

  behinds_ask : (time k : ℕ) (list : List (List ℕ)) (j : ℕ) (edges : List Edge) (b : Board) → BoardAsks b → BoardAsks (edges_behind time k list j edges b)
  behinds_ask time k list j [] b i = i
  behinds_ask time k list j (e ∷ edges) b i = behinds_ask time k list (j + 1) edges (edge_behind time k (slice_index_or list j []) e b) (behind_asks time k (slice_index_or list j []) e b i)

  asks_closed : IsClosed AnyNews AnyAnswer AnyLast AnyKey AnyFind BoardAsks BesideAsks ApartAsks
  asks_closed = record {
    sends = record {
      part = λ k c b i. told_asks _ b (same_owner b.workers c i.0) i;
      end = λ k deleted b i. told_asks (facts.Ended k deleted) b tt i;
      ready = λ find s b was i. tt;
      send = λ find s r b ready i. told_asks _ b tt i;
      take = λ test s b was i. i;
      put = λ s b i. i;
      drop = λ s b i. i;
      open_new = λ key r b none fits i. asked_asks key 0 key.list b i;
      fits = λ find s ready. tt;
      enter = λ r s b i. i;
      fence = λ time s b was unasked i. fences_asks time s.key 0 s.places b i;
    };
    join = λ k c b i. told_asks _ b (same_owner b.workers c i.0) i;
    start = λ k cursor b i. told_asks (facts.Started k cursor) b tt i;
    leave = λ k s b i some. i;
    look = λ c j s b at i. looked_asks (name_at s.key j) (id_at s.key j) 0 b i;
    forget = λ c j n quiet s b at was i. i;
    quieten = λ number j quiet news s b at right none i. i;
    discover = λ number j quiet news s b at right past i. i;
    hear = λ c j quiet news s b at rests good past i. i;
    take_start = λ test s b was i. i;
    put_start = λ s b i. i;
    drop_start = λ s b i. i;
    new_start = λ r list b fits i. edges_ask r.k list b i;
    hear_edge = λ j floor last s b told i. i;
    newest_fits = λ s b i. tt;
    cursor_fits = λ cursor s b was i. tt;
    fence_edges = λ s b i. behinds_ask _ s.reader.k s.list 0 s.edges b i;
  }

  asks_kept : IsKept AnyNews AnyAnswer AnyLast AnyKey AnyFind BoardAsks BesideAsks ApartAsks
  asks_kept = all-kept AnyNews AnyAnswer AnyLast AnyKey AnyFind BoardAsks BesideAsks ApartAsks asks_closed

-- ---- calls as deeds

module _ (workers me : ℕ) where
  fact_of : (cause : EndedCause) (fact : Fact) → FactAsks workers fact → AreDeeds workers me (fact_deed me cause fact ∷ [])
  fact_of cause (facts.Out o) f = (f, tt)
  fact_of cause (facts.Started k cursor) f = (refl, tt)
  fact_of cause (facts.Sent s) f = (refl, tt)
  fact_of cause (facts.Ended k deleted) f = (refl, tt)

  facts_of : (cause : EndedCause) (fs : List Fact) → AllByRecursion (FactAsks workers) fs → AreDeeds workers me (facts_deeds me cause fs)
  facts_of cause [] f = tt
  facts_of cause (fact ∷ fs) f = deeds_append workers me (fact_deed me cause fact ∷ []) (facts_deeds me cause fs) (fact_of cause fact f.0) (facts_of cause fs f.1)

  pub releases_of : (hs : List (Held Hold)) → AreDeeds workers me (map (release me) hs)
  releases_of [] = tt
  releases_of (h ∷ hs) = (refl, releases_of hs)

  -- the deeds of a call are the worker's or ask owners, and the spools know the workers
  abbrev pub SpooledWell : Spooled → Type 0
  SpooledWell r = AreDeeds workers me r.deeds × (r.after.workers ≡ workers)

  of_board : (cause : EndedCause) (b : Board) → BoardAsks workers b → AreDeeds workers me (facts_deeds me cause b.facts) × (b.workers ≡ workers)
  of_board cause b i = (facts_of cause b.facts i.1, i.0)

  module _ (s : SpoolsAt Hold) (knows : s.workers ≡ workers) where
    begins : BoardAsks workers (board_of s)
    begins = (knows, tt)

    pub arrives_well : (k : ℕ) (list : List (List ℕ)) (start : Start) (once : Bool) → SpooledWell (arrives me k list start once s)
    arrives_well k list start once = of_board _ (arrive_board k list start once s) ((asks_kept workers).arrive _ list start (board_of s) tt begins)

    pub answers_well : (number q floor : ℕ) (found : Option (Found Hold)) → SpooledWell (answers me number q floor found s)
    answers_well number q floor found = of_board _ (answer_board number q floor found s) ((asks_kept workers).answer number _ _ (board_of s) tt begins)

    pub edges_well : (number floor : ℕ) (last : Id) → SpooledWell (edges me number floor last s)
    edges_well number floor last = of_board _ (edge_board number floor last s) ((asks_kept workers).edge_answer number floor last (board_of s) tt begins)

    pub notices_well : (c : List ℕ) (found : Found Hold) → SpooledWell (notices me c found s)
    notices_well c found = of_board _ (notice_board c found s) ((asks_kept workers).notice c (news_of found) (board_of s) tt begins)

    pub loses_well : (c members : List ℕ) → SpooledWell (loses me c members s)
    loses_well c members = of_board _ (gone_board c members s) ((asks_kept workers).removal c members (board_of s) begins)
