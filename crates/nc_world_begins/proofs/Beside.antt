-- Facts that ask for no edge of a subscriber: those of the answer to a look, of a notice and of a channel's removal, and those of calls for other subscribers.
use Rattle.std.proofs.Common.{◌≡◌, ℕ, ◌+◌, Bool, true, false, cond, List, [], ◌∷◌, ◌++◌, Option, Some, None, refl, find, length}
use Rattle.std.specs.Prelude.{◌==◌, fold, slice_index_or}
use Rattle.std.specs.List.{AllByRecursion}
use Rattle.nc_types.specs.Id.{is_past}
use Rattle.nc_types.specs.Channel.{owner_of}
use Rattle.nc_types.specs.Cursor.{CursorAt}
use Rattle.nc_types.specs.declared.start.Start.{Start}
use Rattle.nc_types.specs.declared.start.Start.TheVariants as starts
use Rattle.nc_journal.specs.declared.word.EndedCause.{EndedCause}
use Rattle.nc_owner_laws.specs.Weave.{numbered}
use Rattle.nc_spool_state.specs.declared.edge.Edge.{Edge}
use Rattle.nc_spool_state.specs.declared.hear.Heard.{Heard}
use Rattle.nc_spool_state.specs.declared.hear.Heard.TheVariants.{Stays, Forgets, Looks, Finds}
use Rattle.nc_spool_state.specs.declared.hear.News.{News}
use Rattle.nc_spool_state.specs.declared.place.Place.{Place}
use Rattle.nc_spool_state.specs.declared.place.Quiet.{Quiet}
use Rattle.nc_spool_state.specs.declared.spool.Reader.{Reader}
use Rattle.nc_spool_state.specs.Choice.{is_below}
use Rattle.nc_spool_state.specs.Edge.{is_any_awaited, is_any_behind, is_behind, edge_awaiting, newest_cursor}
use Rattle.nc_spool_state.specs.Hear.{learned, notice_says, gone_says}
use Rattle.nc_spool_state.specs.Key.{KeyAt, name_at, id_at, place_of}
use Rattle.nc_spool_state.specs.Place.{place_awaiting}
use Rattle.nc_spool_state.specs.Shelf.{spool_of, others, without_first, keys_with}
use Rattle.nc_spool_state.specs.Spool.{SpoolAt, awaits, place_at, with_place, has_reader}
use Rattle.nc_spool_state.specs.Starting.{StartingAt, with_edge, start_awaits}
use Rattle.nc_spool.specs.declared.ask.Ask.{Ask}
use Rattle.nc_spool.specs.declared.ask.Ask.TheVariants as asks
use Rattle.nc_spool.specs.declared.board.Board.{Board}
use Rattle.nc_spool.specs.declared.fact.Fact.{Fact}
use Rattle.nc_spool.specs.declared.fact.Fact.TheVariants as facts
use Rattle.nc_spool.specs.Arrive.{oldest_cursor, joined, started_by, arrived}
use Rattle.nc_spool.specs.Board.{told as tells, made, looked, asked_from, entered, parted}
use Rattle.nc_spool.specs.Decide.{delivery, sending, fence_look, fence_looks, decided}
use Rattle.nc_spool.specs.Depart.{other_names, names_with, left, left_by, member_gone, member_gone_by, gone}
use Rattle.nc_spool.specs.Hear.{heeded, answered, answered_by, answered_at, noticed, noticed_at, noticed_by, noticed_place, emptied_at, emptied_by, emptied_place}
use Rattle.nc_spool.specs.Newest.{begun, edges_from, asked_edge, edge_behind, edges_behind, second_by, answered_all, went_on, edge_heard_at, edge_answered, edge_answered_by}
use Rattle.nc_spool_laws.proofs.Closing.{IsSending}
use Rattle.nc_spool_laws.specs.Attended.{AnyLast, AnyKey, AnyNews, AnyAnswer, AnyFind}
use Rattle.nc_spool_laws.proofs.Lists.{all-append, all-found}
use Rattle.nc_spool_laws.proofs.Walk.{entered-kept, decided-kept}
use Rattle.nc_worker_state.specs.Deed.{told}
use Rattle.nc_worker_state.specs.Spooled.{ask_line, facts_deeds}
use Rattle.nc_world_begins.proofs.Staying.{IsBeside, MakesBeside}

module _ (k : ℕ) where
  abbrev pub AskBeside : Ask → Type 0
  AskBeside (asks.Edge number j c fence) = (j == k) ≡ false
  AskBeside ask = Unit {0}

  abbrev pub FactBeside : Fact → Type 0
  FactBeside (facts.Out o) = AskBeside o.ask
  FactBeside f = Unit {0}

  abbrev pub AreBeside : Board → Type 0
  AreBeside b = AllByRecursion FactBeside b.facts

  abbrev pub SpoolBeside : SpoolAt → Board → Type 0
  SpoolBeside s b = AllByRecursion FactBeside b.facts

  abbrev pub StartBeside : StartingAt → Board → Type 0
  StartBeside s b = AllByRecursion FactBeside b.facts

  -- another subscriber's start
  abbrev pub IsOthers : StartingAt → Type 0
  IsOthers s = (s.reader.k == k) ≡ false

  out_beside : (c : List ℕ) (ask : Ask) (b : Board) → AskBeside ask → AreBeside b → AreBeside (made c ask b)
  out_beside c ask b p i = all-append FactBeside b.facts (facts.Out (record { to = owner_of b.workers c; ask = ask }) ∷ []) i (p, tt)

  asked_beside : (key : KeyAt) (j : ℕ) (names : List (List ℕ)) (b : Board) → AreBeside b → AreBeside (asked_from key j names b)
  asked_beside key j [] b i = i
  asked_beside key j (c ∷ names) b i = asked_beside key (j + 1) names (looked c (id_at key j) 0 b) (out_beside c (asks.Look b.next c (id_at key j) 0) (record b { next = b.next + 1 }) tt i)

  fence_beside : (time : ℕ) (key : KeyAt) (j : ℕ) (p : Place) (b : Board) → AreBeside b → AreBeside (fence_look time key j p b)
  fence_beside time key j p b i = by (is_below time p)
    where
      by : (t : Bool) → AreBeside (cond t (looked (name_at key j) (id_at key j) time b) b)
      by true = out_beside (name_at key j) (asks.Look b.next (name_at key j) (id_at key j) time) (record b { next = b.next + 1 }) tt i
      by false = i

  fences_beside : (time : ℕ) (key : KeyAt) (j : ℕ) (places : List Place) (b : Board) → AreBeside b → AreBeside (fence_looks time key j places b)
  fences_beside time key j [] b i = i
  fences_beside time key j (p ∷ places) b i = fences_beside time key (j + 1) places (fence_look time key j p b) (fence_beside time key j p b i)

  sends_beside : IsSending AnyNews AnyAnswer AnyLast AnyKey AnyFind AreBeside SpoolBeside StartBeside
  sends_beside = record {
    part = λ m c b i. out_beside c (asks.Part c m) b tt i;
    end = λ m deleted b i. all-append FactBeside b.facts (facts.Ended m deleted ∷ []) i (tt, tt);
    ready = λ find s b was i. tt;
    send = λ find s r b ready i. all-append FactBeside b.facts (facts.Sent (sending (delivery find s) r) ∷ []) i (tt, tt);
    take = λ test s b was i. i;
    put = λ s b i. i;
    drop = λ s b i. i;
    open_new = λ key r b none fits i. asked_beside key 0 key.list b i;
    fits = λ find s ready. tt;
    enter = λ r s b i. i;
    fence = λ time s b was unasked i. fences_beside time s.key 0 s.places b i;
  }

  entered_beside : (key : KeyAt) (r : Reader) (b : Board) → AreBeside b → AreBeside (entered key r b)
  entered_beside key r b i = entered-kept AnyNews AnyAnswer AnyLast AnyKey AnyFind AreBeside SpoolBeside StartBeside sends_beside key r b tt i

  decided_beside : (s : SpoolAt) (b : Board) → AreBeside b → AreBeside (decided s b)
  decided_beside s b i = decided-kept AnyNews AnyAnswer AnyLast AnyKey AnyFind AreBeside SpoolBeside StartBeside sends_beside s b i

  -- ---- the answer to a look, and a notice

  pub answered_beside : (number : ℕ) (quiet : Quiet) (news : Option News) (b : Board) → AreBeside b → AreBeside (answered number quiet news b)
  answered_beside number quiet news b i = by (find (awaits number) b.shelf)
    where
      at : (s : SpoolAt) (o : Option ℕ) → AreBeside (answered_at o quiet news s (record b { shelf = without_first (awaits number) b.shelf }))
      at s None = i
      at s (Some j) = decided_beside (with_place j (learned (id_at s.key j) quiet news) s) (record b { shelf = without_first (awaits number) b.shelf }) i

      by : (o : Option SpoolAt) → AreBeside (answered_by o number quiet news (record b { shelf = without_first (awaits number) b.shelf }))
      by None = i
      by (Some s) = at s (place_awaiting number s.places)

  heeded_beside : (w : Heard) (j : ℕ) (s : SpoolAt) (b : Board) → AreBeside b → AreBeside (heeded w j s b)
  heeded_beside Stays j s b i = i
  heeded_beside (Forgets p) j s b i = i
  heeded_beside Looks j s b i = out_beside (name_at s.key j) (asks.Look b.next (name_at s.key j) (id_at s.key j) 0) (record b { next = b.next + 1 }) tt i
  heeded_beside (Finds p) j s b i = decided_beside (with_place j p s) b i

  noticed_one : (c : List ℕ) (news : News) (b : Board) (key : KeyAt) → AreBeside b → AreBeside (noticed_at c news b key)
  noticed_one c news b key i = by (spool_of key b.shelf)
    where
      at : (s : SpoolAt) (o : Option ℕ) → AreBeside (noticed_place o news s (record b { shelf = others key b.shelf }))
      at s None = i
      at s (Some j) = heeded_beside (notice_says news (is_past news.id (id_at s.key j)) (place_at s j)) j s (record b { shelf = others key b.shelf }) i

      by : (o : Option SpoolAt) → AreBeside (noticed_by o c news (record b { shelf = others key b.shelf }))
      by None = i
      by (Some s) = at s (place_of c s.key.list)

  noticed_keys : (c : List ℕ) (news : News) (keys : List KeyAt) (b : Board) → AreBeside b → AreBeside (fold (noticed_at c news) b keys)
  noticed_keys c news [] b i = i
  noticed_keys c news (key ∷ keys) b i = noticed_keys c news keys (noticed_at c news b key) (noticed_one c news b key i)

  pub noticed_beside : (c : List ℕ) (news : News) (b : Board) → AreBeside b → AreBeside (noticed c news b)
  noticed_beside c news b i = noticed_keys c news (keys_with c b.shelf) b i

  -- ---- a channel is gone

  parted_beside : (j : ℕ) (names : List (List ℕ)) (b : Board) → AreBeside b → AreBeside (fold (parted j) b names)
  parted_beside j [] b i = i
  parted_beside j (c ∷ names) b i = parted_beside j names (parted j b c) (out_beside c (asks.Part c j) b tt i)

  left_beside : (j : ℕ) (b : Board) → AreBeside b → AreBeside (left j b)
  left_beside j b i = by (find (has_reader j) b.shelf)
    where
      by : (o : Option SpoolAt) → AreBeside (left_by o j (record b { shelf = without_first (has_reader j) b.shelf }))
      by None = i
      by (Some s) = i

  member_gone_beside : (c : List ℕ) (b : Board) (j : ℕ) → AreBeside b → AreBeside (member_gone c b j)
  member_gone_beside c b j i = by (names_with j b)
    where
      by : (o : Option (List (List ℕ))) → AreBeside (member_gone_by o c j (left j b))
      by None = left_beside j b i
      by (Some names) = parted_beside j (other_names c names) (tells (facts.Ended j true) (left j b)) (all-append FactBeside (left j b).facts (facts.Ended j true ∷ []) (left_beside j b i) (tt, tt))

  members_gone_beside : (c members : List ℕ) (b : Board) → AreBeside b → AreBeside (fold (member_gone c) b members)
  members_gone_beside c [] b i = i
  members_gone_beside c (j ∷ members) b i = members_gone_beside c members (member_gone c b j) (member_gone_beside c b j i)

  emptied_one : (c : List ℕ) (b : Board) (key : KeyAt) → AreBeside b → AreBeside (emptied_at c b key)
  emptied_one c b key i = by (spool_of key b.shelf)
    where
      at : (s : SpoolAt) (o : Option ℕ) → AreBeside (emptied_place o s (record b { shelf = others key b.shelf }))
      at s None = i
      at s (Some j) = heeded_beside (gone_says (place_at s j)) j s (record b { shelf = others key b.shelf }) i

      by : (o : Option SpoolAt) → AreBeside (emptied_by o c (record b { shelf = others key b.shelf }))
      by None = i
      by (Some s) = at s (place_of c s.key.list)

  emptied_keys : (c : List ℕ) (keys : List KeyAt) (b : Board) → AreBeside b → AreBeside (fold (emptied_at c) b keys)
  emptied_keys c [] b i = i
  emptied_keys c (key ∷ keys) b i = emptied_keys c keys (emptied_at c b key) (emptied_one c b key i)

  pub gone_beside : (c members : List ℕ) (b : Board) → AreBeside b → AreBeside (gone c members b)
  gone_beside c members b i = emptied_keys c (keys_with c (fold (member_gone c) b members).shelf) (fold (member_gone c) b members) (members_gone_beside c members b i)

  -- ---- another subscriber comes

  pub joined_beside : (j : ℕ) (names : List (List ℕ)) (b : Board) → AreBeside b → AreBeside (fold (joined j) b names)
  joined_beside j [] b i = i
  joined_beside j (c ∷ names) b i = joined_beside j names (joined j b c) (out_beside c (asks.Join c j) b tt i)

  edges_beside : (j : ℕ) (names : List (List ℕ)) (b : Board) → (j == k) ≡ false → AreBeside b → AreBeside (edges_from j names b)
  edges_beside j [] b other i = i
  edges_beside j (c ∷ names) b other i = edges_beside j names (asked_edge j c 0 b) other (out_beside c (asks.Edge b.next j c 0) (record b { next = b.next + 1 }) other i)

  begun_beside : (r : Reader) (key : KeyAt) (b : Board) → AreBeside b → AreBeside (begun r key b)
  begun_beside r key b i = entered_beside key r (tells (facts.Started r.k key.cursor) b) (all-append FactBeside b.facts (facts.Started r.k key.cursor ∷ []) i (tt, tt))

  started_beside : (start : Start) (r : Reader) (list : List (List ℕ)) (b : Board) → (r.k == k) ≡ false → AreBeside b → AreBeside (started_by start r list b)
  started_beside starts.Oldest r list b other i = begun_beside r (record { list = list; cursor = oldest_cursor (length list) }) b i
  started_beside starts.Newest r list b other i = edges_beside r.k list b other i
  started_beside (starts.Given cursor) r list b other i = begun_beside r (record { list = list; cursor = cursor }) b i

  pub arrived_beside : (r : Reader) (list : List (List ℕ)) (start : Start) (b : Board) → (r.k == k) ≡ false → AreBeside b → AreBeside (arrived r list start b)
  arrived_beside r list start b other i = started_beside start r list (fold (joined r.k) b list) other (joined_beside r.k list b i)

  -- ---- the answer to an edge, where all starts are of others

  behind_beside : (time j : ℕ) (c : List ℕ) (e : Edge) (b : Board) → (j == k) ≡ false → AreBeside b → AreBeside (edge_behind time j c e b)
  behind_beside time j c e b other i = by (is_behind time e)
    where
      by : (t : Bool) → AreBeside (cond t (asked_edge j c time b) b)
      by true = out_beside c (asks.Edge b.next j c time) (record b { next = b.next + 1 }) other i
      by false = i

  behinds_beside : (time j : ℕ) (list : List (List ℕ)) (i : ℕ) (edges : List Edge) (b : Board) → (j == k) ≡ false → AreBeside b → AreBeside (edges_behind time j list i edges b)
  behinds_beside time j list i [] b other p = p
  behinds_beside time j list i (e ∷ edges) b other p =
      behinds_beside time j list (i + 1) edges (edge_behind time j (slice_index_or list i []) e b) other (behind_beside time j (slice_index_or list i []) e b other p)

  second_beside : (t : Bool) (r : Reader) (list : List (List ℕ)) (edges : List Edge) (cursor : CursorAt) (b : Board) → (r.k == k) ≡ false → AreBeside b → AreBeside (second_by t r list edges cursor b)
  second_beside true r list edges cursor b other i = behinds_beside cursor.time r.k list 0 edges b other i
  second_beside false r list edges cursor b other i = begun_beside r (record { list = list; cursor = cursor }) b i

  all_beside : (o : Option CursorAt) (r : Reader) (list : List (List ℕ)) (edges : List Edge) (b : Board) → (r.k == k) ≡ false → AreBeside b → AreBeside (answered_all o r list edges b)
  all_beside None r list edges b other i = second_beside (is_any_behind (newest_cursor edges).time edges) r list edges (newest_cursor edges) b other i
  all_beside (Some cursor) r list edges b other i = begun_beside r (record { list = list; cursor = cursor }) b i

  went_beside : (s : StartingAt) (b : Board) → IsOthers s → AreBeside b → AreBeside (went_on s b)
  went_beside s b other i = by (is_any_awaited s.edges)
    where
      by : (t : Bool) → AreBeside (cond t (record b { starts = b.starts ++ s ∷ [] }) (answered_all s.cursor s.reader s.list s.edges b))
      by true = i
      by false = all_beside s.cursor s.reader s.list s.edges b other i

  heard_beside : (o : Option ℕ) (edge : Edge) (s : StartingAt) (b : Board) → IsOthers s → AreBeside b → AreBeside (edge_heard_at o edge s b)
  heard_beside None edge s b other i = i
  heard_beside (Some j) edge s b other i = went_beside (with_edge j edge s) b other i

  pub edged_beside : (number : ℕ) (edge : Edge) (b : Board) → AllByRecursion IsOthers b.starts → AreBeside b → AreBeside (edge_answered number edge b)
  edged_beside number edge b each i = by (find (start_awaits number) b.starts) refl
    where
      by : (o : Option StartingAt) → find (start_awaits number) b.starts ≡ o → AreBeside (edge_answered_by o number edge (record b { starts = without_first (start_awaits number) b.starts }))
      by None was = i
      by (Some s) was = heard_beside (edge_awaiting number s.edges) edge s (record b { starts = without_first (start_awaits number) b.starts }) (all-found IsOthers (start_awaits number) b.starts s was each) i

  -- ---- as events

  line_beside : (ask : Ask) → AskBeside ask → IsBeside k (ask_line ask)
  line_beside (asks.Look number c after fence) p = tt
  line_beside (asks.Edge number j c fence) p = p
  line_beside (asks.Join c j) p = tt
  line_beside (asks.Part c j) p = tt

  pub events_beside : (me : ℕ) (cause : EndedCause) (next : ℕ → ℕ) (fs : List Fact) → AllByRecursion FactBeside fs → AllByRecursion (MakesBeside k) (told me next (facts_deeds me cause fs))
  events_beside me cause next [] p = tt
  events_beside me cause next (facts.Out o ∷ fs) p = (line_beside o.ask p.0, events_beside me cause (numbered next o.to) fs p.1)
  events_beside me cause next (facts.Started n cursor ∷ fs) p = (tt, events_beside me cause next fs p.1)
  events_beside me cause next (facts.Sent s ∷ fs) p = (tt, events_beside me cause next fs p.1)
  events_beside me cause next (facts.Ended n deleted ∷ fs) p = (tt, events_beside me cause next fs p.1)
