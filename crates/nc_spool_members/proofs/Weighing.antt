-- Who comes stands with the channels of its list from then on, and who stands with one no longer parts from it.
use Rattle.std.proofs.Common.{◌&&◌, ◌≡◌, ℕ, ◌+◌, ◌≤◌, Bool, true, false, cond, List, [], ◌∷◌, refl, sym, ap, ◌∙◌, Option, Some, None, find, length, arith, ◌==◌}
use Rattle.std.specs.Prelude.{fold, slice_index_or, bytes_eq}
use Rattle.std.proofs.lemmas.Bool.Decides.{nat_tests}
use Rattle.nc_types.specs.Id.{Id, is_past}
use Rattle.nc_types.specs.Cursor.{CursorAt}
use Rattle.nc_types.specs.declared.start.Start.{Start}
use Rattle.nc_types.specs.declared.start.Start.TheVariants as starts
use Rattle.nc_spool.specs.declared.fact.Fact.{Fact}
use Rattle.nc_spool.specs.declared.ask.Ask.{Ask}
use Rattle.nc_spool.specs.declared.ask.Ask.TheVariants.{Look, Part}
use Rattle.nc_spool.specs.declared.ask.Ask.TheVariants as asks
use Rattle.nc_spool.specs.declared.fact.Fact.TheVariants.{Out, Started, Sent, Ended}
use Rattle.nc_types.specs.Channel.{owner_of}
use Rattle.nc_spool_state.specs.declared.place.Quiet.{Quiet}
use Rattle.nc_spool_state.specs.declared.place.Place.{Place}
use Rattle.nc_spool_state.specs.declared.place.Place.TheVariants.{Asked}
use Rattle.nc_spool_state.specs.declared.spool.Reader.{Reader}
use Rattle.nc_spool_state.specs.declared.choice.Choice.{Choice}
use Rattle.nc_spool_state.specs.declared.choice.Choice.TheVariants.{Wait, Fence, Send}
use Rattle.nc_spool.specs.declared.decide.Delivery.{Delivery}
use Rattle.nc_spool_state.specs.declared.hear.News.{News}
use Rattle.nc_spool_state.specs.declared.hear.Heard.{Heard}
use Rattle.nc_spool_state.specs.declared.hear.Heard.TheVariants.{Stays, Forgets, Looks, Finds}
use Rattle.nc_spool_state.specs.declared.edge.Edge.{Edge}
use Rattle.nc_spool.specs.declared.board.Board.{Board}
use Rattle.nc_spool_state.specs.Key.{KeyAt, name_at, id_at, place_of}
use Rattle.nc_spool_state.specs.Place.{place_awaiting}
use Rattle.nc_spool_state.specs.Spool.{SpoolAt, is_of, awaits, has_reader, with_reader, without_reader, place_at, with_place}
use Rattle.nc_spool_state.specs.Shelf.{spool_of, place_before, with_spool, with_read_spool}
use Rattle.nc_spool_state.specs.Choice.{is_below, choice}
use Rattle.nc_spool_state.specs.Edge.{is_behind, is_any_awaited, is_any_behind, newest_cursor, edge_awaiting}
use Rattle.nc_spool_state.specs.Starting.{StartingAt, with_edge, start_awaits, starts_with}
use Rattle.nc_spool.specs.Board.{told, looked, shelved, asked_from, fresh_spool, standing, opened, entered, parted, ended}
use Rattle.nc_spool.specs.Decide.{fence_look, fence_looks, fenced_places, delivery, sending, sent_one, decided, decided_by}
use Rattle.nc_spool_state.specs.Hear.{learned, notice_says, gone_says}
use Rattle.nc_spool.specs.Hear.{looked_again, heeded, noticed_at, noticed_by, noticed_in, noticed_place, emptied_at, emptied_by, emptied_in, emptied_place, answered, answered_by, answered_in, answered_at}
use Rattle.nc_spool.specs.Depart.{names_with, names_by, start_names, left, left_by, departed, departed_by}
use Rattle.nc_spool.specs.Arrive.{oldest_cursor, started_by}
use Rattle.nc_spool.specs.Newest.{begun, parked, fresh_edges, behind_edges, edges_from, asked_edge, edge_behind, edges_behind, second_by, answered_all, went_on, edge_heard, edge_heard_at, edge_answered, edge_answered_by}
use Rattle.nc_spool_laws.proofs.Closing.{out, out_start}
use Rattle.nc_spool_laws.specs.Numbers.{one, total}
use Rattle.nc_spool_laws.specs.Tally.{readers_of, stands}
use Rattle.nc_spool_laws.proofs.Lists.{none-without, found-passes}
use Rattle.nc_spool_laws.proofs.Totals.{total-insert, total-push, total-without}
use Rattle.nc_spool_laws.proofs.Same.{asked-shelf, asked-starts, parted-shelf, parted-starts, fences-shelf, fences-starts, edges-shelf, edges-starts, behinds-shelf, behinds-starts}
use Rattle.nc_spool_laws.proofs.SameKey.{key_same}
use Rattle.nc_spool_members.proofs.Weights.{named, weight, spool_weight, start_weight, entered-weight, leaves-weight, empty-weight}

-- what some facts weigh
abbrev pub fact_weight : (Ask → ℕ) → Fact → ℕ
fact_weight g (Out asking) = g asking.ask
fact_weight g (Started n cursor) = 0
fact_weight g (Sent s) = 0
fact_weight g (Ended n deleted) = 0

-- looks and edges weigh nothing, and that a subscriber parts from a channel weighs one
pub record Weighs (chan : List ℕ) (k : ℕ) (g : Ask → ℕ) : Type 0 where
  pub look : (number : ℕ) (c : List ℕ) (after : Id) (fence : ℕ) → g (Look number c after fence) ≡ 0
  pub edge : (number n : ℕ) (c : List ℕ) (fence : ℕ) → g (asks.Edge number n c fence) ≡ 0
  pub part : (c : List ℕ) (j : ℕ) → g (Part c j) ≡ one (bytes_eq c chan && (j == k))

module _ (chan : List ℕ) (k : ℕ) (g : Ask → ℕ) (weighs : Weighs chan k g) where
  -- what stands with a channel, and what is told of it
  abbrev pub scales : Board → ℕ
  scales b = total (spool_weight chan k) b.shelf + total (start_weight chan k) b.starts + total (fact_weight g) b.facts

  pub told-facts : (fact : Fact) (b : Board) → (fact_weight g) fact ≡ 0 → total (fact_weight g) (told fact b).facts ≡ total (fact_weight g) b.facts
  told-facts fact b e = omega (arith, total-push (fact_weight g) b.facts fact, e)

  pub looked-facts : (c : List ℕ) (after : Id) (fence : ℕ) (b : Board) → total (fact_weight g) (looked c after fence b).facts ≡ total (fact_weight g) b.facts
  looked-facts c after fence b = told-facts _ (record b { next = b.next + 1 }) (weighs.look _ _ _ _)

  asked-facts : (key : KeyAt) (j : ℕ) (names : List (List ℕ)) (b : Board) → total (fact_weight g) (asked_from key j names b).facts ≡ total (fact_weight g) b.facts
  asked-facts key j [] b = refl
  asked-facts key j (c ∷ names) b = asked-facts key (j + 1) names (looked c (id_at key j) 0 b) ∙ looked-facts c (id_at key j) 0 b

  fence-facts : (time : ℕ) (key : KeyAt) (j : ℕ) (p : Place) (b : Board) → total (fact_weight g) (fence_look time key j p b).facts ≡ total (fact_weight g) b.facts
  fence-facts time key j p b = by (is_below time p)
    where
      by : (t : Bool) → total (fact_weight g) (cond t (looked (name_at key j) (id_at key j) time b) b).facts ≡ total (fact_weight g) b.facts
      by true = looked-facts (name_at key j) (id_at key j) time b
      by false = refl

  fences-facts : (time : ℕ) (key : KeyAt) (j : ℕ) (places : List Place) (b : Board) → total (fact_weight g) (fence_looks time key j places b).facts ≡ total (fact_weight g) b.facts
  fences-facts time key j [] b = refl
  fences-facts time key j (p ∷ places) b = fences-facts time key (j + 1) places (fence_look time key j p b) ∙ fence-facts time key j p b

  edges-facts : (j : ℕ) (names : List (List ℕ)) (b : Board) → total (fact_weight g) (edges_from j names b).facts ≡ total (fact_weight g) b.facts
  edges-facts j [] b = refl
  edges-facts j (c ∷ names) b = edges-facts j names (asked_edge j c 0 b) ∙ told-facts _ (record b { next = b.next + 1 }) (weighs.edge _ _ _ _)

  behind-facts : (time j : ℕ) (c : List ℕ) (e : Edge) (b : Board) → total (fact_weight g) (edge_behind time j c e b).facts ≡ total (fact_weight g) b.facts
  behind-facts time j c e b = by (is_behind time e)
    where
      by : (t : Bool) → total (fact_weight g) (cond t (asked_edge j c time b) b).facts ≡ total (fact_weight g) b.facts
      by true = told-facts _ (record b { next = b.next + 1 }) (weighs.edge _ _ _ _)
      by false = refl

  behinds-facts : (time j : ℕ) (list : List (List ℕ)) (i : ℕ) (edges : List Edge) (b : Board) → total (fact_weight g) (edges_behind time j list i edges b).facts ≡ total (fact_weight g) b.facts
  behinds-facts time j list i [] b = refl
  behinds-facts time j list i (e ∷ edges) b = behinds-facts time j list (i + 1) edges (edge_behind time j (slice_index_or list i []) e b) ∙ behind-facts time j (slice_index_or list i []) e b

  -- who enters or is started asks nothing of members
  entered-facts : (key : KeyAt) (r : Reader) (b : Board) → total (fact_weight g) (entered key r b).facts ≡ total (fact_weight g) b.facts
  entered-facts key r b = by (spool_of key b.shelf)
    where
      by : (o : Option SpoolAt) → total (fact_weight g) (shelved (with_reader r (standing o key b)) (opened o key (out (is_of key) b))).facts ≡ total (fact_weight g) b.facts
      by None = asked-facts key 0 key.list (out (is_of key) b)
      by (Some s) = refl

  begun-facts : (r : Reader) (key : KeyAt) (b : Board) → total (fact_weight g) (begun r key b).facts ≡ total (fact_weight g) b.facts
  begun-facts r key b = entered-facts key r (told (Started r.k key.cursor) b) ∙ told-facts (Started r.k key.cursor) b refl

  pub started-facts : (r : Reader) (list : List (List ℕ)) (start : Start) (b : Board) → total (fact_weight g) (started_by start r list b).facts ≡ total (fact_weight g) b.facts
  started-facts r list starts.Oldest b = begun-facts r (record { list = list; cursor = oldest_cursor (length list) }) b
  started-facts r list starts.Newest b = edges-facts r.k list b
  started-facts r list (starts.Given cursor) b = begun-facts r (record { list = list; cursor = cursor }) b

  -- a board with the same spools and starts, whose facts weigh more
  moved-scales : (b now : Board) (n : ℕ) → now.shelf ≡ b.shelf → now.starts ≡ b.starts → total (fact_weight g) now.facts ≡ n + total (fact_weight g) b.facts → scales now ≡ n + scales b
  moved-scales b now n shelf starts facts = omega (arith, ap (λ (l : List SpoolAt). total (spool_weight chan k) l) shelf, ap (λ (l : List StartingAt). total (start_weight chan k) l) starts, facts)

  same-scales : (b now : Board) → now.shelf ≡ b.shelf → now.starts ≡ b.starts → total (fact_weight g) now.facts ≡ total (fact_weight g) b.facts → scales now ≡ scales b
  same-scales b now shelf starts facts = omega (arith, moved-scales b now 0 shelf starts (omega (arith, facts)))

  shelved-scales : (s : SpoolAt) (b : Board) → scales (shelved s b) ≡ spool_weight chan k s + scales b
  shelved-scales s b = omega (arith, total-insert (spool_weight chan k) b.shelf (place_before s.key b.shelf) s)

  out-scales : (test : SpoolAt → Bool) (s : SpoolAt) (b : Board) → find test b.shelf ≡ Some s → spool_weight chan k s + scales (out test b) ≡ scales b
  out-scales test s b was = omega (arith, total-without (spool_weight chan k) test b.shelf s was)

  missed-scales : (test : SpoolAt → Bool) (b : Board) → find test b.shelf ≡ None → scales (out test b) ≡ scales b
  missed-scales test b was = ap (λ (l : List SpoolAt). total (spool_weight chan k) l + total (start_weight chan k) b.starts + total (fact_weight g) b.facts) (sym (none-without test b.shelf was))

  missed_start-scales : (test : StartingAt → Bool) (b : Board) → find test b.starts ≡ None → scales (out_start test b) ≡ scales b
  missed_start-scales test b was = ap (λ (l : List StartingAt). total (spool_weight chan k) b.shelf + total (start_weight chan k) l + total (fact_weight g) b.facts) (sym (none-without test b.starts was))

  out_start-scales : (test : StartingAt → Bool) (s : StartingAt) (b : Board) → find test b.starts ≡ Some s → start_weight chan k s + scales (out_start test b) ≡ scales b
  out_start-scales test s b was = omega (arith, total-without (start_weight chan k) test b.starts s was)

  parked-scales : (s : StartingAt) (b : Board) → scales (parked s b) ≡ start_weight chan k s + scales b
  parked-scales s b = omega (arith, total-push (start_weight chan k) b.starts s)

  entered-scales : (key : KeyAt) (r : Reader) (b : Board) → scales (entered key r b) ≡ weight chan k key.list r + scales b
  entered-scales key r b = by (spool_of key b.shelf) refl
    where
      by : (o : Option SpoolAt) → spool_of key b.shelf ≡ o → scales (shelved (with_reader r (standing o key b)) (opened o key (out (is_of key) b))) ≡ weight chan k key.list r + scales b
      by None was =
          let asked = asked_from key 0 key.list (out (is_of key) b) in
          omega (arith, shelved-scales (with_reader r (fresh_spool b.next key)) asked, entered-weight chan k r (fresh_spool b.next key), same-scales (out (is_of key) b) asked (asked-shelf key 0 key.list (out (is_of key) b)) (asked-starts key 0 key.list (out (is_of key) b)) (asked-facts key 0 key.list (out (is_of key) b)), missed-scales (is_of key) b was)
      by (Some s) was =
          let same : weight chan k key.list r ≡ weight chan k s.key.list r = ap (λ (x : KeyAt). weight chan k x.list r) (key_same key s.key (found-passes (is_of key) b.shelf s was)) in
          omega (arith, shelved-scales (with_reader r s) (out (is_of key) b), entered-weight chan k r s, out-scales (is_of key) s b was, same)

  begun-scales : (r : Reader) (key : KeyAt) (b : Board) → scales (begun r key b) ≡ weight chan k key.list r + scales b
  begun-scales r key b = omega (arith, entered-scales key r (told (Started r.k key.cursor) b), told-facts (Started r.k key.cursor) b refl)

  pub arrived-scales : (r : Reader) (list : List (List ℕ)) (start : Start) (b : Board) → scales (started_by start r list b) ≡ weight chan k list r + scales b
  arrived-scales r list starts.Oldest b = begun-scales r (record { list = list; cursor = oldest_cursor (length list) }) b
  arrived-scales r list starts.Newest b =
      let st : StartingAt = record { reader = r; list = list; edges = fresh_edges b.next list; cursor = None } in
      omega (arith, parked-scales st (edges_from r.k list b), same-scales b (edges_from r.k list b) (edges-shelf r.k list b) (edges-starts r.k list b) (edges-facts r.k list b))
  arrived-scales r list (starts.Given cursor) b = begun-scales r (record { list = list; cursor = cursor }) b

  part-facts : (j : ℕ) (c : List ℕ) (b : Board) → total (fact_weight g) (parted j b c).facts ≡ one (bytes_eq c chan && (j == k)) + total (fact_weight g) b.facts
  part-facts j c b = omega (arith, total-push (fact_weight g) b.facts (Out (record { to = owner_of b.workers c; ask = Part c j })), weighs.part c j)

  one-more : (t : Bool) (x : Bool) (n : ℕ) → cond t n 0 + one (x && t) ≡ cond t (one x + n) 0
  one-more true true n = omega arith
  one-more true false n = omega arith
  one-more false true n = omega arith
  one-more false false n = omega arith

  pub parted-facts : (j : ℕ) (names : List (List ℕ)) (b : Board) → total (fact_weight g) (fold (parted j) b names).facts ≡ cond (j == k) (named chan names) 0 + total (fact_weight g) b.facts
  parted-facts j [] b = none (j == k)
    where
      none : (t : Bool) → total (fact_weight g) b.facts ≡ cond t 0 0 + total (fact_weight g) b.facts
      none true = omega arith
      none false = omega arith
  parted-facts j (c ∷ names) b = omega (arith, parted-facts j names (parted j b c), part-facts j c b, one-more (j == k) (bytes_eq c chan) (named chan names))

  pub ended-scales : (j : ℕ) (deleted : Bool) (names : List (List ℕ)) (b : Board) → scales (ended j deleted names b) ≡ cond (j == k) (named chan names) 0 + scales b
  ended-scales j deleted names b =
      let first = told (Ended j deleted) b in
      omega (arith, moved-scales first (ended j deleted names b) (cond (j == k) (named chan names) 0) (parted-shelf j names first) (parted-starts j names first) (parted-facts j names first), told-facts (Ended j deleted) b refl)

  sent_one-scales : (d : Delivery) (r : Reader) (b : Board) → scales (sent_one d b r) ≡ weight chan k d.key.list r + scales b
  sent_one-scales d r b = by r.once
    where
      by : (t : Bool) → scales (cond t (ended r.k false d.key.list (told (Sent (sending d r)) b)) (entered d.key r (told (Sent (sending d r)) b))) ≡ weight chan k d.key.list r + scales b
      by true = omega (arith, ended-scales r.k false d.key.list (told (Sent (sending d r)) b), told-facts (Sent (sending d r)) b refl)
      by false = omega (arith, entered-scales d.key r (told (Sent (sending d r)) b), told-facts (Sent (sending d r)) b refl)

  sent-scales : (d : Delivery) (readers : List Reader) (b : Board) → scales (fold (sent_one d) b readers) ≡ total (weight chan k d.key.list) readers + scales b
  sent-scales d [] b = omega arith
  sent-scales d (r ∷ readers) b = omega (arith, sent-scales d readers (sent_one d b r), sent_one-scales d r b)

  decided-scales : (s : SpoolAt) (b : Board) → scales (decided s b) ≡ spool_weight chan k s + scales b
  decided-scales s b = by (choice s.places)
    where
      by : (o : Choice) → scales (decided_by o s b) ≡ spool_weight chan k s + scales b
      by Wait = shelved-scales s b
      by (Fence time) =
          omega (arith, shelved-scales (record s { places = fenced_places time s.key 0 s.places b }) (fence_looks time s.key 0 s.places b), same-scales b (fence_looks time s.key 0 s.places b) (fences-shelf time s.key 0 s.places b) (fences-starts time s.key 0 s.places b) (fences-facts time s.key 0 s.places b))
      by (Send find) = sent-scales (delivery find s) s.readers b

  heeded-scales : (h : Heard) (j : ℕ) (s : SpoolAt) (b : Board) → scales (heeded h j s b) ≡ spool_weight chan k s + scales b
  heeded-scales Stays j s b = shelved-scales s b
  heeded-scales (Forgets p) j s b = shelved-scales (with_place j p s) b
  heeded-scales Looks j s b = omega (arith, shelved-scales (with_place j (Asked b.next None) s) (looked_again s.key j b), looked-facts (name_at s.key j) (id_at s.key j) 0 b)
  heeded-scales (Finds p) j s b = decided-scales (with_place j p s) b

  noticed_in-scales : (c : List ℕ) (news : News) (s : SpoolAt) (b : Board) → scales (noticed_in c news s b) ≡ spool_weight chan k s + scales b
  noticed_in-scales c news s b = by (place_of c s.key.list)
    where
      by : (o : Option ℕ) → scales (noticed_place o news s b) ≡ spool_weight chan k s + scales b
      by None = shelved-scales s b
      by (Some j) = heeded-scales (notice_says news (is_past news.id (id_at s.key j)) (place_at s j)) j s b

  pub noticed_at-scales : (c : List ℕ) (news : News) (b : Board) (key : KeyAt) → scales (noticed_at c news b key) ≡ scales b
  noticed_at-scales c news b key = by (spool_of key b.shelf) refl
    where
      by : (o : Option SpoolAt) → spool_of key b.shelf ≡ o → scales (noticed_by o c news (out (is_of key) b)) ≡ scales b
      by None was = missed-scales (is_of key) b was
      by (Some s) was = noticed_in-scales c news s (out (is_of key) b) ∙ out-scales (is_of key) s b was

  pub noticed_keys-scales : (c : List ℕ) (news : News) (keys : List KeyAt) (b : Board) → scales (fold (noticed_at c news) b keys) ≡ scales b
  noticed_keys-scales c news [] b = refl
  noticed_keys-scales c news (key ∷ keys) b = noticed_keys-scales c news keys (noticed_at c news b key) ∙ noticed_at-scales c news b key

  emptied_in-scales : (c : List ℕ) (s : SpoolAt) (b : Board) → scales (emptied_in c s b) ≡ spool_weight chan k s + scales b
  emptied_in-scales c s b = by (place_of c s.key.list)
    where
      by : (o : Option ℕ) → scales (emptied_place o s b) ≡ spool_weight chan k s + scales b
      by None = shelved-scales s b
      by (Some j) = heeded-scales (gone_says (place_at s j)) j s b

  emptied_at-scales : (c : List ℕ) (b : Board) (key : KeyAt) → scales (emptied_at c b key) ≡ scales b
  emptied_at-scales c b key = by (spool_of key b.shelf) refl
    where
      by : (o : Option SpoolAt) → spool_of key b.shelf ≡ o → scales (emptied_by o c (out (is_of key) b)) ≡ scales b
      by None was = missed-scales (is_of key) b was
      by (Some s) was = emptied_in-scales c s (out (is_of key) b) ∙ out-scales (is_of key) s b was

  pub emptied_keys-scales : (c : List ℕ) (keys : List KeyAt) (b : Board) → scales (fold (emptied_at c) b keys) ≡ scales b
  emptied_keys-scales c [] b = refl
  emptied_keys-scales c (key ∷ keys) b = emptied_keys-scales c keys (emptied_at c b key) ∙ emptied_at-scales c b key

  answered_in-scales : (number : ℕ) (quiet : Quiet) (news : Option News) (s : SpoolAt) (b : Board) → scales (answered_in number quiet news s b) ≡ spool_weight chan k s + scales b
  answered_in-scales number quiet news s b = by (place_awaiting number s.places)
    where
      by : (o : Option ℕ) → scales (answered_at o quiet news s b) ≡ spool_weight chan k s + scales b
      by None = shelved-scales s b
      by (Some j) = decided-scales (with_place j (learned (id_at s.key j) quiet news) s) b

  pub answered-scales : (number : ℕ) (quiet : Quiet) (news : Option News) (b : Board) → scales (answered number quiet news b) ≡ scales b
  answered-scales number quiet news b = by (find (awaits number) b.shelf) refl
    where
      by : (o : Option SpoolAt) → find (awaits number) b.shelf ≡ o → scales (answered_by o number quiet news (out (awaits number) b)) ≡ scales b
      by None was = missed-scales (awaits number) b was
      by (Some s) was = answered_in-scales number quiet news s (out (awaits number) b) ∙ out-scales (awaits number) s b was

  second-scales : (t : Bool) (cursor : CursorAt) (s : StartingAt) (b : Board) → scales (second_by t s.reader s.list s.edges cursor b) ≡ start_weight chan k s + scales b
  second-scales true cursor s b =
      let now = edges_behind cursor.time s.reader.k s.list 0 s.edges b in
      let st : StartingAt = record s { edges = behind_edges cursor.time s.reader.k s.list 0 s.edges b; cursor = Some cursor } in
      omega (arith, parked-scales st now, same-scales b now (behinds-shelf cursor.time s.reader.k s.list 0 s.edges b) (behinds-starts cursor.time s.reader.k s.list 0 s.edges b) (behinds-facts cursor.time s.reader.k s.list 0 s.edges b))
  second-scales false cursor s b = begun-scales s.reader (record { list = s.list; cursor = cursor }) b

  went_on-scales : (s : StartingAt) (b : Board) → scales (went_on s b) ≡ start_weight chan k s + scales b
  went_on-scales s b = by (is_any_awaited s.edges)
    where
      all : (o : Option CursorAt) → scales (answered_all o s.reader s.list s.edges b) ≡ start_weight chan k s + scales b
      all None = second-scales (is_any_behind (newest_cursor s.edges).time s.edges) (newest_cursor s.edges) s b
      all (Some cursor) = begun-scales s.reader (record { list = s.list; cursor = cursor }) b

      by : (t : Bool) → scales (cond t (parked s b) (answered_all s.cursor s.reader s.list s.edges b)) ≡ start_weight chan k s + scales b
      by true = parked-scales s b
      by false = all s.cursor

  edge_heard-scales : (number : ℕ) (now : Edge) (s : StartingAt) (b : Board) → scales (edge_heard number now s b) ≡ start_weight chan k s + scales b
  edge_heard-scales number now s b = by (edge_awaiting number s.edges)
    where
      by : (o : Option ℕ) → scales (edge_heard_at o now s b) ≡ start_weight chan k s + scales b
      by None = parked-scales s b
      by (Some j) = went_on-scales (with_edge j now s) b

  pub edged-scales : (number : ℕ) (now : Edge) (b : Board) → scales (edge_answered number now b) ≡ scales b
  edged-scales number now b = by (find (start_awaits number) b.starts) refl
    where
      by : (o : Option StartingAt) → find (start_awaits number) b.starts ≡ o → scales (edge_answered_by o number now (out_start (start_awaits number) b)) ≡ scales b
      by None was = missed_start-scales (start_awaits number) b was
      by (Some s) was = edge_heard-scales number now s (out_start (start_awaits number) b) ∙ out_start-scales (start_awaits number) s b was

  back-scales : (s : SpoolAt) (b : Board) → scales (record b { shelf = with_read_spool s b.shelf }) ≡ spool_weight chan k s + scales b
  back-scales s b = by (length s.readers == 0) refl
    where
      by : (t : Bool) → (length s.readers == 0) ≡ t → scales (record b { shelf = cond t b.shelf (with_spool s b.shelf) }) ≡ spool_weight chan k s + scales b
      by true was = omega (arith, empty-weight chan k s was)
      by false was = shelved-scales s b

  -- who is there takes along how often its list names the channel
  abbrev pub counted : ℕ → Option (List (List ℕ)) → ℕ
  counted j None = 0
  counted j (Some names) = cond (j == k) (named chan names) 0

  pub left-scales : (j : ℕ) (b : Board) → stands k b ≤ 1 → scales (left j b) + counted j (names_with j b) ≡ scales b
  left-scales j b few = by (find (has_reader j) b.shelf) refl
    where
      start-one : (st : StartingAt) → starts_with j st ≡ true → start_weight chan k st ≡ cond (j == k) (named chan st.list) 0
      start-one st was = ap (λ (i : ℕ). cond (i == k) (named chan st.list) 0) (equal st.reader.k j was)
        where
          equal : (i j : ℕ) → (i == j) ≡ true → i ≡ j
          equal i j e = grind (arith, nat_tests)

      start : (o : Option StartingAt) → find (starts_with j) b.starts ≡ o → find (has_reader j) b.shelf ≡ None → scales (out_start (starts_with j) (out (has_reader j) b)) + counted j (start_names o) ≡ scales b
      start None was none = omega (arith, missed_start-scales (starts_with j) (out (has_reader j) b) was, missed-scales (has_reader j) b none)
      start (Some st) was none = omega (arith, out_start-scales (starts_with j) st (out (has_reader j) b) was, missed-scales (has_reader j) b none, start-one st (found-passes (starts_with j) b.starts st was))

      by : (o : Option SpoolAt) → find (has_reader j) b.shelf ≡ o → scales (left_by o j (out (has_reader j) b)) + counted j (names_by o (find (starts_with j) b.starts)) ≡ scales b
      by None was = start (find (starts_with j) b.starts) refl was
      by (Some s) was =
          let rest = total-without (readers_of k) (has_reader j) b.shelf s was in
          omega (arith, back-scales (without_reader j s) (out (has_reader j) b), out-scales (has_reader j) s b was, leaves-weight chan k j s (found-passes (has_reader j) b.shelf s was) (omega (arith, rest, few)))

  pub departed-scales : (j : ℕ) (b : Board) → stands k b ≤ 1 → scales (departed j b) ≡ scales b
  departed-scales j b few = by (names_with j b) refl
    where
      by : (o : Option (List (List ℕ))) → names_with j b ≡ o → scales (departed_by o j (left j b)) ≡ scales b
      by None was = omega (arith, left-scales j b few, ap (counted j) was)
      by (Some names) was = omega (arith, ended-scales j false names (left j b), left-scales j b few, ap (counted j) was)
