-- Who comes stands from then on, and who stands no longer was ended.
use Rattle.std.proofs.Common.{◌≡◌, ℕ, ◌+◌, ◌≤◌, Bool, true, false, cond, not, ◌||◌, List, [], ◌∷◌, refl, sym, ap, subst, ◌∙◌, Option, Some, None, find, length, arith, ◌==◌}
use Rattle.std.specs.Prelude.{fold, slice_index_or}
use Rattle.std.specs.List.{list_any}
use Rattle.std.proofs.lemmas.Bool.Decides.{nat_tests}
use Rattle.nc_types.specs.Id.{Id, is_past}
use Rattle.nc_types.specs.Cursor.{CursorAt}
use Rattle.nc_types.specs.declared.start.Start.{Start}
use Rattle.nc_types.specs.declared.start.Start.TheVariants as starts
use Rattle.nc_spool.specs.declared.fact.Fact.{Fact}
use Rattle.nc_spool.specs.declared.fact.Fact.TheVariants.{Started, Sent, Ended}
use Rattle.nc_spool_state.specs.declared.place.Quiet.{Quiet}
use Rattle.nc_spool_state.specs.declared.place.Place.{Place}
use Rattle.nc_spool_state.specs.declared.place.Place.TheVariants.{Asked}
use Rattle.nc_spool_state.specs.declared.spool.Reader.{Reader}
use Rattle.nc_spool_state.specs.declared.choice.Choice.{Choice}
use Rattle.nc_spool_state.specs.declared.choice.Choice.TheVariants.{Wait, Fence, Send}
use Rattle.nc_spool.specs.declared.decide.Delivery.{Delivery}
use Rattle.nc_spool_state.specs.declared.hear.News.{News}
use Rattle.nc_spool_state.specs.declared.hear.Heard.{Heard}
use Rattle.nc_spool_state.specs.declared.hear.Heard.TheVariants.{Stays, Forgets, Looks, Finds}
use Rattle.nc_spool_state.specs.declared.edge.Edge.{Edge}
use Rattle.nc_spool.specs.declared.board.Board.{Board}
use Rattle.nc_spool_state.specs.Key.{KeyAt, name_at, id_at, place_of}
use Rattle.nc_spool_state.specs.Place.{place_awaiting}
use Rattle.nc_spool_state.specs.Spool.{SpoolAt, is_of, is_reader, awaits, has_reader, without, with_reader, without_reader, place_above, place_at, with_place}
use Rattle.nc_spool_state.specs.Shelf.{spool_of, place_before, with_spool, with_read_spool, keys_with}
use Rattle.nc_spool_state.specs.Choice.{is_below, choice}
use Rattle.nc_spool_state.specs.Edge.{is_behind, is_any_awaited, is_any_behind, newest_cursor, edge_awaiting}
use Rattle.nc_spool_state.specs.Starting.{StartingAt, with_edge, start_awaits, starts_with}
use Rattle.nc_spool.specs.Board.{told, looked, shelved, asked_from, fresh_spool, standing, opened, entered, parted, ended}
use Rattle.nc_spool.specs.Decide.{fence_look, fence_looks, fenced_places, delivery, sending, sent_one, decided, decided_by}
use Rattle.nc_spool_state.specs.Hear.{learned, notice_says, gone_says}
use Rattle.nc_spool.specs.Hear.{looked_again, heeded, noticed_at, noticed_by, noticed_in, noticed_place, emptied_at, emptied_by, emptied_in, emptied_place, answered, answered_by, answered_in, answered_at}
use Rattle.nc_spool.specs.Depart.{other_names, names_with, names_by, start_names, left, left_by, departed, departed_by, member_gone, member_gone_by, gone}
use Rattle.nc_spool.specs.Arrive.{oldest_cursor, joined, started_by, arrived}
use Rattle.nc_spool.specs.Newest.{begun, parked, fresh_edges, behind_edges, edges_from, asked_edge, edge_behind, edges_behind, second_by, answered_all, went_on, edge_heard, edge_heard_at, edge_answered, edge_answered_by}
use Rattle.nc_spool_laws.proofs.Closing.{out, out_start}
use Rattle.nc_spool_laws.specs.Numbers.{one, total}
use Rattle.nc_spool_laws.specs.Tally.{reader_at, readers_of, start_at, stands, end_at, ends, tally, KeepsTally}
use Rattle.nc_spool_laws.proofs.Lists.{none-without, found-passes}
use Rattle.nc_spool_laws.proofs.Totals.{total-insert, total-push, total-without}
use Rattle.nc_spool_laws.proofs.Same.{asked-shelf, asked-starts, parted-shelf, parted-starts, joined-shelf, joined-starts, fences-shelf, fences-starts, edges-shelf, edges-starts, behinds-shelf, behinds-starts}

module _ (k : ℕ) where
  with_reader-readers : (r : Reader) (s : SpoolAt) → readers_of k (with_reader r s) ≡ reader_at k r + readers_of k s
  with_reader-readers r s = total-insert (reader_at k) s.readers (place_above r.k s.readers) r

  -- without a subscriber
  without-own : (readers : List Reader) → total (reader_at k) (without k readers) ≡ 0
  without-own [] = refl
  without-own (r ∷ readers) = by (is_reader k r) refl (without-own readers)
    where
      by : (t : Bool) → is_reader k r ≡ t → total (reader_at k) (without k readers) ≡ 0 → total (reader_at k) (cond (not t) (r ∷ without k readers) (without k readers)) ≡ 0
      by true was rest = rest
      by false was rest = omega (arith, ap one was, rest)

  other-reader : (j i : ℕ) → (i == j) ≡ true → (j == k) ≡ false → one (i == k) ≡ 0
  other-reader j i same other = ap one (differs j i same other)
    where
      differs : (j i : ℕ) → (i == j) ≡ true → (j == k) ≡ false → (i == k) ≡ false
      differs j i same other = grind (arith, nat_tests)

  without-other : (j : ℕ) (readers : List Reader) → (j == k) ≡ false → total (reader_at k) (without j readers) ≡ total (reader_at k) readers
  without-other j [] other = refl
  without-other j (r ∷ readers) other = by (is_reader j r) refl (without-other j readers other)
    where
      by : (t : Bool) → is_reader j r ≡ t → total (reader_at k) (without j readers) ≡ total (reader_at k) readers → total (reader_at k) (cond (not t) (r ∷ without j readers) (without j readers)) ≡ reader_at k r + total (reader_at k) readers
      by true was rest = omega (arith, other-reader j r.k was other, rest)
      by false was rest = omega (arith, rest)

  some-reader : (readers : List Reader) → list_any (is_reader k) readers ≡ true → 1 ≤ total (reader_at k) readers
  some-reader [] e = absurd cc
  some-reader (r ∷ readers) e = by (is_reader k r) refl e (λ h. some-reader readers h)
    where
      by : (t : Bool) → is_reader k r ≡ t → (t || list_any (is_reader k) readers) ≡ true → (list_any (is_reader k) readers ≡ true → 1 ≤ total (reader_at k) readers) → 1 ≤ reader_at k r + total (reader_at k) readers
      by true was e rest = omega (arith, ap one was)
      by false was e rest = let more = rest e in omega (arith, more)

  no-readers : (readers : List Reader) → (length readers == 0) ≡ true → total (reader_at k) readers ≡ 0
  no-readers [] e = refl
  no-readers (r ∷ readers) e = absurd (grind (arith, nat_tests))

  -- a subscriber that is there is counted once
  abbrev pub counted : ℕ → Option (List (List ℕ)) → ℕ
  counted j None = 0
  counted j (Some names) = one (j == k)

  leaves-one : (j : ℕ) (s : SpoolAt) → has_reader j s ≡ true → readers_of k s ≤ 1 → readers_of k (without_reader j s) + one (j == k) ≡ readers_of k s
  leaves-one j s has few = by (j == k) refl
    where
      same : (j : ℕ) → (j == k) ≡ true → j ≡ k
      same j e = grind (arith, nat_tests)

      by : (t : Bool) → (j == k) ≡ t → readers_of k (without_reader j s) + one t ≡ readers_of k s
      by true was =
          let none : readers_of k (without_reader j s) ≡ 0 = subst (λ (i : ℕ). total (reader_at k) (without i s.readers) ≡ 0) (sym (same j was)) (without-own s.readers) in
          let some : 1 ≤ readers_of k s = some-reader s.readers (subst (λ (i : ℕ). has_reader i s ≡ true) (same j was) has) in
          omega (arith, none, some, few)
      by false was = omega (arith, without-other j s.readers was)

module _ (k : ℕ) where
  -- a fact more that ends nobody
  told-ends : (fact : Fact) (b : Board) → end_at k fact ≡ 0 → ends k (told fact b).facts ≡ ends k b.facts
  told-ends fact b e = omega (arith, total-push (end_at k) b.facts fact, e)

  looked-ends : (c : List ℕ) (after : Id) (fence : ℕ) (b : Board) → ends k (looked c after fence b).facts ≡ ends k b.facts
  looked-ends c after fence b = told-ends _ (record b { next = b.next + 1 }) refl

  asked-ends : (key : KeyAt) (j : ℕ) (names : List (List ℕ)) (b : Board) → ends k (asked_from key j names b).facts ≡ ends k b.facts
  asked-ends key j [] b = refl
  asked-ends key j (c ∷ names) b = asked-ends key (j + 1) names (looked c (id_at key j) 0 b) ∙ told-ends _ (record b { next = b.next + 1 }) refl

  parted-ends : (j : ℕ) (names : List (List ℕ)) (b : Board) → ends k (fold (parted j) b names).facts ≡ ends k b.facts
  parted-ends j [] b = refl
  parted-ends j (c ∷ names) b = parted-ends j names (parted j b c) ∙ told-ends _ b refl

  joined-ends : (j : ℕ) (names : List (List ℕ)) (b : Board) → ends k (fold (joined j) b names).facts ≡ ends k b.facts
  joined-ends j [] b = refl
  joined-ends j (c ∷ names) b = joined-ends j names (joined j b c) ∙ told-ends _ b refl

  fence-ends : (time : ℕ) (key : KeyAt) (j : ℕ) (p : Place) (b : Board) → ends k (fence_look time key j p b).facts ≡ ends k b.facts
  fence-ends time key j p b = by (is_below time p)
    where
      by : (t : Bool) → ends k (cond t (looked (name_at key j) (id_at key j) time b) b).facts ≡ ends k b.facts
      by true = told-ends _ (record b { next = b.next + 1 }) refl
      by false = refl

  fences-ends : (time : ℕ) (key : KeyAt) (j : ℕ) (places : List Place) (b : Board) → ends k (fence_looks time key j places b).facts ≡ ends k b.facts
  fences-ends time key j [] b = refl
  fences-ends time key j (p ∷ places) b = fences-ends time key (j + 1) places (fence_look time key j p b) ∙ fence-ends time key j p b

  edges-ends : (j : ℕ) (names : List (List ℕ)) (b : Board) → ends k (edges_from j names b).facts ≡ ends k b.facts
  edges-ends j [] b = refl
  edges-ends j (c ∷ names) b = edges-ends j names (asked_edge j c 0 b) ∙ told-ends _ (record b { next = b.next + 1 }) refl

  behind-ends : (time j : ℕ) (c : List ℕ) (e : Edge) (b : Board) → ends k (edge_behind time j c e b).facts ≡ ends k b.facts
  behind-ends time j c e b = by (is_behind time e)
    where
      by : (t : Bool) → ends k (cond t (asked_edge j c time b) b).facts ≡ ends k b.facts
      by true = told-ends _ (record b { next = b.next + 1 }) refl
      by false = refl

  behinds-ends : (time j : ℕ) (list : List (List ℕ)) (i : ℕ) (edges : List Edge) (b : Board) → ends k (edges_behind time j list i edges b).facts ≡ ends k b.facts
  behinds-ends time j list i [] b = refl
  behinds-ends time j list i (e ∷ edges) b = behinds-ends time j list (i + 1) edges (edge_behind time j (slice_index_or list i []) e b) ∙ behind-ends time j (slice_index_or list i []) e b

  -- a board with the same spools, starts and ends has the same tally
  same-tally : (b c : Board) → c.shelf ≡ b.shelf → c.starts ≡ b.starts → ends k c.facts ≡ ends k b.facts → tally k c ≡ tally k b
  same-tally b c e f g = ap (λ (l : List SpoolAt). total (readers_of k) l + total (start_at k) c.starts + ends k c.facts) e ∙ ap (λ (l : List StartingAt). total (readers_of k) b.shelf + total (start_at k) l + ends k c.facts) f ∙ ap (λ n. total (readers_of k) b.shelf + total (start_at k) b.starts + n) g

  shelved-tally : (s : SpoolAt) (b : Board) → tally k (shelved s b) ≡ readers_of k s + tally k b
  shelved-tally s b = omega (arith, total-insert (readers_of k) b.shelf (place_before s.key b.shelf) s)

  out-tally : (test : SpoolAt → Bool) (s : SpoolAt) (b : Board) → find test b.shelf ≡ Some s → readers_of k s + tally k (out test b) ≡ tally k b
  out-tally test s b was = omega (arith, total-without (readers_of k) test b.shelf s was)

  missed-tally : (test : SpoolAt → Bool) (b : Board) → find test b.shelf ≡ None → tally k (out test b) ≡ tally k b
  missed-tally test b was = ap (λ (l : List SpoolAt). total (readers_of k) l + total (start_at k) b.starts + ends k b.facts) (sym (none-without test b.shelf was))

  missed_start-tally : (test : StartingAt → Bool) (b : Board) → find test b.starts ≡ None → tally k (out_start test b) ≡ tally k b
  missed_start-tally test b was = ap (λ (l : List StartingAt). total (readers_of k) b.shelf + total (start_at k) l + ends k b.facts) (sym (none-without test b.starts was))

  out_start-tally : (test : StartingAt → Bool) (s : StartingAt) (b : Board) → find test b.starts ≡ Some s → start_at k s + tally k (out_start test b) ≡ tally k b
  out_start-tally test s b was = omega (arith, total-without (start_at k) test b.starts s was)

  parked-tally : (s : StartingAt) (b : Board) → tally k (parked s b) ≡ start_at k s + tally k b
  parked-tally s b = omega (arith, total-push (start_at k) b.starts s)

  entered-tally : (key : KeyAt) (r : Reader) (b : Board) → tally k (entered key r b) ≡ reader_at k r + tally k b
  entered-tally key r b = by (spool_of key b.shelf) refl
    where
      by : (o : Option SpoolAt) → spool_of key b.shelf ≡ o → tally k (shelved (with_reader r (standing o key b)) (opened o key (out (is_of key) b))) ≡ reader_at k r + tally k b
      by None was =
          let asked = asked_from key 0 key.list (out (is_of key) b) in
          omega (arith, shelved-tally (with_reader r (fresh_spool b.next key)) asked, with_reader-readers k r (fresh_spool b.next key), same-tally (out (is_of key) b) asked (asked-shelf key 0 key.list (out (is_of key) b)) (asked-starts key 0 key.list (out (is_of key) b)) (asked-ends key 0 key.list (out (is_of key) b)), missed-tally (is_of key) b was)
      by (Some s) was = omega (arith, shelved-tally (with_reader r s) (out (is_of key) b), with_reader-readers k r s, out-tally (is_of key) s b was)

  ended-tally : (j : ℕ) (deleted : Bool) (names : List (List ℕ)) (b : Board) → tally k (ended j deleted names b) ≡ one (j == k) + tally k b
  ended-tally j deleted names b =
      let first = told (Ended j deleted) b in
      omega (arith, same-tally first (ended j deleted names b) (parted-shelf j names first) (parted-starts j names first) (parted-ends j names first), total-push (end_at k) b.facts (Ended j deleted))

  sent_one-tally : (d : Delivery) (r : Reader) (b : Board) → tally k (sent_one d b r) ≡ reader_at k r + tally k b
  sent_one-tally d r b = by r.once
    where
      by : (t : Bool) → tally k (cond t (ended r.k false d.key.list (told (Sent (sending d r)) b)) (entered d.key r (told (Sent (sending d r)) b))) ≡ reader_at k r + tally k b
      by true = omega (arith, ended-tally r.k false d.key.list (told (Sent (sending d r)) b), told-ends (Sent (sending d r)) b refl)
      by false = omega (arith, entered-tally d.key r (told (Sent (sending d r)) b), told-ends (Sent (sending d r)) b refl)

  sent-tally : (d : Delivery) (readers : List Reader) (b : Board) → tally k (fold (sent_one d) b readers) ≡ total (reader_at k) readers + tally k b
  sent-tally d [] b = omega arith
  sent-tally d (r ∷ readers) b = omega (arith, sent-tally d readers (sent_one d b r), sent_one-tally d r b)

  decided-tally : (s : SpoolAt) (b : Board) → tally k (decided s b) ≡ readers_of k s + tally k b
  decided-tally s b = by (choice s.places)
    where
      by : (o : Choice) → tally k (decided_by o s b) ≡ readers_of k s + tally k b
      by Wait = shelved-tally s b
      by (Fence time) =
          omega (arith, shelved-tally (record s { places = fenced_places time s.key 0 s.places b }) (fence_looks time s.key 0 s.places b), same-tally b (fence_looks time s.key 0 s.places b) (fences-shelf time s.key 0 s.places b) (fences-starts time s.key 0 s.places b) (fences-ends time s.key 0 s.places b))
      by (Send f) = sent-tally (delivery f s) s.readers b

  heeded-tally : (h : Heard) (j : ℕ) (s : SpoolAt) (b : Board) → tally k (heeded h j s b) ≡ readers_of k s + tally k b
  heeded-tally Stays j s b = shelved-tally s b
  heeded-tally (Forgets p) j s b = shelved-tally (with_place j p s) b
  heeded-tally Looks j s b = omega (arith, shelved-tally (with_place j (Asked b.next None) s) (looked_again s.key j b), looked-ends (name_at s.key j) (id_at s.key j) 0 b)
  heeded-tally (Finds p) j s b = decided-tally (with_place j p s) b

  noticed_in-tally : (c : List ℕ) (news : News) (s : SpoolAt) (b : Board) → tally k (noticed_in c news s b) ≡ readers_of k s + tally k b
  noticed_in-tally c news s b = by (place_of c s.key.list)
    where
      by : (o : Option ℕ) → tally k (noticed_place o news s b) ≡ readers_of k s + tally k b
      by None = shelved-tally s b
      by (Some j) = heeded-tally (notice_says news (is_past news.id (id_at s.key j)) (place_at s j)) j s b

  pub noticed_at-tally : (c : List ℕ) (news : News) (b : Board) (key : KeyAt) → tally k (noticed_at c news b key) ≡ tally k b
  noticed_at-tally c news b key = by (spool_of key b.shelf) refl
    where
      by : (o : Option SpoolAt) → spool_of key b.shelf ≡ o → tally k (noticed_by o c news (out (is_of key) b)) ≡ tally k b
      by None was = missed-tally (is_of key) b was
      by (Some s) was = noticed_in-tally c news s (out (is_of key) b) ∙ out-tally (is_of key) s b was

  noticed_keys-tally : (c : List ℕ) (news : News) (keys : List KeyAt) (b : Board) → tally k (fold (noticed_at c news) b keys) ≡ tally k b
  noticed_keys-tally c news [] b = refl
  noticed_keys-tally c news (key ∷ keys) b = noticed_keys-tally c news keys (noticed_at c news b key) ∙ noticed_at-tally c news b key

  emptied_in-tally : (c : List ℕ) (s : SpoolAt) (b : Board) → tally k (emptied_in c s b) ≡ readers_of k s + tally k b
  emptied_in-tally c s b = by (place_of c s.key.list)
    where
      by : (o : Option ℕ) → tally k (emptied_place o s b) ≡ readers_of k s + tally k b
      by None = shelved-tally s b
      by (Some j) = heeded-tally (gone_says (place_at s j)) j s b

  emptied_at-tally : (c : List ℕ) (b : Board) (key : KeyAt) → tally k (emptied_at c b key) ≡ tally k b
  emptied_at-tally c b key = by (spool_of key b.shelf) refl
    where
      by : (o : Option SpoolAt) → spool_of key b.shelf ≡ o → tally k (emptied_by o c (out (is_of key) b)) ≡ tally k b
      by None was = missed-tally (is_of key) b was
      by (Some s) was = emptied_in-tally c s (out (is_of key) b) ∙ out-tally (is_of key) s b was

  emptied_keys-tally : (c : List ℕ) (keys : List KeyAt) (b : Board) → tally k (fold (emptied_at c) b keys) ≡ tally k b
  emptied_keys-tally c [] b = refl
  emptied_keys-tally c (key ∷ keys) b = emptied_keys-tally c keys (emptied_at c b key) ∙ emptied_at-tally c b key

  answered_in-tally : (number : ℕ) (quiet : Quiet) (news : Option News) (s : SpoolAt) (b : Board) → tally k (answered_in number quiet news s b) ≡ readers_of k s + tally k b
  answered_in-tally number quiet news s b = by (place_awaiting number s.places)
    where
      by : (o : Option ℕ) → tally k (answered_at o quiet news s b) ≡ readers_of k s + tally k b
      by None = shelved-tally s b
      by (Some j) = decided-tally (with_place j (learned (id_at s.key j) quiet news) s) b

  answered-tally : (number : ℕ) (quiet : Quiet) (news : Option News) (b : Board) → tally k (answered number quiet news b) ≡ tally k b
  answered-tally number quiet news b = by (find (awaits number) b.shelf) refl
    where
      by : (o : Option SpoolAt) → find (awaits number) b.shelf ≡ o → tally k (answered_by o number quiet news (out (awaits number) b)) ≡ tally k b
      by None was = missed-tally (awaits number) b was
      by (Some s) was = answered_in-tally number quiet news s (out (awaits number) b) ∙ out-tally (awaits number) s b was

  begun-tally : (r : Reader) (key : KeyAt) (b : Board) → tally k (begun r key b) ≡ reader_at k r + tally k b
  begun-tally r key b = omega (arith, entered-tally key r (told (Started r.k key.cursor) b), told-ends (Started r.k key.cursor) b refl)

  arrived-tally : (r : Reader) (list : List (List ℕ)) (start : Start) (b : Board) → tally k (arrived r list start b) ≡ reader_at k r + tally k b
  arrived-tally r list start b = by start ∙ ap (λ n. reader_at k r + n) (same-tally b (fold (joined r.k) b list) (joined-shelf r.k list b) (joined-starts r.k list b) (joined-ends r.k list b))
    where
      by : (start : Start) → tally k (started_by start r list (fold (joined r.k) b list)) ≡ reader_at k r + tally k (fold (joined r.k) b list)
      by starts.Oldest = begun-tally r (record { list = list; cursor = oldest_cursor (length list) }) (fold (joined r.k) b list)
      by starts.Newest =
          let now = fold (joined r.k) b list in
          let st : StartingAt = record { reader = r; list = list; edges = fresh_edges now.next list; cursor = None } in
          omega (arith, parked-tally st (edges_from r.k list now), same-tally now (edges_from r.k list now) (edges-shelf r.k list now) (edges-starts r.k list now) (edges-ends r.k list now))
      by (starts.Given cursor) = begun-tally r (record { list = list; cursor = cursor }) (fold (joined r.k) b list)

  second-tally : (t : Bool) (cursor : CursorAt) (s : StartingAt) (b : Board) → tally k (second_by t s.reader s.list s.edges cursor b) ≡ start_at k s + tally k b
  second-tally true cursor s b =
      let now = edges_behind cursor.time s.reader.k s.list 0 s.edges b in
      let st : StartingAt = record s { edges = behind_edges cursor.time s.reader.k s.list 0 s.edges b; cursor = Some cursor } in
      omega (arith, parked-tally st now, same-tally b now (behinds-shelf cursor.time s.reader.k s.list 0 s.edges b) (behinds-starts cursor.time s.reader.k s.list 0 s.edges b) (behinds-ends cursor.time s.reader.k s.list 0 s.edges b))
  second-tally false cursor s b = begun-tally s.reader (record { list = s.list; cursor = cursor }) b

  went_on-tally : (s : StartingAt) (b : Board) → tally k (went_on s b) ≡ start_at k s + tally k b
  went_on-tally s b = by (is_any_awaited s.edges)
    where
      all : (o : Option CursorAt) → tally k (answered_all o s.reader s.list s.edges b) ≡ start_at k s + tally k b
      all None = second-tally (is_any_behind (newest_cursor s.edges).time s.edges) (newest_cursor s.edges) s b
      all (Some cursor) = begun-tally s.reader (record { list = s.list; cursor = cursor }) b

      by : (t : Bool) → tally k (cond t (parked s b) (answered_all s.cursor s.reader s.list s.edges b)) ≡ start_at k s + tally k b
      by true = parked-tally s b
      by false = all s.cursor

  edge_heard-tally : (number : ℕ) (now : Edge) (s : StartingAt) (b : Board) → tally k (edge_heard number now s b) ≡ start_at k s + tally k b
  edge_heard-tally number now s b = by (edge_awaiting number s.edges)
    where
      by : (o : Option ℕ) → tally k (edge_heard_at o now s b) ≡ start_at k s + tally k b
      by None = parked-tally s b
      by (Some j) = went_on-tally (with_edge j now s) b

  edged-tally : (number : ℕ) (now : Edge) (b : Board) → tally k (edge_answered number now b) ≡ tally k b
  edged-tally number now b = by (find (start_awaits number) b.starts) refl
    where
      by : (o : Option StartingAt) → find (start_awaits number) b.starts ≡ o → tally k (edge_answered_by o number now (out_start (start_awaits number) b)) ≡ tally k b
      by None was = missed_start-tally (start_awaits number) b was
      by (Some s) was = edge_heard-tally number now s (out_start (start_awaits number) b) ∙ out_start-tally (start_awaits number) s b was

  back-tally : (s : SpoolAt) (b : Board) → tally k (record b { shelf = with_read_spool s b.shelf }) ≡ readers_of k s + tally k b
  back-tally s b = by (length s.readers == 0) refl
    where
      by : (t : Bool) → (length s.readers == 0) ≡ t → tally k (record b { shelf = cond t b.shelf (with_spool s b.shelf) }) ≡ readers_of k s + tally k b
      by true was = omega (arith, no-readers k s.readers was)
      by false was = shelved-tally s b

  -- one that stands once leaves once
  pub left-tally : (j : ℕ) (b : Board) → stands k b ≤ 1 → tally k (left j b) + counted k j (names_with j b) ≡ tally k b
  left-tally j b few = by (find (has_reader j) b.shelf) refl
    where
      start-one : (st : StartingAt) → starts_with j st ≡ true → start_at k st ≡ one (j == k)
      start-one st was = ap (λ (i : ℕ). one (i == k)) (equal st.reader.k j was)
        where
          equal : (i j : ℕ) → (i == j) ≡ true → i ≡ j
          equal i j e = grind (arith, nat_tests)

      start : (o : Option StartingAt) → find (starts_with j) b.starts ≡ o → find (has_reader j) b.shelf ≡ None → tally k (out_start (starts_with j) (out (has_reader j) b)) + counted k j (start_names o) ≡ tally k b
      start None was none = omega (arith, missed_start-tally (starts_with j) (out (has_reader j) b) was, missed-tally (has_reader j) b none)
      start (Some st) was none = omega (arith, out_start-tally (starts_with j) st (out (has_reader j) b) was, missed-tally (has_reader j) b none, start-one st (found-passes (starts_with j) b.starts st was))

      by : (o : Option SpoolAt) → find (has_reader j) b.shelf ≡ o → tally k (left_by o j (out (has_reader j) b)) + counted k j (names_by o (find (starts_with j) b.starts)) ≡ tally k b
      by None was = start (find (starts_with j) b.starts) refl was
      by (Some s) was =
          let parts = total-without (readers_of k) (has_reader j) b.shelf s was in
          omega (arith, back-tally (without_reader j s) (out (has_reader j) b), out-tally (has_reader j) s b was, leaves-one k j s (found-passes (has_reader j) b.shelf s was) (omega (arith, parts, few)))

  pub left-ends : (j : ℕ) (b : Board) → ends k (left j b).facts ≡ ends k b.facts
  left-ends j b = by (find (has_reader j) b.shelf)
    where
      by : (o : Option SpoolAt) → ends k (left_by o j (out (has_reader j) b)).facts ≡ ends k b.facts
      by None = refl
      by (Some s) = refl

  departed-tally : (j : ℕ) (b : Board) → stands k b ≤ 1 → tally k (departed j b) ≡ tally k b
  departed-tally j b few = by (names_with j b) refl
    where
      by : (o : Option (List (List ℕ))) → names_with j b ≡ o → tally k (departed_by o j (left j b)) ≡ tally k b
      by None was = omega (arith, left-tally j b few, ap (counted k j) was)
      by (Some names) was = omega (arith, ended-tally j false names (left j b), left-tally j b few, ap (counted k j) was)

  member_gone-tally : (c : List ℕ) (j : ℕ) (b : Board) → stands k b ≤ 1 → tally k (member_gone c b j) ≡ tally k b
  member_gone-tally c j b few = by (names_with j b) refl
    where
      by : (o : Option (List (List ℕ))) → names_with j b ≡ o → tally k (member_gone_by o c j (left j b)) ≡ tally k b
      by None was = omega (arith, left-tally j b few, ap (counted k j) was)
      by (Some names) was = omega (arith, ended-tally j true (other_names c names) (left j b), left-tally j b few, ap (counted k j) was)

  -- nobody is ended less often
  more-ends : (c : List ℕ) (j : ℕ) (b : Board) → ends k b.facts ≤ ends k (member_gone c b j).facts
  more-ends c j b = by (names_with j b)
    where
      by : (o : Option (List (List ℕ))) → ends k b.facts ≤ ends k (member_gone_by o c j (left j b)).facts
      by None = omega (arith, left-ends j b)
      by (Some names) = let first = told (Ended j true) (left j b) in omega (arith, left-ends j b, parted-ends j (other_names c names) first, total-push (end_at k) (left j b).facts (Ended j true))

  members_gone-tally : (c members : List ℕ) (b : Board) → stands k b ≤ 1 → tally k (fold (member_gone c) b members) ≡ tally k b
  members_gone-tally c [] b few = refl
  members_gone-tally c (j ∷ members) b few =
      let one_more = member_gone-tally c j b few in
      let more = more-ends c j b in
      members_gone-tally c members (member_gone c b j) (omega (arith, one_more, more, few)) ∙ one_more

  gone-tally : (c members : List ℕ) (b : Board) → stands k b ≤ 1 → tally k (gone c members b) ≡ tally k b
  gone-tally c members b few = emptied_keys-tally c (keys_with c (fold (member_gone c) b members).shelf) (fold (member_gone c) b members) ∙ members_gone-tally c members b few

pub tally-kept : KeepsTally
tally-kept = record {
  arrive = λ k r list start b. arrived-tally k r list start b;
  answer = λ k number quiet news b. answered-tally k number quiet news b;
  edge_answer = λ k number now b. edged-tally k number now b;
  notice = λ k c news b. noticed_keys-tally k c news (keys_with c b.shelf) b;
  removal = λ k c members b few. gone-tally k c members b (few k);
  depart = λ k j b few. departed-tally k j b (few k);
}
