-- Each call keeps what each of its small steps keeps.
use Rattle.std.proofs.Common.{◌≡◌, ℕ, ◌<◌, Bool, true, false, cond, List, [], ◌∷◌, refl, sym, subst, Option, Some, None, find, length, ◌==◌, arith, eqb}
use Rattle.std.specs.Prelude.{fold}
use Rattle.nc_types.specs.Id.{Id, is_past}
use Rattle.nc_types.specs.Cursor.{CursorAt}
use Rattle.nc_types.specs.declared.start.Start.{Start}
use Rattle.nc_types.specs.declared.start.Start.TheVariants as starts
use Rattle.nc_spool.specs.declared.fact.Fact.TheVariants.{Started, Sent, Ended}
use Rattle.nc_spool_state.specs.declared.place.Quiet.{Quiet}
use Rattle.nc_spool_state.specs.declared.place.Place.{Place}
use Rattle.nc_spool_state.specs.declared.place.Place.TheVariants.{Asked, Nothing, Found}
use Rattle.nc_spool_state.specs.declared.spool.Reader.{Reader}
use Rattle.nc_spool_state.specs.declared.choice.Find.{Find}
use Rattle.nc_spool_state.specs.declared.choice.Choice.{Choice}
use Rattle.nc_spool_state.specs.declared.choice.Choice.TheVariants.{Wait, Fence, Send}
use Rattle.nc_spool_state.specs.declared.hear.News.{News}
use Rattle.nc_spool_state.specs.declared.edge.Edge.TheVariants.{Known}
use Rattle.nc_spool.specs.declared.board.Board.{Board}
use Rattle.nc_spool_state.specs.Key.{KeyAt, id_at, place_of}
use Rattle.nc_spool_state.specs.Place.{place_awaiting}
use Rattle.nc_spool_state.specs.Spool.{SpoolAt, is_of, awaits, has_reader, with_reader, without_reader, place_at, with_place}
use Rattle.nc_spool_state.specs.Shelf.{spool_of, without_first, with_spool, keys_with}
use Rattle.nc_spool_state.specs.Choice.{is_any_asked, soonest, choice, choice_by}
use Rattle.nc_spool_state.specs.Edge.{is_any_awaited, is_any_behind, newest_cursor, edge_awaiting}
use Rattle.nc_spool_state.specs.Starting.{StartingAt, with_edge, start_awaits, starts_with}
use Rattle.nc_spool.specs.Board.{told, shelved, standing, opened, entered, parted, ended}
use Rattle.nc_spool.specs.Decide.{delivery, sending, sent_one, decided, decided_by}
use Rattle.nc_spool_state.specs.Hear.{found_by, learned, notice_says, gone_says}
use Rattle.nc_spool.specs.Hear.{heeded, noticed_at, noticed_by, noticed_in, noticed_place, emptied_at, emptied_by, emptied_in, emptied_place, answered, answered_by, answered_in, answered_at}
use Rattle.nc_spool.specs.Depart.{other_names, names_with, left, left_by, departed, departed_by, member_gone, member_gone_by, gone}
use Rattle.nc_spool.specs.Arrive.{oldest_cursor, joined, started_by, arrived}
use Rattle.nc_spool.specs.Newest.{begun, parked, second_by, answered_all, went_on, edge_heard, edge_heard_at, edge_answered, edge_answered_by}
use Rattle.nc_spool_laws.specs.Closed.{first_key, IsKept}
use Rattle.nc_spool_laws.proofs.Closing.{out, out_start, RestsOn, IsSending, IsClosed}
use Rattle.nc_spool_laws.proofs.Lists.{none-without}

fence-unasked : (places : List Place) (time : ℕ) → choice places ≡ Fence time → is_any_asked places ≡ false
fence-unasked places time e = by (is_any_asked places) refl e
  where
    by : (a : Bool) → is_any_asked places ≡ a → choice_by a (soonest None 0 places) places ≡ Fence time → is_any_asked places ≡ false
    by true was e = absurd cc
    by false was e = was

some-left : (n : ℕ) → eqb n 0 ≡ false → 0 < n
some-left n e = grind arith

module _ (Good : List ℕ → News → Type 0) (Right : ℕ → Quiet → Option News → Type 0) (Last : Id → Type 0) (Fits : KeyAt → Type 0) (Ready : Find → SpoolAt → Type 0) (In : Board → Type 0) (Beside : SpoolAt → Board → Type 0) (Apart : StartingAt → Board → Type 0) (sends : IsSending Good Right Last Fits Ready In Beside Apart) where
  pub missed-kept : (test : SpoolAt → Bool) (b : Board) → find test b.shelf ≡ None → In b → In (out test b)
  missed-kept test b none i = subst (λ (shelf : List SpoolAt). In (record b { shelf = shelf })) (none-without test b.shelf none) i

  pub entered-kept : (key : KeyAt) (r : Reader) (b : Board) → Fits key → In b → In (entered key r b)
  entered-kept key r b fits i = by (spool_of key b.shelf) refl
    where
      by : (o : Option SpoolAt) → spool_of key b.shelf ≡ o → In (shelved (with_reader r (standing o key b)) (opened o key (out (is_of key) b)))
      by None was = sends.put _ _ (sends.open_new key r (out (is_of key) b) (subst (λ (l : List SpoolAt). find (is_of key) l ≡ None) (none-without (is_of key) b.shelf was) was) fits (missed-kept (is_of key) b was i))
      by (Some s) was = sends.put _ _ (sends.enter r s _ (sends.take (is_of key) s b was i))

  parted-in : (k : ℕ) (names : List (List ℕ)) (b : Board) → In b → In (fold (parted k) b names)
  parted-in k [] b i = i
  parted-in k (c ∷ names) b i = parted-in k names (parted k b c) (sends.part k c b i)

  pub ended-kept : (k : ℕ) (deleted : Bool) (names : List (List ℕ)) (b : Board) → In b → In (ended k deleted names b)
  ended-kept k deleted names b i = parted-in k names (told (Ended k deleted) b) (sends.end k deleted b i)

  sent_one-in : (f : Find) (s : SpoolAt) (r : Reader) (b : Board) → Ready f s → In b → In (sent_one (delivery f s) b r)
  sent_one-in f s r b ready i = by r.once
    where
      by : (t : Bool) → In (cond t (ended r.k false s.key.list (told (Sent (sending (delivery f s) r)) b)) (entered (delivery f s).key r (told (Sent (sending (delivery f s) r)) b)))
      by true = ended-kept r.k false s.key.list (told (Sent (sending (delivery f s) r)) b) (sends.send f s r b ready i)
      by false = entered-kept (delivery f s).key r (told (Sent (sending (delivery f s) r)) b) (sends.fits f s ready) (sends.send f s r b ready i)

  sent-in : (f : Find) (s : SpoolAt) (readers : List Reader) (b : Board) → Ready f s → In b → In (fold (sent_one (delivery f s)) b readers)
  sent-in f s [] b ready i = i
  sent-in f s (r ∷ readers) b ready i = sent-in f s readers (sent_one (delivery f s) b r) ready (sent_one-in f s r b ready i)

  pub decided-kept : (s : SpoolAt) (b : Board) → Beside s b → In (decided s b)
  decided-kept s b i = by (choice s.places) refl
    where
      by : (o : Choice) → choice s.places ≡ o → In (decided_by o s b)
      by Wait was = sends.put s b i
      by (Fence time) was = sends.put _ _ (sends.fence time s b was (fence-unasked s.places time was) i)
      by (Send f) was = sent-in f s s.readers b (sends.ready f s b was i) (sends.drop s b i)

module _ (Good : List ℕ → News → Type 0) (Right : ℕ → Quiet → Option News → Type 0) (Last : Id → Type 0) (Fits : KeyAt → Type 0) (Ready : Find → SpoolAt → Type 0) (In : Board → Type 0) (Beside : SpoolAt → Board → Type 0) (Apart : StartingAt → Board → Type 0) (keeps : IsClosed Good Right Last Fits Ready In Beside Apart) where
  entered-in : (key : KeyAt) (r : Reader) (b : Board) → Fits key → In b → In (entered key r b)
  entered-in = entered-kept Good Right Last Fits Ready In Beside Apart keeps.sends

  ended-in : (k : ℕ) (deleted : Bool) (names : List (List ℕ)) (b : Board) → In b → In (ended k deleted names b)
  ended-in = ended-kept Good Right Last Fits Ready In Beside Apart keeps.sends

  decided-in : (s : SpoolAt) (b : Board) → Beside s b → In (decided s b)
  decided-in = decided-kept Good Right Last Fits Ready In Beside Apart keeps.sends

  missed : (test : SpoolAt → Bool) (b : Board) → find test b.shelf ≡ None → In b → In (out test b)
  missed = missed-kept Good Right Last Fits Ready In Beside Apart keeps.sends

  missed-start : (test : StartingAt → Bool) (b : Board) → find test b.starts ≡ None → In b → In (out_start test b)
  missed-start test b none i = subst (λ (starts : List StartingAt). In (record b { starts = starts })) (none-without test b.starts none) i

  noticed-heed : (c : List ℕ) (news : News) (past : Bool) (p : Place) (j : ℕ) (s : SpoolAt) (b : Board) → Good c news → place_of c s.key.list ≡ Some j → is_past news.id (id_at s.key j) ≡ past → place_at s j ≡ p → Beside s b → In (heeded (notice_says news past p) j s b)
  noticed-heed c news true (Nothing quiet) j s b good at later was i = decided-in _ b (keeps.hear c j quiet news s b at (subst (RestsOn quiet) (sym was) refl) good later i)
  noticed-heed c news false (Nothing quiet) j s b good at later was i = keeps.sends.put _ _ (keeps.look c j s b at i)
  noticed-heed c news true (Asked n (Some quiet)) j s b good at later was i = decided-in _ b (keeps.hear c j quiet news s b at (subst (RestsOn quiet) (sym was) refl) good later i)
  noticed-heed c news false (Asked n (Some quiet)) j s b good at later was i = keeps.sends.put _ _ (keeps.forget c j n quiet s b at was i)
  noticed-heed c news past (Asked n None) j s b good at later was i = keeps.sends.put s b i
  noticed-heed c news past (Found q id owner g) j s b good at later was i = keeps.sends.put s b i

  gone-heed : (c : List ℕ) (p : Place) (j : ℕ) (s : SpoolAt) (b : Board) → place_of c s.key.list ≡ Some j → place_at s j ≡ p → Beside s b → In (heeded (gone_says p) j s b)
  gone-heed c (Nothing quiet) j s b at was i = keeps.sends.put _ _ (keeps.look c j s b at i)
  gone-heed c (Asked n (Some quiet)) j s b at was i = keeps.sends.put _ _ (keeps.forget c j n quiet s b at was i)
  gone-heed c (Asked n None) j s b at was i = keeps.sends.put s b i
  gone-heed c (Found q id owner g) j s b at was i = keeps.sends.put s b i

  noticed_in-in : (c : List ℕ) (news : News) (s : SpoolAt) (b : Board) → Good c news → Beside s b → In (noticed_in c news s b)
  noticed_in-in c news s b good i = by (place_of c s.key.list) refl
    where
      by : (o : Option ℕ) → place_of c s.key.list ≡ o → In (noticed_place o news s b)
      by None at = keeps.sends.put s b i
      by (Some j) at = noticed-heed c news (is_past news.id (id_at s.key j)) (place_at s j) j s b good at refl refl i

  pub noticed_at-in : (c : List ℕ) (news : News) (b : Board) (key : KeyAt) → Good c news → In b → In (noticed_at c news b key)
  noticed_at-in c news b key good i = by (spool_of key b.shelf) refl
    where
      by : (o : Option SpoolAt) → spool_of key b.shelf ≡ o → In (noticed_by o c news (out (is_of key) b))
      by None was = missed (is_of key) b was i
      by (Some s) was = noticed_in-in c news s (out (is_of key) b) good (keeps.sends.take (is_of key) s b was i)

  noticed_keys-in : (c : List ℕ) (news : News) (keys : List KeyAt) (b : Board) → Good c news → In b → In (fold (noticed_at c news) b keys)
  noticed_keys-in c news [] b good i = i
  noticed_keys-in c news (key ∷ keys) b good i = noticed_keys-in c news keys (noticed_at c news b key) good (noticed_at-in c news b key good i)

  emptied_in-in : (c : List ℕ) (s : SpoolAt) (b : Board) → Beside s b → In (emptied_in c s b)
  emptied_in-in c s b i = by (place_of c s.key.list) refl
    where
      by : (o : Option ℕ) → place_of c s.key.list ≡ o → In (emptied_place o s b)
      by None at = keeps.sends.put s b i
      by (Some j) at = gone-heed c (place_at s j) j s b at refl i

  pub emptied_at-in : (c : List ℕ) (b : Board) (key : KeyAt) → In b → In (emptied_at c b key)
  emptied_at-in c b key i = by (spool_of key b.shelf) refl
    where
      by : (o : Option SpoolAt) → spool_of key b.shelf ≡ o → In (emptied_by o c (out (is_of key) b))
      by None was = missed (is_of key) b was i
      by (Some s) was = emptied_in-in c s (out (is_of key) b) (keeps.sends.take (is_of key) s b was i)

  emptied_keys-in : (c : List ℕ) (keys : List KeyAt) (b : Board) → In b → In (fold (emptied_at c) b keys)
  emptied_keys-in c [] b i = i
  emptied_keys-in c (key ∷ keys) b i = emptied_keys-in c keys (emptied_at c b key) (emptied_at-in c b key i)

  learned-in : (number : ℕ) (news : Option News) (quiet : Quiet) (j : ℕ) (s : SpoolAt) (b : Board) → place_awaiting number s.places ≡ Some j → Right number quiet news → Beside s b → Beside (with_place j (learned (id_at s.key j) quiet news) s) b
  learned-in number None quiet j s b at right i = keeps.quieten number j quiet None s b at right tt i
  learned-in number (Some news) quiet j s b at right i = by (is_past news.id (id_at s.key j)) refl
    where
      by : (t : Bool) → is_past news.id (id_at s.key j) ≡ t → Beside (with_place j (cond t (found_by quiet.q news) (Nothing quiet)) s) b
      by true later = keeps.discover number j quiet news s b at right later i
      by false later = keeps.quieten number j quiet (Some news) s b at right later i

  answered_in-in : (number : ℕ) (quiet : Quiet) (news : Option News) (s : SpoolAt) (b : Board) → Right number quiet news → Beside s b → In (answered_in number quiet news s b)
  answered_in-in number quiet news s b right i = by (place_awaiting number s.places) refl
    where
      by : (o : Option ℕ) → place_awaiting number s.places ≡ o → In (answered_at o quiet news s b)
      by None at = keeps.sends.put s b i
      by (Some j) at = decided-in _ b (learned-in number news quiet j s b at right i)

  answered-in : (number : ℕ) (quiet : Quiet) (news : Option News) (b : Board) → Right number quiet news → In b → In (answered number quiet news b)
  answered-in number quiet news b good i = by (find (awaits number) b.shelf) refl
    where
      by : (o : Option SpoolAt) → find (awaits number) b.shelf ≡ o → In (answered_by o number quiet news (out (awaits number) b))
      by None was = missed (awaits number) b was i
      by (Some s) was = answered_in-in number quiet news s (out (awaits number) b) good (keeps.sends.take (awaits number) s b was i)

  left-in : (k : ℕ) (b : Board) → In b → In (left k b)
  left-in k b i = by (find (has_reader k) b.shelf) refl
    where
      back : (t : Bool) (s : SpoolAt) → (length (without_reader k s).readers == 0) ≡ t → Beside s (out (has_reader k) b) → In (record b { shelf = cond t (without_first (has_reader k) b.shelf) (with_spool (without_reader k s) (without_first (has_reader k) b.shelf)) })
      back true s was i = keeps.sends.drop s _ i
      back false s was i = keeps.sends.put _ _ (keeps.leave k s _ i (some-left (length (without_reader k s).readers) was))

      gone-start : (o : Option StartingAt) → find (starts_with k) b.starts ≡ o → In (out (has_reader k) b) → In (out_start (starts_with k) (out (has_reader k) b))
      gone-start None was i = missed-start (starts_with k) (out (has_reader k) b) was i
      gone-start (Some st) was i = keeps.drop_start st _ (keeps.take_start (starts_with k) st (out (has_reader k) b) was i)

      by : (o : Option SpoolAt) → find (has_reader k) b.shelf ≡ o → In (left_by o k (out (has_reader k) b))
      by None was = gone-start (find (starts_with k) b.starts) refl (missed (has_reader k) b was i)
      by (Some s) was = back (length (without_reader k s).readers == 0) s refl (keeps.sends.take (has_reader k) s b was i)

  departed-in : (k : ℕ) (b : Board) → In b → In (departed k b)
  departed-in k b i = by (names_with k b)
    where
      by : (o : Option (List (List ℕ))) → In (departed_by o k (left k b))
      by None = left-in k b i
      by (Some names) = ended-in k false names (left k b) (left-in k b i)

  member_gone-in : (c : List ℕ) (k : ℕ) (b : Board) → In b → In (member_gone c b k)
  member_gone-in c k b i = by (names_with k b)
    where
      by : (o : Option (List (List ℕ))) → In (member_gone_by o c k (left k b))
      by None = left-in k b i
      by (Some names) = ended-in k true (other_names c names) (left k b) (left-in k b i)

  pub members_gone-in : (c members : List ℕ) (b : Board) → In b → In (fold (member_gone c) b members)
  members_gone-in c [] b i = i
  members_gone-in c (k ∷ members) b i = members_gone-in c members (member_gone c b k) (member_gone-in c k b i)

  gone-in : (c members : List ℕ) (b : Board) → In b → In (gone c members b)
  gone-in c members b i = emptied_keys-in c (keys_with c (fold (member_gone c) b members).shelf) (fold (member_gone c) b members) (members_gone-in c members b i)

  begun-in : (r : Reader) (key : KeyAt) (b : Board) → Fits key → In b → In (begun r key b)
  begun-in r key b fits i = entered-in key r (told (Started r.k key.cursor) b) fits (keeps.start r.k key.cursor b i)

  joined-in : (k : ℕ) (names : List (List ℕ)) (b : Board) → In b → In (fold (joined k) b names)
  joined-in k [] b i = i
  joined-in k (c ∷ names) b i = joined-in k names (joined k b c) (keeps.join k c b i)

  arrived-in : (r : Reader) (list : List (List ℕ)) (start : Start) (b : Board) → Fits (first_key list start) → In b → In (arrived r list start b)
  arrived-in r list start b fits i = by start fits (joined-in r.k list b i)
    where
      by : (start : Start) → Fits (first_key list start) → In (fold (joined r.k) b list) → In (started_by start r list (fold (joined r.k) b list))
      by starts.Oldest fits i = begun-in r (record { list = list; cursor = oldest_cursor (length list) }) (fold (joined r.k) b list) fits i
      by starts.Newest fits i = keeps.put_start _ _ (keeps.new_start r list (fold (joined r.k) b list) fits i)
      by (starts.Given cursor) fits i = begun-in r (record { list = list; cursor = cursor }) (fold (joined r.k) b list) fits i

  second-in : (t : Bool) (s : StartingAt) (b : Board) → Apart s b → In (second_by t s.reader s.list s.edges (newest_cursor s.edges) b)
  second-in true s b i = keeps.put_start _ _ (keeps.fence_edges s b i)
  second-in false s b i = begun-in s.reader (record { list = s.list; cursor = newest_cursor s.edges }) b (keeps.newest_fits s b i) (keeps.drop_start s b i)

  went_on-in : (s : StartingAt) (b : Board) → Apart s b → In (went_on s b)
  went_on-in s b i = by (is_any_awaited s.edges)
    where
      all : (o : Option CursorAt) → s.cursor ≡ o → In (answered_all o s.reader s.list s.edges b)
      all None was = second-in (is_any_behind (newest_cursor s.edges).time s.edges) s b i
      all (Some cursor) was = begun-in s.reader (record { list = s.list; cursor = cursor }) b (keeps.cursor_fits cursor s b was i) (keeps.drop_start s b i)

      by : (t : Bool) → In (cond t (parked s b) (answered_all s.cursor s.reader s.list s.edges b))
      by true = keeps.put_start s b i
      by false = all s.cursor refl

  edge_heard-in : (number floor : ℕ) (last : Id) (s : StartingAt) (b : Board) → Last last → Apart s b → In (edge_heard number (Known last floor) s b)
  edge_heard-in number floor last s b told i = by (edge_awaiting number s.edges)
    where
      by : (o : Option ℕ) → In (edge_heard_at o (Known last floor) s b)
      by None = keeps.put_start s b i
      by (Some j) = went_on-in (with_edge j (Known last floor) s) b (keeps.hear_edge j floor last s b told i)

  edged-in : (number floor : ℕ) (last : Id) (b : Board) → Last last → In b → In (edge_answered number (Known last floor) b)
  edged-in number floor last b told i = by (find (start_awaits number) b.starts) refl
    where
      by : (o : Option StartingAt) → find (start_awaits number) b.starts ≡ o → In (edge_answered_by o number (Known last floor) (out_start (start_awaits number) b))
      by None was = missed-start (start_awaits number) b was i
      by (Some s) was = edge_heard-in number floor last s (out_start (start_awaits number) b) told (keeps.take_start (start_awaits number) s b was i)

  pub all-kept : IsKept Good Right Last Fits Ready In Beside Apart
  all-kept = record {
    arrive = arrived-in;
    answer = answered-in;
    edge_answer = edged-in;
    notice = λ c news b good i. noticed_keys-in c news (keys_with c b.shelf) b good i;
    removal = gone-in;
    depart = departed-in;
  }
