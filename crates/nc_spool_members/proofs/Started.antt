-- Each call leaves the starts, but for one that begins behind the newest message.
use Rattle.std.proofs.Common.{◌≡◌, ℕ, Bool, true, false, cond, List, [], ◌∷◌, Option, Some, None, find, length, refl, sym, ap, ◌∙◌, subst, inl, inr}
use Rattle.std.specs.Prelude.{fold}
use Rattle.std.specs.List.{AllByRecursion}
use Rattle.std.specs.Option.{option_map}
use Rattle.nc_types.specs.Id.{is_past}
use Rattle.nc_types.specs.declared.start.Start.{Start}
use Rattle.nc_types.specs.declared.start.Start.TheVariants as starts
use Rattle.nc_spool_state.specs.declared.place.Quiet.{Quiet}
use Rattle.nc_spool_state.specs.declared.spool.Reader.{Reader}
use Rattle.nc_spool_state.specs.declared.choice.Choice.{Choice}
use Rattle.nc_spool_state.specs.declared.choice.Choice.TheVariants.{Wait, Fence, Send}
use Rattle.nc_spool_state.specs.declared.hear.News.{News}
use Rattle.nc_spool_state.specs.declared.hear.Heard.{Heard}
use Rattle.nc_spool_state.specs.declared.hear.Heard.TheVariants.{Stays, Forgets, Looks, Finds}
use Rattle.nc_spool_state.specs.declared.edge.Edge.{Edge}
use Rattle.nc_spool_state.specs.declared.edge.Edge.TheVariants.{Known}
use Rattle.nc_spool_state.specs.Key.{KeyAt, id_at, place_of}
use Rattle.nc_spool_state.specs.Place.{place_awaiting}
use Rattle.nc_spool_state.specs.Spool.{SpoolAt, is_of, awaits, has_reader, with_reader, place_at, with_place}
use Rattle.nc_spool_state.specs.Shelf.{spool_of, without_first, keys_with}
use Rattle.nc_spool_state.specs.Choice.{choice}
use Rattle.nc_spool_state.specs.Hear.{learned, notice_says, gone_says}
use Rattle.nc_spool_state.specs.Starting.{StartingAt, start_awaits, starts_with}
use Rattle.nc_spool.specs.declared.fact.Fact.TheVariants as facts
use Rattle.nc_spool.specs.declared.board.Board.{Board}
use Rattle.nc_spool.specs.declared.decide.Delivery.{Delivery}
use Rattle.nc_spool.specs.Board.{told, shelved, standing, opened, entered, ended}
use Rattle.nc_spool.specs.Decide.{delivery, sending, sent_one, decided, decided_by}
use Rattle.nc_spool.specs.Hear.{heeded, noticed_at, noticed_by, noticed_in, noticed_place, answered, answered_by, answered_in, answered_at, emptied_at, emptied_by, emptied_in, emptied_place}
use Rattle.nc_spool.specs.Depart.{other_names, names_with, left, left_by, member_gone, member_gone_by, gone}
use Rattle.nc_spool.specs.Arrive.{oldest_cursor, joined, arrived}
use Rattle.nc_spool.specs.Newest.{begun, edge_answered, edge_answered_by}
use Rattle.nc_spool.specs.Calls.{board_of, news_of}
use Rattle.nc_spool_laws.proofs.Closing.{out, out_start}
use Rattle.nc_spool_laws.proofs.Same.{asked-starts, parted-starts, joined-starts, fences-starts}
use Rattle.nc_spool_members.specs.Starts.{IsKnownStart, IsAmong, KeepStarts}

entered-starts : (key : KeyAt) (r : Reader) (b : Board) → (entered key r b).starts ≡ b.starts
entered-starts key r b = by (spool_of key b.shelf)
  where
    by : (o : Option SpoolAt) → (shelved (with_reader r (standing o key b)) (opened o key (out (is_of key) b))).starts ≡ b.starts
    by None = asked-starts key 0 key.list (out (is_of key) b)
    by (Some s) = refl

sent_one-starts : (d : Delivery) (r : Reader) (b : Board) → (sent_one d b r).starts ≡ b.starts
sent_one-starts d r b = by r.once
  where
    by : (t : Bool) → (cond t (ended r.k false d.key.list (told (facts.Sent (sending d r)) b)) (entered d.key r (told (facts.Sent (sending d r)) b))).starts ≡ b.starts
    by true = parted-starts r.k d.key.list (told (facts.Ended r.k false) (told (facts.Sent (sending d r)) b))
    by false = entered-starts d.key r (told (facts.Sent (sending d r)) b)

sent-starts : (d : Delivery) (readers : List Reader) (b : Board) → (fold (sent_one d) b readers).starts ≡ b.starts
sent-starts d [] b = refl
sent-starts d (r ∷ readers) b = sent-starts d readers (sent_one d b r) ∙ sent_one-starts d r b

decided-starts : (s : SpoolAt) (b : Board) → (decided s b).starts ≡ b.starts
decided-starts s b = by (choice s.places)
  where
    by : (o : Choice) → (decided_by o s b).starts ≡ b.starts
    by Wait = refl
    by (Fence time) = fences-starts time s.key 0 s.places b
    by (Send find) = sent-starts (delivery find s) s.readers b

heeded-starts : (h : Heard) (j : ℕ) (s : SpoolAt) (b : Board) → (heeded h j s b).starts ≡ b.starts
heeded-starts Stays j s b = refl
heeded-starts (Forgets place) j s b = refl
heeded-starts Looks j s b = refl
heeded-starts (Finds place) j s b = decided-starts (with_place j place s) b

noticed_in-starts : (c : List ℕ) (news : News) (s : SpoolAt) (b : Board) → (noticed_in c news s b).starts ≡ b.starts
noticed_in-starts c news s b = by (place_of c s.key.list)
  where
    by : (o : Option ℕ) → (noticed_place o news s b).starts ≡ b.starts
    by None = refl
    by (Some j) = heeded-starts (notice_says news (is_past news.id (id_at s.key j)) (place_at s j)) j s b

noticed_at-starts : (c : List ℕ) (news : News) (b : Board) (key : KeyAt) → (noticed_at c news b key).starts ≡ b.starts
noticed_at-starts c news b key = by (spool_of key b.shelf)
  where
    by : (o : Option SpoolAt) → (noticed_by o c news (out (is_of key) b)).starts ≡ b.starts
    by None = refl
    by (Some s) = noticed_in-starts c news s (out (is_of key) b)

noticed_keys-starts : (c : List ℕ) (news : News) (keys : List KeyAt) (b : Board) → (fold (noticed_at c news) b keys).starts ≡ b.starts
noticed_keys-starts c news [] b = refl
noticed_keys-starts c news (key ∷ keys) b = noticed_keys-starts c news keys (noticed_at c news b key) ∙ noticed_at-starts c news b key

answered_in-starts : (number : ℕ) (quiet : Quiet) (news : Option News) (s : SpoolAt) (b : Board) → (answered_in number quiet news s b).starts ≡ b.starts
answered_in-starts number quiet news s b = by (place_awaiting number s.places)
  where
    by : (o : Option ℕ) → (answered_at o quiet news s b).starts ≡ b.starts
    by None = refl
    by (Some j) = decided-starts (with_place j (learned (id_at s.key j) quiet news) s) b

answered-starts : (number : ℕ) (quiet : Quiet) (news : Option News) (b : Board) → (answered number quiet news b).starts ≡ b.starts
answered-starts number quiet news b = by (find (awaits number) b.shelf)
  where
    by : (o : Option SpoolAt) → (answered_by o number quiet news (out (awaits number) b)).starts ≡ b.starts
    by None = refl
    by (Some s) = answered_in-starts number quiet news s (out (awaits number) b)

begun-starts : (r : Reader) (key : KeyAt) (b : Board) → (begun r key b).starts ≡ b.starts
begun-starts r key b = entered-starts key r (told (facts.Started r.k key.cursor) b)

arrived-starts : (r : Reader) (list : List (List ℕ)) (start : Start) (b : Board) → IsKnownStart start → (arrived r list start b).starts ≡ b.starts
arrived-starts r list starts.Oldest b known = begun-starts r (record { list = list; cursor = oldest_cursor (length list) }) (fold (joined r.k) b list) ∙ joined-starts r.k list b
arrived-starts r list (starts.Given cursor) b known = begun-starts r (record { list = list; cursor = cursor }) (fold (joined r.k) b list) ∙ joined-starts r.k list b
arrived-starts r list starts.Newest b known = absurd known

-- where all are started, no edge is awaited
edged-starts : (number : ℕ) (edge : Edge) (b : Board) → b.starts ≡ [] → (edge_answered number edge b).starts ≡ []
edged-starts number edge b none =
    ap (λ (o : Option StartingAt). (edge_answered_by o number edge (out_start (start_awaits number) b)).starts) (ap (λ (l : List StartingAt). find (start_awaits number) l) none) ∙ ap (λ (l : List StartingAt). without_first (start_awaits number) l) none

-- ---- a removal

-- all of some are among others
abbrev AreAmong : (xs ys : List StartingAt) → Type 0
AreAmong xs ys = AllByRecursion (λ x. IsAmong x ys) xs

more-among : (y : StartingAt) (xs ys : List StartingAt) → AreAmong xs ys → AreAmong xs (y ∷ ys)
more-among y [] ys a = tt
more-among y (x ∷ xs) ys a = (inr a.0, more-among y xs ys a.1)

same-among : (xs : List StartingAt) → AreAmong xs xs
same-among [] = tt
same-among (x ∷ xs) = (inl refl, more-among x xs xs (same-among xs))

one-among : (x : StartingAt) (xs ys : List StartingAt) → IsAmong x xs → AreAmong xs ys → IsAmong x ys
one-among x [] ys p a = absurd p
one-among x (z ∷ xs) ys (inl e) a = subst (λ (s : StartingAt). IsAmong s ys) (sym e) a.0
one-among x (z ∷ xs) ys (inr p) a = one-among x xs ys p a.1

all-among : (xs ys zs : List StartingAt) → AreAmong xs ys → AreAmong ys zs → AreAmong xs zs
all-among [] ys zs a b = tt
all-among (x ∷ xs) ys zs a b = (one-among x ys zs a.0 b, all-among xs ys zs a.1 b)

without-among : (test : StartingAt → Bool) (xs : List StartingAt) → AreAmong (without_first test xs) xs
without-among test [] = tt
without-among test (x ∷ xs) = by (test x) (without-among test xs)
  where
    by : (t : Bool) → AreAmong (without_first test xs) xs → AreAmong (cond t xs (x ∷ without_first test xs)) (x ∷ xs)
    by true rest = more-among x xs xs (same-among xs)
    by false rest = (inl refl, more-among x (without_first test xs) xs rest)

left-among : (k : ℕ) (b : Board) → AreAmong (left k b).starts b.starts
left-among k b = by (find (has_reader k) b.shelf)
  where
    by : (o : Option SpoolAt) → AreAmong (left_by o k (out (has_reader k) b)).starts b.starts
    by None = without-among (starts_with k) b.starts
    by (Some s) = same-among b.starts

ended-starts : (k : ℕ) (deleted : Bool) (names : List (List ℕ)) (b : Board) → (ended k deleted names b).starts ≡ b.starts
ended-starts k deleted names b = parted-starts k names (told (facts.Ended k deleted) b)

member-among : (c : List ℕ) (k : ℕ) (b : Board) → AreAmong (member_gone c b k).starts b.starts
member-among c k b = by (names_with k b)
  where
    by : (o : Option (List (List ℕ))) → AreAmong (member_gone_by o c k (left k b)).starts b.starts
    by None = left-among k b
    by (Some names) = subst (λ (l : List StartingAt). AreAmong l b.starts) (sym (ended-starts k true (other_names c names) (left k b))) (left-among k b)

members-among : (c members : List ℕ) (b : Board) → AreAmong (fold (member_gone c) b members).starts b.starts
members-among c [] b = same-among b.starts
members-among c (k ∷ members) b = all-among (fold (member_gone c) (member_gone c b k) members).starts (member_gone c b k).starts b.starts (members-among c members (member_gone c b k)) (member-among c k b)

emptied_in-starts : (c : List ℕ) (s : SpoolAt) (b : Board) → (emptied_in c s b).starts ≡ b.starts
emptied_in-starts c s b = by (place_of c s.key.list)
  where
    by : (o : Option ℕ) → (emptied_place o s b).starts ≡ b.starts
    by None = refl
    by (Some j) = heeded-starts (gone_says (place_at s j)) j s b

emptied_at-starts : (c : List ℕ) (b : Board) (key : KeyAt) → (emptied_at c b key).starts ≡ b.starts
emptied_at-starts c b key = by (spool_of key b.shelf)
  where
    by : (o : Option SpoolAt) → (emptied_by o c (out (is_of key) b)).starts ≡ b.starts
    by None = refl
    by (Some s) = emptied_in-starts c s (out (is_of key) b)

emptied_keys-starts : (c : List ℕ) (keys : List KeyAt) (b : Board) → (fold (emptied_at c) b keys).starts ≡ b.starts
emptied_keys-starts c [] b = refl
emptied_keys-starts c (key ∷ keys) b = emptied_keys-starts c keys (emptied_at c b key) ∙ emptied_at-starts c b key

gone-among : (c members : List ℕ) (b : Board) → AreAmong (gone c members b).starts b.starts
gone-among c members b =
    let all = fold (member_gone c) b members in
    subst (λ (l : List StartingAt). AreAmong l b.starts) (sym (emptied_keys-starts c (keys_with c all.shelf) all)) (members-among c members b)

pub keep-starts : (H : Type 0) → KeepStarts H
keep-starts H s = record {
  arrive = λ k list start once known. arrived-starts (record { k = k; once = once }) list start (board_of s) known;
  answer = λ number q floor found. answered-starts number (record { q = q; floor = floor }) (option_map news_of found) (board_of s);
  edge_answer = λ number floor last none. edged-starts number (Known last floor) (board_of s) none;
  notice = λ d found. noticed_keys-starts d (news_of found) (keys_with d s.shelf) (board_of s);
  removal = λ d members. gone-among d members (board_of s);
}
