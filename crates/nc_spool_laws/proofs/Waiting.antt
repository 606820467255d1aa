-- Each call leaves no found place without an asked one.
use Rattle.std.proofs.Common.{◌≡◌, ◌⊎◌, inl, inr, ℕ, zero, suc, ◌+◌, Bool, true, false, cond, ◌||◌, List, [], ◌∷◌, refl, sym, ap, subst, Option, Some, None, find, set, nat_lt, length, ◌==◌}
use Rattle.std.specs.Prelude.{fold}
use Rattle.nc_types.specs.Id.{is_past}
use Rattle.nc_types.specs.declared.start.Start.{Start}
use Rattle.nc_types.specs.declared.start.Start.TheVariants as starts
use Rattle.nc_spool.specs.declared.fact.Fact.TheVariants.{Started, Sent, Ended}
use Rattle.nc_spool_state.specs.declared.place.Quiet.{Quiet}
use Rattle.nc_spool_state.specs.declared.place.Place.{Place}
use Rattle.nc_spool_state.specs.declared.place.Place.TheVariants.{Asked, Nothing, Found}
use Rattle.nc_spool_state.specs.declared.spool.Reader.{Reader}
use Rattle.nc_spool_state.specs.declared.choice.Find.{Find}
use Rattle.nc_spool_state.specs.declared.choice.Choice.{Choice}
use Rattle.nc_spool_state.specs.declared.choice.Choice.TheVariants.{Wait, Fence, Send}
use Rattle.nc_spool.specs.declared.decide.Delivery.{Delivery}
use Rattle.nc_spool_state.specs.declared.hear.News.{News}
use Rattle.nc_spool.specs.declared.board.Board.{Board}
use Rattle.nc_spool_state.specs.Key.{KeyAt, id_at, place_of}
use Rattle.nc_spool_state.specs.Place.{is_asked, place_awaiting}
use Rattle.nc_spool_state.specs.Spool.{SpoolAt, is_of, awaits, has_reader, with_reader, without_reader, place_at, with_place}
use Rattle.nc_spool_state.specs.Shelf.{spool_of, others, without_first, place_before, with_spool, keys_with}
use Rattle.nc_spool_state.specs.Choice.{is_any_asked, is_any_below, find_at, sooner, soonest, choice, choice_by}
use Rattle.nc_spool.specs.Board.{told, shelved, asked_from, fresh_places, fresh_spool, standing, opened, entered, ended}
use Rattle.nc_spool.specs.Decide.{fenced_places, fence_look, fence_looks, delivery, sent_one, decided, decided_by, sending}
use Rattle.nc_spool_state.specs.Hear.{found_by, learned, notice_says, gone_says}
use Rattle.nc_spool.specs.Hear.{looked_again, heeded, noticed, noticed_at, noticed_by, noticed_in, noticed_place, emptied, emptied_at, emptied_by, emptied_in, emptied_place, answered, answered_by, answered_in, answered_at}
use Rattle.nc_types.specs.Cursor.{CursorAt}
use Rattle.nc_spool_state.specs.declared.edge.Edge.{Edge}
use Rattle.nc_spool_state.specs.Edge.{is_any_awaited, is_any_behind, newest_cursor, edge_awaiting}
use Rattle.nc_spool_state.specs.Starting.{StartingAt, with_edge, start_awaits}
use Rattle.nc_spool.specs.Depart.{other_names, names_with, left, left_by, departed, departed_by, member_gone, member_gone_by, gone}
use Rattle.nc_spool.specs.Arrive.{oldest_cursor, joined, started_by, arrived}
use Rattle.nc_spool.specs.Newest.{begun, parked, second_by, answered_all, went_on, edge_heard, edge_heard_at, edge_answered, edge_answered_by}
use Rattle.nc_spool_laws.specs.Resting.{Restful, is_any_found, PlacesRest, Rests, AllRest, BoardRests}
use Rattle.nc_spool_laws.proofs.Lists.{all-insert, all-without, all-found}
use Rattle.nc_spool_laws.proofs.Same.{asked-shelf, parted-shelf, joined-shelf, fences-shelf, edges-shelf, behinds-shelf}

-- places of a new spool
fresh-unfound : (n : ℕ) (names : List (List ℕ)) → is_any_found (fresh_places n names) ≡ false
fresh-unfound n [] = refl
fresh-unfound n (c ∷ names) = fresh-unfound (n + 1) names

unfound-rests : (places : List Place) → is_any_found places ≡ false → PlacesRest places
unfound-rests places none some = absurd cc

asked-rests : (places : List Place) → is_any_asked places ≡ true → PlacesRest places
asked-rests places asked found = asked

-- where there is no soonest message, none was found
sooner-some : (f : Find) (o : Option Find) → sooner (Some f) o ≡ None → ⊥
sooner-some f None e = cc
sooner-some f (Some h) e = by (nat_lt h.id.time f.id.time) e
  where
    by : (b : Bool) → cond b (Some h) (Some f) ≡ None → ⊥
    by true e = cc
    by false e = cc

soonest-some : (f : Find) (j : ℕ) (places : List Place) → soonest (Some f) j places ≡ None → ⊥
soonest-some f j [] e = cc
soonest-some f j (p ∷ places) e = by (sooner (Some f) (find_at j p)) refl e (λ h x. soonest-some h (j + 1) places x)
  where
    by : (o : Option Find) → sooner (Some f) (find_at j p) ≡ o → soonest o (j + 1) places ≡ None → ((h : Find) → soonest (Some h) (j + 1) places ≡ None → ⊥) → ⊥
    by None was e rest = sooner-some f (find_at j p) was
    by (Some h) was e rest = rest h e

soonest-none : (j : ℕ) (places : List Place) → soonest None j places ≡ None → is_any_found places ≡ false
soonest-none j [] e = refl
soonest-none j (Asked n earlier ∷ places) e = soonest-none (j + 1) places e
soonest-none j (Nothing quiet ∷ places) e = soonest-none (j + 1) places e
soonest-none j (Found q id owner g ∷ places) e = absurd (soonest-some (record { place = j; id = id; owner = owner; g = g }) (j + 1) places e)

-- a spool that waits rests
wait-rests : (places : List Place) → choice places ≡ Wait → PlacesRest places
wait-rests places e = by (is_any_asked places) refl (soonest None 0 places) refl e
  where
    sends : (b : Bool) (f : Find) → cond b (Fence f.id.time) (Send f) ≡ Wait → ⊥
    sends true f e = cc
    sends false f e = cc

    by : (a : Bool) → is_any_asked places ≡ a → (o : Option Find) → soonest None 0 places ≡ o → choice_by a o places ≡ Wait → PlacesRest places
    by true asked o was e = asked-rests places asked
    by false asked None was e = unfound-rests places (soonest-none 0 places was)
    by false asked (Some f) was e = absurd (sends (is_any_below f.id.time places) f e)

-- so does one that looks behind a fence
fenced-asked : (time : ℕ) (key : KeyAt) (j : ℕ) (places : List Place) (b : Board) → is_any_below time places ≡ true → is_any_asked (fenced_places time key j places b) ≡ true
fenced-asked time key j [] b e = absurd cc
fenced-asked time key j (Asked n earlier ∷ places) b e = refl
fenced-asked time key j (Found q id owner g ∷ places) b e = fenced-asked time key (j + 1) places b e
fenced-asked time key j (Nothing quiet ∷ places) b e = by (nat_lt quiet.floor time) e (λ f. fenced-asked time key (j + 1) places (fence_look time key j (Nothing quiet) b) f)
  where
    by : (t : Bool) → (t || is_any_below time places) ≡ true → (is_any_below time places ≡ true → is_any_asked (fenced_places time key (j + 1) places (fence_look time key j (Nothing quiet) b)) ≡ true) → (is_asked (cond t (Asked b.next (Some quiet)) (Nothing quiet)) || is_any_asked (fenced_places time key (j + 1) places (fence_look time key j (Nothing quiet) b))) ≡ true
    by true e rest = refl
    by false e rest = rest e

fence-below : (places : List Place) (time : ℕ) → choice places ≡ Fence time → is_any_below time places ≡ true
fence-below places time e = by (is_any_asked places) (soonest None 0 places) e
  where
    fences : (f : Find) (b : Bool) → is_any_below f.id.time places ≡ b → cond b (Fence f.id.time) (Send f) ≡ Fence time → is_any_below time places ≡ true
    fences f true was e = let same : f.id.time ≡ time = cc in subst (λ t. is_any_below t places ≡ true) same was
    fences f false was e = absurd cc

    by : (a : Bool) (o : Option Find) → choice_by a o places ≡ Fence time → is_any_below time places ≡ true
    by true o e = absurd cc
    by false None e = absurd cc
    by false (Some f) e = fences f (is_any_below f.id.time places) refl e

-- a place that is asked leaves the others so
set-asked : (places : List Place) (j n : ℕ) (earlier : Option Quiet) → (is_any_asked (set places j (Asked n earlier)) ≡ true) ⊎ (set places j (Asked n earlier) ≡ places)
set-asked [] j n earlier = inr refl
set-asked (p ∷ places) zero n earlier = inl refl
set-asked (p ∷ places) (suc j) n earlier = by (set-asked places j n earlier)
  where
    late : (a b : Bool) → b ≡ true → (a || b) ≡ true
    late true b e = refl
    late false b e = e

    by : (is_any_asked (set places j (Asked n earlier)) ≡ true) ⊎ (set places j (Asked n earlier) ≡ places) → (is_any_asked (p ∷ set places j (Asked n earlier)) ≡ true) ⊎ (p ∷ set places j (Asked n earlier) ≡ p ∷ places)
    by (inl e) = inl (late (is_asked p) (is_any_asked (set places j (Asked n earlier))) e)
    by (inr e) = inr (ap (λ l. p ∷ l) e)

set-rests : (places : List Place) (j n : ℕ) (earlier : Option Quiet) → PlacesRest places → PlacesRest (set places j (Asked n earlier))
set-rests places j n earlier rests = by (set-asked places j n earlier)
  where
    by : (is_any_asked (set places j (Asked n earlier)) ≡ true) ⊎ (set places j (Asked n earlier) ≡ places) → PlacesRest (set places j (Asked n earlier))
    by (inl e) = asked-rests (set places j (Asked n earlier)) e
    by (inr e) = subst PlacesRest (sym e) rests

abbrev out : (SpoolAt → Bool) → Board → Board
out test b = record b { shelf = without_first test b.shelf }

out-rests : (test : SpoolAt → Bool) (b : Board) → BoardRests b → BoardRests (out test b)
out-rests test b a = all-without Rests test b.shelf a

shelved-rests : (s : SpoolAt) (b : Board) → Rests s → BoardRests b → BoardRests (shelved s b)
shelved-rests s b p a = all-insert Rests b.shelf (place_before s.key b.shelf) s p a

entered-rests : (key : KeyAt) (r : Reader) (b : Board) → BoardRests b → BoardRests (entered key r b)
entered-rests key r b a = by (spool_of key b.shelf) refl
  where
    rest : AllRest (others key b.shelf)
    rest = all-without Rests (is_of key) b.shelf a

    by : (o : Option SpoolAt) → spool_of key b.shelf ≡ o → BoardRests (shelved (with_reader r (standing o key b)) (opened o key (record b { shelf = others key b.shelf })))
    by None was = shelved-rests (with_reader r (fresh_spool b.next key)) (asked_from key 0 key.list (out (is_of key) b)) (unfound-rests (fresh_places b.next key.list) (fresh-unfound b.next key.list)) (subst AllRest (sym (asked-shelf key 0 key.list (out (is_of key) b))) rest)
    by (Some s) was = shelved-rests (with_reader r s) (out (is_of key) b) (all-found Rests (is_of key) b.shelf s was a) rest

ended-rests : (k : ℕ) (deleted : Bool) (names : List (List ℕ)) (b : Board) → BoardRests b → BoardRests (ended k deleted names b)
ended-rests k deleted names b a = subst AllRest (sym (parted-shelf k names (told (Ended k deleted) b))) a

sent_one-rests : (d : Delivery) (r : Reader) (b : Board) → BoardRests b → BoardRests (sent_one d b r)
sent_one-rests d r b a = by r.once
  where
    by : (t : Bool) → BoardRests (cond t (ended r.k false d.key.list (told (Sent (sending d r)) b)) (entered d.key r (told (Sent (sending d r)) b)))
    by true = ended-rests r.k false d.key.list (told (Sent (sending d r)) b) a
    by false = entered-rests d.key r (told (Sent (sending d r)) b) a

sent-rests : (d : Delivery) (readers : List Reader) (b : Board) → BoardRests b → BoardRests (fold (sent_one d) b readers)
sent-rests d [] b a = a
sent-rests d (r ∷ readers) b a = sent-rests d readers (sent_one d b r) (sent_one-rests d r b a)

pub decided-rests : (s : SpoolAt) (b : Board) → BoardRests b → BoardRests (decided s b)
decided-rests s b a = by (choice s.places) refl
  where
    by : (o : Choice) → choice s.places ≡ o → BoardRests (decided_by o s b)
    by Wait was = shelved-rests s b (wait-rests s.places was) a
    by (Fence time) was = shelved-rests (record s { places = fenced_places time s.key 0 s.places b }) (fence_looks time s.key 0 s.places b) (asked-rests (fenced_places time s.key 0 s.places b) (fenced-asked time s.key 0 s.places b (fence-below s.places time was))) (subst AllRest (sym (fences-shelf time s.key 0 s.places b)) a)
    by (Send f) was = sent-rests (delivery f s) s.readers b a

-- what a place hears
noticed-heed : (news : News) (past : Bool) (p : Place) (j : ℕ) (s : SpoolAt) (b : Board) → Rests s → BoardRests b → BoardRests (heeded (notice_says news past p) j s b)
noticed-heed news true (Nothing quiet) j s b rests a = decided-rests (with_place j (found_by quiet.q news) s) b a
noticed-heed news false (Nothing quiet) j s b rests a = shelved-rests (with_place j (Asked b.next None) s) (looked_again s.key j b) (set-rests s.places j b.next None rests) a
noticed-heed news true (Asked n (Some quiet)) j s b rests a = decided-rests (with_place j (found_by quiet.q news) s) b a
noticed-heed news false (Asked n (Some quiet)) j s b rests a = shelved-rests (with_place j (Asked n None) s) b (set-rests s.places j n None rests) a
noticed-heed news past (Asked n None) j s b rests a = shelved-rests s b rests a
noticed-heed news past (Found q id owner g) j s b rests a = shelved-rests s b rests a

gone-heed : (p : Place) (j : ℕ) (s : SpoolAt) (b : Board) → Rests s → BoardRests b → BoardRests (heeded (gone_says p) j s b)
gone-heed (Nothing quiet) j s b rests a = shelved-rests (with_place j (Asked b.next None) s) (looked_again s.key j b) (set-rests s.places j b.next None rests) a
gone-heed (Asked n (Some quiet)) j s b rests a = shelved-rests (with_place j (Asked n None) s) b (set-rests s.places j n None rests) a
gone-heed (Asked n None) j s b rests a = shelved-rests s b rests a
gone-heed (Found q id owner g) j s b rests a = shelved-rests s b rests a

noticed_in-rests : (c : List ℕ) (news : News) (s : SpoolAt) (b : Board) → Rests s → BoardRests b → BoardRests (noticed_in c news s b)
noticed_in-rests c news s b rests a = by (place_of c s.key.list)
  where
    by : (o : Option ℕ) → BoardRests (noticed_place o news s b)
    by None = shelved-rests s b rests a
    by (Some j) = noticed-heed news (is_past news.id (id_at s.key j)) (place_at s j) j s b rests a

noticed_at-rests : (c : List ℕ) (news : News) (b : Board) (key : KeyAt) → BoardRests b → BoardRests (noticed_at c news b key)
noticed_at-rests c news b key a = by (spool_of key b.shelf) refl
  where
    by : (o : Option SpoolAt) → spool_of key b.shelf ≡ o → BoardRests (noticed_by o c news (record b { shelf = others key b.shelf }))
    by None was = all-without Rests (is_of key) b.shelf a
    by (Some s) was = noticed_in-rests c news s (out (is_of key) b) (all-found Rests (is_of key) b.shelf s was a) (all-without Rests (is_of key) b.shelf a)

noticed_keys-rests : (c : List ℕ) (news : News) (keys : List KeyAt) (b : Board) → BoardRests b → BoardRests (fold (noticed_at c news) b keys)
noticed_keys-rests c news [] b a = a
noticed_keys-rests c news (key ∷ keys) b a = noticed_keys-rests c news keys (noticed_at c news b key) (noticed_at-rests c news b key a)

pub noticed-rests : (c : List ℕ) (news : News) (b : Board) → BoardRests b → BoardRests (noticed c news b)
noticed-rests c news b a = noticed_keys-rests c news (keys_with c b.shelf) b a

emptied_in-rests : (c : List ℕ) (s : SpoolAt) (b : Board) → Rests s → BoardRests b → BoardRests (emptied_in c s b)
emptied_in-rests c s b rests a = by (place_of c s.key.list)
  where
    by : (o : Option ℕ) → BoardRests (emptied_place o s b)
    by None = shelved-rests s b rests a
    by (Some j) = gone-heed (place_at s j) j s b rests a

emptied_at-rests : (c : List ℕ) (b : Board) (key : KeyAt) → BoardRests b → BoardRests (emptied_at c b key)
emptied_at-rests c b key a = by (spool_of key b.shelf) refl
  where
    by : (o : Option SpoolAt) → spool_of key b.shelf ≡ o → BoardRests (emptied_by o c (record b { shelf = others key b.shelf }))
    by None was = all-without Rests (is_of key) b.shelf a
    by (Some s) was = emptied_in-rests c s (out (is_of key) b) (all-found Rests (is_of key) b.shelf s was a) (all-without Rests (is_of key) b.shelf a)

emptied_keys-rests : (c : List ℕ) (keys : List KeyAt) (b : Board) → BoardRests b → BoardRests (fold (emptied_at c) b keys)
emptied_keys-rests c [] b a = a
emptied_keys-rests c (key ∷ keys) b a = emptied_keys-rests c keys (emptied_at c b key) (emptied_at-rests c b key a)

emptied-rests : (c : List ℕ) (b : Board) → BoardRests b → BoardRests (emptied c b)
emptied-rests c b a = emptied_keys-rests c (keys_with c b.shelf) b a

-- the answer to a look
answered_in-rests : (number : ℕ) (quiet : Quiet) (news : Option News) (s : SpoolAt) (b : Board) → Rests s → BoardRests b → BoardRests (answered_in number quiet news s b)
answered_in-rests number quiet news s b rests a = by (place_awaiting number s.places)
  where
    by : (o : Option ℕ) → BoardRests (answered_at o quiet news s b)
    by None = shelved-rests s b rests a
    by (Some j) = decided-rests (with_place j (learned (id_at s.key j) quiet news) s) b a

pub answered-rests : (number : ℕ) (quiet : Quiet) (news : Option News) (b : Board) → BoardRests b → BoardRests (answered number quiet news b)
answered-rests number quiet news b a = by (find (awaits number) b.shelf) refl
  where
    by : (o : Option SpoolAt) → find (awaits number) b.shelf ≡ o → BoardRests (answered_by o number quiet news (record b { shelf = without_first (awaits number) b.shelf }))
    by None was = all-without Rests (awaits number) b.shelf a
    by (Some s) was = answered_in-rests number quiet news s (out (awaits number) b) (all-found Rests (awaits number) b.shelf s was a) (all-without Rests (awaits number) b.shelf a)

-- subscribers that go
left-rests : (k : ℕ) (b : Board) → BoardRests b → BoardRests (left k b)
left-rests k b a = by (find (has_reader k) b.shelf) refl
  where
    back : (t : Bool) (s : SpoolAt) → Rests s → AllRest (cond t (without_first (has_reader k) b.shelf) (with_spool s (without_first (has_reader k) b.shelf)))
    back true s rests = all-without Rests (has_reader k) b.shelf a
    back false s rests = all-insert Rests (without_first (has_reader k) b.shelf) (place_before s.key (without_first (has_reader k) b.shelf)) s rests (all-without Rests (has_reader k) b.shelf a)

    by : (o : Option SpoolAt) → find (has_reader k) b.shelf ≡ o → BoardRests (left_by o k (record b { shelf = without_first (has_reader k) b.shelf }))
    by None was = all-without Rests (has_reader k) b.shelf a
    by (Some s) was = back (length (without_reader k s).readers == 0) (without_reader k s) (all-found Rests (has_reader k) b.shelf s was a)

pub departed-rests : (k : ℕ) (b : Board) → BoardRests b → BoardRests (departed k b)
departed-rests k b a = by (names_with k b)
  where
    by : (o : Option (List (List ℕ))) → BoardRests (departed_by o k (left k b))
    by None = left-rests k b a
    by (Some names) = ended-rests k false names (left k b) (left-rests k b a)

member_gone-rests : (c : List ℕ) (k : ℕ) (b : Board) → BoardRests b → BoardRests (member_gone c b k)
member_gone-rests c k b a = by (names_with k b)
  where
    by : (o : Option (List (List ℕ))) → BoardRests (member_gone_by o c k (left k b))
    by None = left-rests k b a
    by (Some names) = ended-rests k true (other_names c names) (left k b) (left-rests k b a)

members_gone-rests : (c members : List ℕ) (b : Board) → BoardRests b → BoardRests (fold (member_gone c) b members)
members_gone-rests c [] b a = a
members_gone-rests c (k ∷ members) b a = members_gone-rests c members (member_gone c b k) (member_gone-rests c k b a)

pub gone-rests : (c members : List ℕ) (b : Board) → BoardRests b → BoardRests (gone c members b)
gone-rests c members b a = emptied-rests c (fold (member_gone c) b members) (members_gone-rests c members b a)

-- subscribers that come
begun-rests : (r : Reader) (key : KeyAt) (b : Board) → BoardRests b → BoardRests (begun r key b)
begun-rests r key b a = entered-rests key r (told (Started r.k key.cursor) b) a

pub arrived-rests : (r : Reader) (list : List (List ℕ)) (start : Start) (b : Board) → BoardRests b → BoardRests (arrived r list start b)
arrived-rests r list start b a = by start
  where
    joins : BoardRests (fold (joined r.k) b list)
    joins = subst AllRest (sym (joined-shelf r.k list b)) a

    by : (start : Start) → BoardRests (started_by start r list (fold (joined r.k) b list))
    by starts.Oldest = begun-rests r (record { list = list; cursor = oldest_cursor (length list) }) (fold (joined r.k) b list) joins
    by starts.Newest = subst AllRest (sym (edges-shelf r.k list (fold (joined r.k) b list))) joins
    by (starts.Given cursor) = begun-rests r (record { list = list; cursor = cursor }) (fold (joined r.k) b list) joins

-- starts that go on
second-rests : (t : Bool) (r : Reader) (list : List (List ℕ)) (edges : List Edge) (cursor : CursorAt) (b : Board) → BoardRests b → BoardRests (second_by t r list edges cursor b)
second-rests true r list edges cursor b a = subst AllRest (sym (behinds-shelf cursor.time r.k list 0 edges b)) a
second-rests false r list edges cursor b a = begun-rests r (record { list = list; cursor = cursor }) b a

went_on-rests : (s : StartingAt) (b : Board) → BoardRests b → BoardRests (went_on s b)
went_on-rests s b a = by (is_any_awaited s.edges)
  where
    all : (o : Option CursorAt) → BoardRests (answered_all o s.reader s.list s.edges b)
    all None = second-rests (is_any_behind (newest_cursor s.edges).time s.edges) s.reader s.list s.edges (newest_cursor s.edges) b a
    all (Some cursor) = begun-rests s.reader (record { list = s.list; cursor = cursor }) b a

    by : (t : Bool) → BoardRests (cond t (parked s b) (answered_all s.cursor s.reader s.list s.edges b))
    by true = a
    by false = all s.cursor

edge_heard-rests : (number : ℕ) (edge : Edge) (s : StartingAt) (b : Board) → BoardRests b → BoardRests (edge_heard number edge s b)
edge_heard-rests number edge s b a = by (edge_awaiting number s.edges)
  where
    by : (o : Option ℕ) → BoardRests (edge_heard_at o edge s b)
    by None = a
    by (Some j) = went_on-rests (with_edge j edge s) b a

pub edged-rests : (number : ℕ) (edge : Edge) (b : Board) → BoardRests b → BoardRests (edge_answered number edge b)
edged-rests number edge b a = by (find (start_awaits number) b.starts)
  where
    by : (o : Option StartingAt) → BoardRests (edge_answered_by o number edge (record b { starts = without_first (start_awaits number) b.starts }))
    by None = a
    by (Some s) = edge_heard-rests number edge s (record b { starts = without_first (start_awaits number) b.starts }) a

pub all-restful : Restful
all-restful = record { arrive = arrived-rests; answer = answered-rests; edge_answer = edged-rests; notice = noticed-rests; removal = gone-rests; depart = departed-rests }
