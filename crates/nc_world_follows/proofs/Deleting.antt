-- Whom the calls of spools end as deleted: where a channel is gone exactly those that are named and there, and nobody else.
use Rattle.std.proofs.Common.{◌≡◌, ℕ, zero, suc, ◌+◌, ◌≤◌, Bool, true, false, cond, ◌||◌, List, [], ◌∷◌, ◌++◌, refl, ap, ◌∙◌, Option, Some, None, find, length, arith, ◌==◌}
use Rattle.std.specs.Prelude.{fold}
use Rattle.std.specs.List.{AllByRecursion}
use Rattle.nc_types.specs.Id.{is_past}
use Rattle.nc_types.specs.Cursor.{CursorAt}
use Rattle.nc_types.specs.declared.start.Start.{Start}
use Rattle.nc_types.specs.declared.start.Start.TheVariants as starts
use Rattle.nc_journal.specs.Standing.{Stage, Starting, Standing}
use Rattle.nc_history.specs.Ending.{is_there}
use Rattle.nc_spool_state.specs.declared.place.Quiet.{Quiet}
use Rattle.nc_spool_state.specs.declared.place.Place.{Place}
use Rattle.nc_spool_state.specs.declared.place.Place.TheVariants.{Asked, Nothing, Found}
use Rattle.nc_spool_state.specs.declared.spool.Reader.{Reader}
use Rattle.nc_spool_state.specs.declared.choice.Choice.{Choice}
use Rattle.nc_spool_state.specs.declared.choice.Choice.TheVariants.{Wait, Fence, Send}
use Rattle.nc_spool_state.specs.declared.hear.News.{News}
use Rattle.nc_spool_state.specs.declared.hear.Heard.{Heard}
use Rattle.nc_spool_state.specs.declared.hear.Heard.TheVariants.{Stays, Forgets, Looks, Finds}
use Rattle.nc_spool_state.specs.declared.edge.Edge.{Edge}
use Rattle.nc_spool_state.specs.Key.{KeyAt, name_at, id_at, place_of}
use Rattle.nc_spool_state.specs.Place.{place_awaiting}
use Rattle.nc_spool_state.specs.Spool.{SpoolAt, is_of, is_reader, awaits, has_reader, place_at, with_place}
use Rattle.nc_spool_state.specs.Shelf.{spool_of, keys_with}
use Rattle.nc_spool_state.specs.Choice.{choice}
use Rattle.nc_spool_state.specs.Edge.{is_any_awaited, is_any_behind, newest_cursor, edge_awaiting}
use Rattle.nc_spool_state.specs.Hear.{learned, notice_says, gone_says}
use Rattle.nc_spool_state.specs.Starting.{StartingAt, with_edge, start_awaits, starts_with}
use Rattle.nc_spool.specs.declared.ask.Asking.{Asking}
use Rattle.nc_spool.specs.declared.fact.Fact.{Fact}
use Rattle.nc_spool.specs.declared.fact.Fact.TheVariants.{Out, Started, Sent, Ended}
use Rattle.nc_spool.specs.declared.board.Board.{Board}
use Rattle.nc_spool.specs.declared.decide.Delivery.{Delivery}
use Rattle.nc_spool.specs.Board.{told, entered, ended}
use Rattle.nc_spool.specs.Decide.{delivery, sending, sent_one, decided, decided_by}
use Rattle.nc_spool.specs.Hear.{heeded, noticed, noticed_at, noticed_by, noticed_in, noticed_place, emptied_at, emptied_by, emptied_in, emptied_place, answered, answered_by, answered_in, answered_at}
use Rattle.nc_spool.specs.Depart.{other_names, names_with, left, left_by, member_gone, member_gone_by, gone}
use Rattle.nc_spool.specs.Arrive.{oldest_cursor, joined, started_by, arrived}
use Rattle.nc_spool.specs.Newest.{begun, parked, second_by, answered_all, went_on, edge_heard, edge_heard_at, edge_answered, edge_answered_by}
use Rattle.nc_spool_laws.proofs.Closing.{out, out_start}
use Rattle.nc_spool_laws.specs.Numbers.{one, total}
use Rattle.nc_spool_laws.specs.Tally.{reader_at, readers_of, start_at, stands, end_at, ends, StandOnce}
use Rattle.nc_spool_laws.proofs.Totals.{total-push}
use Rattle.nc_spool_laws.proofs.Tallies.{tally-kept}
use Rattle.nc_spool_members.specs.Members.{is_named}
use Rattle.nc_spool_members.specs.Stages.{ReaderStands, SpoolStands, StartStarts, HasStage}
use Rattle.nc_spool_members.proofs.Quiet.{looked-read, parted-read, joined-read, fences-read, edges-read, behinds-read, entered-read}
use Rattle.nc_spool_members.proofs.Removing.{member_gone-fewer, named-leave}

-- ---- nobody is ended as deleted by the other calls

-- how often a fact tells that a subscriber is ended as deleted
abbrev pub deleted_at : ℕ → Fact → ℕ
deleted_at k (Out asking) = 0
deleted_at k (Started n cursor) = 0
deleted_at k (Sent s) = 0
deleted_at k (Ended n true) = one (n == k)
deleted_at k (Ended n false) = 0

abbrev pub deletions : ℕ → List Fact → ℕ
deletions k facts = total (deleted_at k) facts

module _ (k : ℕ) where
  tells-none : (f : Fact) (b : Board) → deleted_at k f ≡ 0 → deletions k (told f b).facts ≡ deletions k b.facts
  tells-none f b e = omega (arith, total-push (deleted_at k) b.facts f, e)

  asks-none : (fs : List Fact) (asking : Asking) → deletions k (fs ++ Out asking ∷ []) ≡ deletions k fs
  asks-none fs asking = omega (arith, total-push (deleted_at k) fs (Out asking))

  ended-none : (j : ℕ) (names : List (List ℕ)) (b : Board) → deletions k (ended j false names b).facts ≡ deletions k b.facts
  ended-none j names b = parted-read (deletions k) asks-none j names (told (Ended j false) b) ∙ tells-none (Ended j false) b refl

  entered-none : (key : KeyAt) (r : Reader) (b : Board) → deletions k (entered key r b).facts ≡ deletions k b.facts
  entered-none = entered-read (deletions k) asks-none

  sent_one-none : (d : Delivery) (r : Reader) (b : Board) → deletions k (sent_one d b r).facts ≡ deletions k b.facts
  sent_one-none d r b = by r.once
    where
      by : (t : Bool) → deletions k (cond t (ended r.k false d.key.list (told (Sent (sending d r)) b)) (entered d.key r (told (Sent (sending d r)) b))).facts ≡ deletions k b.facts
      by true = ended-none r.k d.key.list (told (Sent (sending d r)) b) ∙ tells-none (Sent (sending d r)) b refl
      by false = entered-none d.key r (told (Sent (sending d r)) b) ∙ tells-none (Sent (sending d r)) b refl

  sent-none : (d : Delivery) (readers : List Reader) (b : Board) → deletions k (fold (sent_one d) b readers).facts ≡ deletions k b.facts
  sent-none d [] b = refl
  sent-none d (r ∷ readers) b = sent-none d readers (sent_one d b r) ∙ sent_one-none d r b

  decided-none : (s : SpoolAt) (b : Board) → deletions k (decided s b).facts ≡ deletions k b.facts
  decided-none s b = by (choice s.places)
    where
      by : (o : Choice) → deletions k (decided_by o s b).facts ≡ deletions k b.facts
      by Wait = refl
      by (Fence time) = fences-read (deletions k) asks-none time s.key 0 s.places b
      by (Send f) = sent-none (delivery f s) s.readers b

  heeded-none : (h : Heard) (j : ℕ) (s : SpoolAt) (b : Board) → deletions k (heeded h j s b).facts ≡ deletions k b.facts
  heeded-none Stays j s b = refl
  heeded-none (Forgets p) j s b = refl
  heeded-none Looks j s b = looked-read (deletions k) asks-none (name_at s.key j) (id_at s.key j) 0 b
  heeded-none (Finds p) j s b = decided-none (with_place j p s) b

  noticed_in-none : (c : List ℕ) (news : News) (s : SpoolAt) (b : Board) → deletions k (noticed_in c news s b).facts ≡ deletions k b.facts
  noticed_in-none c news s b = by (place_of c s.key.list)
    where
      by : (o : Option ℕ) → deletions k (noticed_place o news s b).facts ≡ deletions k b.facts
      by None = refl
      by (Some j) = heeded-none (notice_says news (is_past news.id (id_at s.key j)) (place_at s j)) j s b

  noticed_at-none : (c : List ℕ) (news : News) (b : Board) (key : KeyAt) → deletions k (noticed_at c news b key).facts ≡ deletions k b.facts
  noticed_at-none c news b key = by (spool_of key b.shelf)
    where
      by : (o : Option SpoolAt) → deletions k (noticed_by o c news (out (is_of key) b)).facts ≡ deletions k b.facts
      by None = refl
      by (Some s) = noticed_in-none c news s (out (is_of key) b)

  noticed_keys-none : (c : List ℕ) (news : News) (keys : List KeyAt) (b : Board) → deletions k (fold (noticed_at c news) b keys).facts ≡ deletions k b.facts
  noticed_keys-none c news [] b = refl
  noticed_keys-none c news (key ∷ keys) b = noticed_keys-none c news keys (noticed_at c news b key) ∙ noticed_at-none c news b key

  pub noticed-none : (c : List ℕ) (news : News) (b : Board) → deletions k (noticed c news b).facts ≡ deletions k b.facts
  noticed-none c news b = noticed_keys-none c news (keys_with c b.shelf) b

  answered_in-none : (number : ℕ) (still : Quiet) (news : Option News) (s : SpoolAt) (b : Board) → deletions k (answered_in number still news s b).facts ≡ deletions k b.facts
  answered_in-none number still news s b = by (place_awaiting number s.places)
    where
      by : (o : Option ℕ) → deletions k (answered_at o still news s b).facts ≡ deletions k b.facts
      by None = refl
      by (Some j) = decided-none (with_place j (learned (id_at s.key j) still news) s) b

  pub answered-none : (number : ℕ) (still : Quiet) (news : Option News) (b : Board) → deletions k (answered number still news b).facts ≡ deletions k b.facts
  answered-none number still news b = by (find (awaits number) b.shelf)
    where
      by : (o : Option SpoolAt) → deletions k (answered_by o number still news (out (awaits number) b)).facts ≡ deletions k b.facts
      by None = refl
      by (Some s) = answered_in-none number still news s (out (awaits number) b)

  begun-none : (r : Reader) (key : KeyAt) (b : Board) → deletions k (begun r key b).facts ≡ deletions k b.facts
  begun-none r key b = entered-none key r (told (Started r.k key.cursor) b) ∙ tells-none (Started r.k key.cursor) b refl

  started-none : (start : Start) (r : Reader) (list : List (List ℕ)) (b : Board) → deletions k (started_by start r list b).facts ≡ deletions k b.facts
  started-none starts.Oldest r list b = begun-none r (record { list = list; cursor = oldest_cursor (length list) }) b
  started-none starts.Newest r list b = edges-read (deletions k) asks-none r.k list b
  started-none (starts.Given cursor) r list b = begun-none r (record { list = list; cursor = cursor }) b

  pub arrived-none : (r : Reader) (list : List (List ℕ)) (start : Start) (b : Board) → deletions k (arrived r list start b).facts ≡ deletions k b.facts
  arrived-none r list start b = started-none start r list (fold (joined r.k) b list) ∙ joined-read (deletions k) asks-none r.k list b

  second-none : (t : Bool) (cursor : CursorAt) (s : StartingAt) (b : Board) → deletions k (second_by t s.reader s.list s.edges cursor b).facts ≡ deletions k b.facts
  second-none true cursor s b = behinds-read (deletions k) asks-none cursor.time s.reader.k s.list 0 s.edges b
  second-none false cursor s b = begun-none s.reader (record { list = s.list; cursor = cursor }) b

  went_on-none : (s : StartingAt) (b : Board) → deletions k (went_on s b).facts ≡ deletions k b.facts
  went_on-none s b = by (is_any_awaited s.edges)
    where
      all : (o : Option CursorAt) → deletions k (answered_all o s.reader s.list s.edges b).facts ≡ deletions k b.facts
      all None = second-none (is_any_behind (newest_cursor s.edges).time s.edges) (newest_cursor s.edges) s b
      all (Some cursor) = begun-none s.reader (record { list = s.list; cursor = cursor }) b

      by : (t : Bool) → deletions k (cond t (parked s b) (answered_all s.cursor s.reader s.list s.edges b)).facts ≡ deletions k b.facts
      by true = refl
      by false = all s.cursor

  edge_heard-none : (number : ℕ) (now : Edge) (s : StartingAt) (b : Board) → deletions k (edge_heard number now s b).facts ≡ deletions k b.facts
  edge_heard-none number now s b = by (edge_awaiting number s.edges)
    where
      by : (o : Option ℕ) → deletions k (edge_heard_at o now s b).facts ≡ deletions k b.facts
      by None = refl
      by (Some j) = went_on-none (with_edge j now s) b

  pub edged-none : (number : ℕ) (now : Edge) (b : Board) → deletions k (edge_answered number now b).facts ≡ deletions k b.facts
  edged-none number now b = by (find (start_awaits number) b.starts)
    where
      by : (o : Option StartingAt) → deletions k (edge_answered_by o number now (out_start (start_awaits number) b)).facts ≡ deletions k b.facts
      by None = refl
      by (Some s) = edge_heard-none number now s (out_start (start_awaits number) b)

-- ---- a channel is gone

module _ (k : ℕ) where
  asks-no_end : (fs : List Fact) (asking : Asking) → ends k (fs ++ Out asking ∷ []) ≡ ends k fs
  asks-no_end fs asking = omega (arith, total-push (end_at k) fs (Out asking))

  emptied_in-ends : (c : List ℕ) (s : SpoolAt) (b : Board) → ends k (emptied_in c s b).facts ≡ ends k b.facts
  emptied_in-ends c s b = by (place_of c s.key.list)
    where
      hears : (j : ℕ) (p : Place) → ends k (heeded (gone_says p) j s b).facts ≡ ends k b.facts
      hears j (Nothing still) = looked-read (ends k) asks-no_end (name_at s.key j) (id_at s.key j) 0 b
      hears j (Asked number (Some still)) = refl
      hears j (Asked number None) = refl
      hears j (Found q id owner h) = refl

      by : (o : Option ℕ) → ends k (emptied_place o s b).facts ≡ ends k b.facts
      by None = refl
      by (Some j) = hears j (place_at s j)

  emptied_at-ends : (c : List ℕ) (b : Board) (key : KeyAt) → ends k (emptied_at c b key).facts ≡ ends k b.facts
  emptied_at-ends c b key = by (spool_of key b.shelf)
    where
      by : (o : Option SpoolAt) → ends k (emptied_by o c (out (is_of key) b)).facts ≡ ends k b.facts
      by None = refl
      by (Some s) = emptied_in-ends c s (out (is_of key) b)

  emptied_keys-ends : (c : List ℕ) (keys : List KeyAt) (b : Board) → ends k (fold (emptied_at c) b keys).facts ≡ ends k b.facts
  emptied_keys-ends c [] b = refl
  emptied_keys-ends c (key ∷ keys) b = emptied_keys-ends c keys (emptied_at c b key) ∙ emptied_at-ends c b key

  left-ends : (j : ℕ) (b : Board) → ends k (left j b).facts ≡ ends k b.facts
  left-ends j b = by (find (has_reader j) b.shelf)
    where
      by : (o : Option SpoolAt) → ends k (left_by o j (out (has_reader j) b)).facts ≡ ends k b.facts
      by None = refl
      by (Some s) = refl

  other-ends : (c : List ℕ) (j : ℕ) (b : Board) → (j == k) ≡ false → ends k (member_gone c b j).facts ≡ ends k b.facts
  other-ends c j b other = by (names_with j b)
    where
      by : (o : Option (List (List ℕ))) → ends k (member_gone_by o c j (left j b)).facts ≡ ends k b.facts
      by None = left-ends j b
      by (Some names) =
          let first = told (Ended j true) (left j b) in
          omega (arith, parted-read (ends k) asks-no_end j (other_names c names) first, total-push (end_at k) (left j b).facts (Ended j true), ap one other, left-ends j b)

  unnamed-ends : (c members : List ℕ) (b : Board) → is_named k members ≡ false → ends k (fold (member_gone c) b members).facts ≡ ends k b.facts
  unnamed-ends c [] b e = refl
  unnamed-ends c (j ∷ members) b e = by (j == k) refl e (λ f. unnamed-ends c members (member_gone c b j) f)
    where
      by : (t : Bool) → (j == k) ≡ t → (t || is_named k members) ≡ false → (is_named k members ≡ false → ends k (fold (member_gone c) (member_gone c b j) members).facts ≡ ends k (member_gone c b j).facts) → ends k (fold (member_gone c) (member_gone c b j) members).facts ≡ ends k b.facts
      by true was e rest = absurd cc
      by false was e rest = rest e ∙ other-ends c j b was

  -- who isn't named isn't ended
  pub unnamed-stay : (c members : List ℕ) (b : Board) → is_named k members ≡ false → ends k (gone c members b).facts ≡ ends k b.facts
  unnamed-stay c members b e = let all = fold (member_gone c) b members in emptied_keys-ends c (keys_with c all.shelf) all ∙ unnamed-ends c members b e

members-once : (c members : List ℕ) (b : Board) → StandOnce b → StandOnce (fold (member_gone c) b members)
members-once c [] b few = few
members-once c (j ∷ members) b few = members-once c members (member_gone c b j) (λ k. omega (arith, member_gone-fewer k c j b, few k))

-- who is named is ended as often as it stands
pub named-ends : (k : ℕ) (c members : List ℕ) (b : Board) → StandOnce b → is_named k members ≡ true → ends k (gone c members b).facts ≡ stands k b + ends k b.facts
named-ends k c members b few e =
    let all = fold (member_gone c) b members in
    let none = named-leave k c members b (few k) e in
    omega (arith, tally-kept.removal k c members b few, tally-kept.removal k c [] all (members-once c members b few), emptied_keys-ends k c (keys_with c all.shelf) all, none)

-- ---- who stands or starts is there

module _ (k : ℕ) (stage : Stage) where
  readers-there : (key : KeyAt) (readers : List Reader) → AllByRecursion (ReaderStands k stage key) readers → 1 ≤ total (reader_at k) readers → is_there stage ≡ true
  readers-there key [] each e = absurd (omega (arith, e))
  readers-there key (r ∷ readers) each e = by (is_reader k r) each.0 e (λ f. readers-there key readers each.1 f)
    where
      by : (t : Bool) → (t ≡ true → stage ≡ Standing key.list r.once key.cursor) → 1 ≤ one t + total (reader_at k) readers → (1 ≤ total (reader_at k) readers → is_there stage ≡ true) → is_there stage ≡ true
      by true here e rest = ap is_there (here refl)
      by false here e rest = rest (omega (arith, e))

  shelf-there : (shelf : List SpoolAt) → AllByRecursion (SpoolStands k stage) shelf → 1 ≤ total (readers_of k) shelf → is_there stage ≡ true
  shelf-there [] each e = absurd (omega (arith, e))
  shelf-there (s ∷ shelf) each e = by (readers_of k s) refl (λ more. shelf-there shelf each.1 more)
    where
      by : (n : ℕ) → readers_of k s ≡ n → (1 ≤ total (readers_of k) shelf → is_there stage ≡ true) → is_there stage ≡ true
      by zero f rest = rest (omega (arith, e, f))
      by (suc n) f rest = readers-there s.key s.readers each.0 (omega (arith, f))

  starts-there : (sts : List StartingAt) → AllByRecursion (StartStarts k stage) sts → 1 ≤ total (start_at k) sts → is_there stage ≡ true
  starts-there [] each e = absurd (omega (arith, e))
  starts-there (s ∷ sts) each e = by (starts_with k s) each.0 e (λ f. starts-there sts each.1 f)
    where
      by : (t : Bool) → (t ≡ true → stage ≡ Starting s.list s.reader.once starts.Newest) → 1 ≤ one t + total (start_at k) sts → (1 ≤ total (start_at k) sts → is_there stage ≡ true) → is_there stage ≡ true
      by true here e rest = ap is_there (here refl)
      by false here e rest = rest (omega (arith, e))

module _ (k : ℕ) (out stage : Stage) (b : Board) (has : HasStage k out stage b) where
  pub stands-there : 1 ≤ stands k b → is_there stage ≡ true
  stands-there e = by (total (readers_of k) b.shelf) refl
    where
      by : (n : ℕ) → total (readers_of k) b.shelf ≡ n → is_there stage ≡ true
      by zero f = starts-there k stage b.starts has.starting (omega (arith, e, f))
      by (suc n) f = shelf-there k stage b.shelf has.standing (omega (arith, f))

  pub away-there : is_there out ≡ false → stands k b ≡ 0 → is_there stage ≡ false
  away-there e none = ap is_there (has.away none) ∙ e
