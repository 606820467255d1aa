-- What starts nobody: the answer to a look, a notice, and that a channel is gone.
use Rattle.std.proofs.Common.{ℕ, Bool, true, List, [], ◌∷◌, Option, Some, None, sym, subst, find}
use Rattle.std.specs.Prelude.{fold}
use Rattle.std.specs.List.{AllByRecursion}
use Rattle.nc_types.specs.Id.{is_past}
use Rattle.nc_journal.specs.History.{Along}
use Rattle.nc_journal.specs.declared.event.Event.{Event}
use Rattle.nc_journal.specs.declared.word.EndedCause.{EndedCause}
use Rattle.nc_spool_state.specs.declared.choice.Choice.{Choice}
use Rattle.nc_spool_state.specs.declared.choice.Choice.TheVariants.{Wait, Fence, Send}
use Rattle.nc_spool_state.specs.declared.hear.Heard.{Heard}
use Rattle.nc_spool_state.specs.declared.hear.Heard.TheVariants.{Stays, Forgets, Looks, Finds}
use Rattle.nc_spool_state.specs.declared.hear.News.{News}
use Rattle.nc_spool_state.specs.declared.place.Quiet.{Quiet}
use Rattle.nc_spool_state.specs.declared.spool.Reader.{Reader}
use Rattle.nc_spool_state.specs.Choice.{choice}
use Rattle.nc_spool_state.specs.Hear.{learned, notice_says}
use Rattle.nc_spool_state.specs.Key.{KeyAt, id_at, place_of}
use Rattle.nc_spool_state.specs.Place.{place_awaiting}
use Rattle.nc_spool_state.specs.Shelf.{spool_of, others, without_first, keys_with}
use Rattle.nc_spool_state.specs.Spool.{SpoolAt, awaits, place_at, with_place}
use Rattle.nc_spool.specs.declared.board.Board.{Board}
use Rattle.nc_spool.specs.declared.decide.Delivery.{Delivery}
use Rattle.nc_spool.specs.declared.fact.Fact.{Fact}
use Rattle.nc_spool.specs.declared.fact.Fact.TheVariants as facts
use Rattle.nc_spool.specs.Board.{told as tells, ended}
use Rattle.nc_spool.specs.Decide.{delivery, sending, sent_one, decided, decided_by}
use Rattle.nc_spool.specs.Depart.{other_names, names_with, left, member_gone, member_gone_by, gone}
use Rattle.nc_spool.specs.Hear.{heeded, answered, answered_by, answered_at, noticed, noticed_at, noticed_by, noticed_place}
use Rattle.nc_starts.specs.Starts.{StartedThen}
use Rattle.nc_world_told.specs.Written.{fact_event, fact_next, written, next_written}
use Rattle.nc_world_told.proofs.Sends.{Appends, same_facts, one_fact, then_facts, IsOut, IsAfter, weaker, moved_after, parted_outs, fences_outs}
use Rattle.nc_world_told.proofs.Leaving.{left_facts, emptied_outs}
use Rattle.nc_world_told.proofs.Written.{written_append}

abbrev pub IsStartless : Fact → Type 0
IsStartless (facts.Out o) = Unit {0}
IsStartless (facts.Started n cursor) = ⊥
IsStartless (facts.Sent s) = Unit {0}
IsStartless (facts.Ended n deleted) = Unit {0}

pub out_startless : (f : Fact) → IsOut f → IsStartless f
out_startless (facts.Out o) p = tt
out_startless (facts.Started n cursor) p = absurd p
out_startless (facts.Sent s) p = absurd p
out_startless (facts.Ended n deleted) p = absurd p

after_startless : (k : ℕ) (f : Fact) → IsAfter k f → IsStartless f
after_startless k (facts.Out o) p = tt
after_startless k (facts.Started n cursor) p = absurd p
after_startless k (facts.Sent s) p = absurd p
after_startless k (facts.Ended n deleted) p = tt

pub outs_startless : (xs ys : List Fact) → Appends IsOut xs ys → Appends IsStartless xs ys
outs_startless xs ys a = record { facts = a.facts; are = a.are; all = weaker IsOut IsStartless out_startless a.facts a.all }

-- ---- facts that start nobody

sends_startless : (d : Delivery) (rs : List Reader) (b : Board) → Appends IsStartless b.facts (fold (sent_one d) b rs).facts
sends_startless d [] b = same_facts IsStartless b.facts
sends_startless d (r ∷ rs) b =
    let b1 = tells (facts.Sent (sending d r)) b in
    let after = moved_after d r b1 in
    then_facts IsStartless b.facts (sent_one d b r).facts _
    (then_facts IsStartless b.facts b1.facts (sent_one d b r).facts (one_fact IsStartless b.facts _ tt) (record { facts = after.facts; are = after.are; all = weaker (IsAfter r.k) IsStartless (after_startless r.k) after.facts after.all }))
    (sends_startless d rs (sent_one d b r))

decided_startless : (s : SpoolAt) (b : Board) → Appends IsStartless b.facts (decided s b).facts
decided_startless s b = by (choice s.places)
  where
    by : (o : Choice) → Appends IsStartless b.facts (decided_by o s b).facts
    by Wait = same_facts IsStartless b.facts
    by (Fence time) = outs_startless b.facts _ (fences_outs time s.key 0 s.places b)
    by (Send find) = sends_startless (delivery find s) s.readers b

pub answered_startless : (number : ℕ) (quiet : Quiet) (news : Option News) (b : Board) → Appends IsStartless b.facts (answered number quiet news b).facts
answered_startless number quiet news b = by (find (awaits number) b.shelf)
  where
    at : (s : SpoolAt) (o : Option ℕ) → Appends IsStartless b.facts (answered_at o quiet news s (record b { shelf = without_first (awaits number) b.shelf })).facts
    at s None = same_facts IsStartless b.facts
    at s (Some j) = decided_startless (with_place j (learned (id_at s.key j) quiet news) s) (record b { shelf = without_first (awaits number) b.shelf })

    by : (o : Option SpoolAt) → Appends IsStartless b.facts (answered_by o number quiet news (record b { shelf = without_first (awaits number) b.shelf })).facts
    by None = same_facts IsStartless b.facts
    by (Some s) = at s (place_awaiting number s.places)

heeded_startless : (w : Heard) (j : ℕ) (s : SpoolAt) (b : Board) → Appends IsStartless b.facts (heeded w j s b).facts
heeded_startless Stays j s b = same_facts IsStartless b.facts
heeded_startless (Forgets p) j s b = same_facts IsStartless b.facts
heeded_startless Looks j s b = one_fact IsStartless b.facts _ tt
heeded_startless (Finds p) j s b = decided_startless (with_place j p s) b

noticed_one : (c : List ℕ) (news : News) (b : Board) (key : KeyAt) → Appends IsStartless b.facts (noticed_at c news b key).facts
noticed_one c news b key = by (spool_of key b.shelf)
  where
    at : (s : SpoolAt) (o : Option ℕ) → Appends IsStartless b.facts (noticed_place o news s (record b { shelf = others key b.shelf })).facts
    at s None = same_facts IsStartless b.facts
    at s (Some j) = heeded_startless (notice_says news (is_past news.id (id_at s.key j)) (place_at s j)) j s (record b { shelf = others key b.shelf })

    by : (o : Option SpoolAt) → Appends IsStartless b.facts (noticed_by o c news (record b { shelf = others key b.shelf })).facts
    by None = same_facts IsStartless b.facts
    by (Some s) = at s (place_of c s.key.list)

noticed_keys : (c : List ℕ) (news : News) (keys : List KeyAt) (b : Board) → Appends IsStartless b.facts (fold (noticed_at c news) b keys).facts
noticed_keys c news [] b = same_facts IsStartless b.facts
noticed_keys c news (key ∷ keys) b = then_facts IsStartless b.facts (noticed_at c news b key).facts _ (noticed_one c news b key) (noticed_keys c news keys (noticed_at c news b key))

pub noticed_startless : (c : List ℕ) (news : News) (b : Board) → Appends IsStartless b.facts (noticed c news b).facts
noticed_startless c news b = noticed_keys c news (keys_with c b.shelf) b

ended_startless : (j : ℕ) (deleted : Bool) (names : List (List ℕ)) (b : Board) → Appends IsStartless b.facts (ended j deleted names b).facts
ended_startless j deleted names b =
    let first = tells (facts.Ended j deleted) b in
    then_facts IsStartless b.facts first.facts (ended j deleted names b).facts (one_fact IsStartless b.facts (facts.Ended j deleted) tt) (outs_startless first.facts _ (parted_outs j names first))

gone_startless : (c : List ℕ) (j : ℕ) (b : Board) → Appends IsStartless b.facts (member_gone c b j).facts
gone_startless c j b = by (names_with j b)
  where
    by : (o : Option (List (List ℕ))) → Appends IsStartless b.facts (member_gone_by o c j (left j b)).facts
    by None = subst (λ (l : List Fact). Appends IsStartless b.facts l) (sym (left_facts j b)) (same_facts IsStartless b.facts)
    by (Some names) = subst (λ (l : List Fact). Appends IsStartless l (ended j true (other_names c names) (left j b)).facts) (left_facts j b) (ended_startless j true (other_names c names) (left j b))

members_startless : (c members : List ℕ) (b : Board) → Appends IsStartless b.facts (fold (member_gone c) b members).facts
members_startless c [] b = same_facts IsStartless b.facts
members_startless c (j ∷ members) b = then_facts IsStartless b.facts (member_gone c b j).facts _ (gone_startless c j b) (members_startless c members (member_gone c b j))

pub lost_startless : (c members : List ℕ) (b : Board) → Appends IsStartless b.facts (gone c members b).facts
lost_startless c members b =
    let over = fold (member_gone c) b members in
    then_facts IsStartless b.facts over.facts (gone c members b).facts (members_startless c members b) (outs_startless over.facts _ (emptied_outs c over))

-- ---- written

startless_one : (workers me : ℕ) (cause : EndedCause) (next : ℕ → ℕ) (f : Fact) (h : List Event) → IsStartless f → StartedThen workers h (fact_event me cause next f)
startless_one workers me cause next (facts.Out o) h p = tt
startless_one workers me cause next (facts.Started n cursor) h p = absurd p
startless_one workers me cause next (facts.Sent s) h p = tt
startless_one workers me cause next (facts.Ended n deleted) h p = tt

startless_written : (workers me : ℕ) (cause : EndedCause) (next : ℕ → ℕ) (fs : List Fact) (h : List Event) → AllByRecursion IsStartless fs → Along (StartedThen workers) h → Along (StartedThen workers) (written me cause next fs h)
startless_written workers me cause next [] h p a = a
startless_written workers me cause next (f ∷ fs) h p a = startless_written workers me cause (fact_next me cause next f) fs (fact_event me cause next f ∷ h) p.1 (a, startless_one workers me cause next f h p.0)

pub startless_appends : (workers me : ℕ) (cause : EndedCause) (next : ℕ → ℕ) (h : List Event) (xs ys : List Fact) → Appends IsStartless xs ys → Along (StartedThen workers) (written me cause next xs h) → Along (StartedThen workers) (written me cause next ys h)
startless_appends workers me cause next h xs ys a k =
    subst (λ (l : List Fact). Along (StartedThen workers) (written me cause next l h)) (sym a.are)
    (subst (Along (StartedThen workers)) (sym (written_append me cause next xs a.facts h)) (startless_written workers me cause (next_written me cause next xs) a.facts (written me cause next xs h) a.all k))
