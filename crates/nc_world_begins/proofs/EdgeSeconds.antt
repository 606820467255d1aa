-- The second edges that a start asks for: which numbers they add, and what it knows then.
use Rattle.std.proofs.Common.{◌≡◌, ◌≢◌, inl, ℕ, zero, suc, ◌+◌, ◌<◌, ◌≤◌, Bool, true, false, cond, List, [], ◌∷◌, ◌++◌, length, map, Some, refl, sym, ap, ◌∙◌, subst, arith}
use Rattle.std.specs.Prelude.{◌&&◌, ◌==◌, ◌||◌, slice_get, slice_index_or, bytes_eq}
use Rattle.std.specs.List.{AllByRecursion}
use Rattle.std.specs.Cmp.Lexicographic.{same_text}
use Rattle.std.proofs.lemmas.Bool.Decides.{nat_tests}
use Rattle.std.proofs.lemmas.List.{append-nil}
use Rattle.nc_types.specs.Id.{Id, no_id}
use Rattle.nc_types.specs.Channel.{AreDistinct, owner_of}
use Rattle.nc_journal.specs.Edges.{edge_told, edges_of}
use Rattle.nc_journal.specs.History.{own}
use Rattle.nc_journal.specs.declared.event.Event.{Event}
use Rattle.nc_journal.specs.declared.event.Event.TheVariants.{Made}
use Rattle.nc_journal.specs.declared.alert.AlertLine.TheVariants as lines
use Rattle.nc_journal.specs.declared.word.EndedCause.TheVariants.{Answered}
use Rattle.nc_spool_state.specs.declared.edge.Edge.{Edge}
use Rattle.nc_spool_state.specs.declared.edge.Edge.TheVariants.{Awaited, Known}
use Rattle.nc_spool_state.specs.Edge.{is_awaited, is_any_awaited, is_behind, is_any_behind, newest_cursor}
use Rattle.nc_spool.specs.declared.board.Board.{Board}
use Rattle.nc_spool.specs.declared.ask.Ask.TheVariants as asks
use Rattle.nc_spool.specs.declared.fact.Fact.{Fact}
use Rattle.nc_spool.specs.declared.fact.Fact.TheVariants as facts
use Rattle.nc_spool.specs.Newest.{asked_edge, edge_behind, edges_behind, behind_edge, behind_edges}
use Rattle.nc_rests.proofs.Lists.{at_length, distinct_at}
use Rattle.nc_rests.proofs.Looked.{name_self}
use Rattle.nc_rests.proofs.Received.{eqb_self}
use Rattle.nc_starts.specs.Asked.{edge_numbers, HasTold}
use Rattle.nc_starts.specs.EdgesTold.{edge_last}
use Rattle.nc_starts.proofs.Asked.{starts_know}
use Rattle.nc_starts.proofs.Drawn.{edges_cursor}
use Rattle.nc_world_edges.specs.Edges.{HasEdgeAsk}
use Rattle.nc_world_told.specs.Written.{written, next_written}
use Rattle.nc_world_told.proofs.Sends.{Appends, same_facts, one_fact, then_facts, IsOut}
use Rattle.nc_world_told.proofs.Written.{written_append}
use Rattle.nc_world_begins.specs.Knowing.{asked_numbers, FirstEdge, FirstKnown, FirstEdges, SecondEdge, StillKnown, SecondAwaited, SecondEdges}
use Rattle.nc_world_begins.specs.Calls.{EdgesGive}
use Rattle.nc_world_begins.proofs.EdgeNumbers.{IsGrown, IsSame, IsAside, IsAskedIn, numbers_asked, made_numbers, grown_written}
use Rattle.nc_world_begins.proofs.EdgePlaces.{fails_at, map_at}

-- ---- lists and names

index_at : (list : List (List ℕ)) (j : ℕ) → j < length list → slice_get list j ≡ Some (slice_index_or list j [])
index_at [] j within = absurd (omega (arith, within))
index_at (d ∷ list) zero within = refl
index_at (d ∷ list) (suc j) within = index_at list j (omega (arith, within))

at_index : (list : List (List ℕ)) (j : ℕ) (c : List ℕ) → slice_get list j ≡ Some c → slice_index_or list j [] ≡ c
at_index [] j c at = absurd cc
at_index (d ∷ list) zero c at = cc
at_index (d ∷ list) (suc j) c at = at_index list j c at

other_name : (d c : List ℕ) → d ≢ c → bytes_eq d c ≡ false
other_name d c other = by (bytes_eq d c) refl
  where
    by : (b : Bool) → bytes_eq d c ≡ b → b ≡ false
    by true was = absurd (other (same_text d c (sym was)))
    by false was = refl

-- ---- the facts of second edges

pub behinds_outs : (time k : ℕ) (list : List (List ℕ)) (j : ℕ) (edges : List Edge) (b : Board) → Appends IsOut b.facts (edges_behind time k list j edges b).facts
behinds_outs time k list j [] b = same_facts IsOut b.facts
behinds_outs time k list j (e ∷ edges) b =
    then_facts IsOut b.facts (edge_behind time k (slice_index_or list j []) e b).facts (edges_behind time k list (j + 1) edges (edge_behind time k (slice_index_or list j []) e b)).facts
    (by (is_behind time e)) (behinds_outs time k list (j + 1) edges (edge_behind time k (slice_index_or list j []) e b))
  where
    by : (t : Bool) → Appends IsOut b.facts (cond t (asked_edge k (slice_index_or list j []) time b) b).facts
    by true = one_fact IsOut b.facts _ tt
    by false = same_facts IsOut b.facts

-- they are asked for this subscriber alone
pub behinds_aside : (other time k : ℕ) (list : List (List ℕ)) (j : ℕ) (edges : List Edge) (b : Board) → (k == other) ≡ false → Appends (IsAside other) b.facts (edges_behind time k list j edges b).facts
behinds_aside other time k list j [] b apart = same_facts (IsAside other) b.facts
behinds_aside other time k list j (e ∷ edges) b apart =
    then_facts (IsAside other) b.facts (edge_behind time k (slice_index_or list j []) e b).facts (edges_behind time k list (j + 1) edges (edge_behind time k (slice_index_or list j []) e b)).facts
    (by (is_behind time e)) (behinds_aside other time k list (j + 1) edges (edge_behind time k (slice_index_or list j []) e b) apart)
  where
    by : (t : Bool) → Appends (IsAside other) b.facts (cond t (asked_edge k (slice_index_or list j []) time b) b).facts
    by true = one_fact (IsAside other) b.facts _ apart
    by false = same_facts (IsAside other) b.facts

pub behinds_length : (time k : ℕ) (list : List (List ℕ)) (j : ℕ) (edges : List Edge) (b : Board) → length (behind_edges time k list j edges b) ≡ length edges
behinds_length time k list j [] b = refl
behinds_length time k list j (e ∷ edges) b = ap suc (behinds_length time k list (j + 1) edges (edge_behind time k (slice_index_or list j []) e b))

-- and where a floor is below the time, one is awaited
pub behinds_awaited : (time k : ℕ) (list : List (List ℕ)) (j : ℕ) (edges : List Edge) (b : Board) → is_any_behind time edges ≡ true → is_any_awaited (behind_edges time k list j edges b) ≡ true
behinds_awaited time k list j [] b some = absurd cc
behinds_awaited time k list j (e ∷ edges) b some = by (is_behind time e) some (λ more. behinds_awaited time k list (j + 1) edges b more)
  where
    or_true : (x y : Bool) → y ≡ true → (x || y) ≡ true
    or_true true y is = refl
    or_true false y is = is

    by : (t : Bool) → (t || is_any_behind time edges) ≡ true → (is_any_behind time edges ≡ true → is_any_awaited (behind_edges time k list (j + 1) edges b) ≡ true)
        → (is_awaited (cond t (Awaited b.next) e) || is_any_awaited (behind_edges time k list (j + 1) edges (cond t (asked_edge k (slice_index_or list j []) time b) b))) ≡ true
    by true some rest = refl
    by false some rest = or_true (is_awaited e) (is_any_awaited (behind_edges time k list (j + 1) edges b)) (rest some)

-- ---- the numbers that they add

-- what a second edge is, where there is one, and which number was drawn for it
data Placed (workers me k time : ℕ) (c : List ℕ) (next : ℕ) (old new : List Event) (e now : Edge) : Type 0 where
  Stays : is_behind time e ≡ false → now ≡ e → asked_numbers workers me k c new ≡ asked_numbers workers me k c old → Placed workers me k time c next old new e now
  Asks : (m : ℕ) → is_behind time e ≡ true → now ≡ Awaited m → next ≤ m → asked_numbers workers me k c new ≡ asked_numbers workers me k c old ++ m ∷ [] → HasEdgeAsk m k c time (own me new) → Placed workers me k time c next old new e now

module _ (workers me : ℕ) (next : ℕ → ℕ) (h : List Event) (k time : ℕ) (list : List (List ℕ)) where
  abbrev Upto : Board → List Event
  Upto b = written me Answered next b.facts h

  -- with one edge more
  abbrev WithEdge : List ℕ → Board → List Event
  WithEdge d b = Made me (owner_of b.workers d) (next_written me Answered next b.facts (owner_of b.workers d)) (lines.Edge b.next k d time) ∷ Upto b

  edge_upto : (d : List ℕ) (b : Board) → Upto (asked_edge k d time b) ≡ WithEdge d b
  edge_upto d b = written_append me Answered next b.facts (facts.Out (record { to = owner_of b.workers d; ask = asks.Edge b.next k d time }) ∷ []) h

  -- its number stands behind those that were asked for at its channel, and at no other
  edge_here : (d : List ℕ) (b : Board) → b.workers ≡ workers → asked_numbers workers me k d (Upto (asked_edge k d time b)) ≡ asked_numbers workers me k d (Upto b) ++ b.next ∷ []
  edge_here d b same =
      let owner : (owner_of b.workers d == owner_of workers d) ≡ true = ap (λ (x : ℕ). owner_of x d == owner_of workers d) same ∙ eqb_self (owner_of workers d) in
      let own_name : ((k == k) && bytes_eq d d) ≡ true = rw (eqb_self k, name_self d) refl in
      ap (asked_numbers workers me k d) (edge_upto d b)
      ∙ made_numbers workers me k d (owner_of b.workers d) (next_written me Answered next b.facts (owner_of b.workers d)) (lines.Edge b.next k d time) (Upto b)
      ∙ ap (λ t. asked_numbers workers me k d (Upto b) ++ cond t (edge_numbers k d (lines.Edge b.next k d time ∷ [])) []) owner
      ∙ ap (λ t. asked_numbers workers me k d (Upto b) ++ cond t (b.next ∷ []) []) own_name

  edge_away : (c d : List ℕ) (b : Board) → bytes_eq d c ≡ false → asked_numbers workers me k c (Upto (asked_edge k d time b)) ≡ asked_numbers workers me k c (Upto b)
  edge_away c d b other =
      ap (asked_numbers workers me k c) (edge_upto d b)
      ∙ made_numbers workers me k c (owner_of b.workers d) (next_written me Answered next b.facts (owner_of b.workers d)) (lines.Edge b.next k d time) (Upto b)
      ∙ ap (λ (l : List ℕ). asked_numbers workers me k c (Upto b) ++ l) (none (owner_of b.workers d == owner_of workers c) (k == k) (bytes_eq d c) other)
      ∙ append-nil (asked_numbers workers me k c (Upto b))
    where
      none : (x y z : Bool) → z ≡ false → cond x (cond (y && z) (b.next ∷ []) []) [] ≡ []
      none true true true is = absurd cc
      none true true false is = refl
      none true false z is = refl
      none false y z is = refl

  edge_asked : (d : List ℕ) (b : Board) → HasEdgeAsk b.next k d time (own me (Upto (asked_edge k d time b)))
  edge_asked d b =
      subst (λ (l : List Event). HasEdgeAsk b.next k d time (own me l)) (sym (edge_upto d b))
      (subst (HasEdgeAsk b.next k d time)
      (ap (λ t. cond t (Made me (owner_of b.workers d) (next_written me Answered next b.facts (owner_of b.workers d)) (lines.Edge b.next k d time) ∷ own me (Upto b)) (own me (Upto b))) (sym (eqb_self me)))
      (inl (refl, refl, refl, refl)))

  grown_behind : (j : ℕ) (edges : List Edge) (b : Board) → IsGrown me (Upto b) (Upto (edges_behind time k list j edges b))
  grown_behind j edges b =
      let a = behinds_outs time k list j edges b in
      subst (λ (l : List Fact). IsGrown me (Upto b) (written me Answered next l h)) (sym a.are)
      (subst (IsGrown me (Upto b)) (sym (written_append me Answered next b.facts a.facts h)) (grown_written me Answered (next_written me Answered next b.facts) a.facts (Upto b)))

  -- another channel's numbers stay
  behind_away : (c d : List ℕ) (e : Edge) (b : Board) → bytes_eq d c ≡ false → asked_numbers workers me k c (Upto (edge_behind time k d e b)) ≡ asked_numbers workers me k c (Upto b)
  behind_away c d e b other = by (is_behind time e)
    where
      by : (t : Bool) → asked_numbers workers me k c (Upto (cond t (asked_edge k d time b) b)) ≡ asked_numbers workers me k c (Upto b)
      by true = edge_away c d b other
      by false = refl

  behinds_away : (c : List ℕ) (j : ℕ) (edges : List Edge) (b : Board) → ((i : ℕ) → j ≤ i → i < j + length edges → bytes_eq (slice_index_or list i []) c ≡ false)
      → asked_numbers workers me k c (Upto (edges_behind time k list j edges b)) ≡ asked_numbers workers me k c (Upto b)
  behinds_away c j [] b others = refl
  behinds_away c j (e ∷ edges) b others =
      behinds_away c (j + 1) edges (edge_behind time k (slice_index_or list j []) e b) (λ i from to. others i (omega (arith, from)) (omega (arith, to)))
      ∙ behind_away c (slice_index_or list j []) e b (others j (omega arith) (omega arith))

  behind_workers : (d : List ℕ) (e : Edge) (b : Board) → (edge_behind time k d e b).workers ≡ b.workers
  behind_workers d e b = by (is_behind time e)
    where
      by : (t : Bool) → (cond t (asked_edge k d time b) b).workers ≡ b.workers
      by true = refl
      by false = refl

  behind_next : (d : List ℕ) (e : Edge) (b : Board) → b.next ≤ (edge_behind time k d e b).next
  behind_next d e b = by (is_behind time e)
    where
      by : (t : Bool) → b.next ≤ (cond t (asked_edge k d time b) b).next
      by true = omega arith
      by false = omega arith

  module _ (distinct : AreDistinct list) where
    -- two places have two names
    other_place : (i j : ℕ) (c : List ℕ) → slice_get list i ≡ Some c → j < length list → j ≢ i → bytes_eq (slice_index_or list j []) c ≡ false
    other_place i j c at within apart = other_name (slice_index_or list j []) c (distinct_at list i j c (slice_index_or list j []) distinct at (index_at list j within) apart)

    -- so at each place, whatever is asked for at the others
    placed : (j : ℕ) (edges : List Edge) (b : Board) → b.workers ≡ workers → j + length edges ≤ length list → (i : ℕ) (c : List ℕ) (e now : Edge)
        → slice_get list (j + i) ≡ Some c → slice_get edges i ≡ Some e → slice_get (behind_edges time k list j edges b) i ≡ Some now
        → Placed workers me k time c b.next (Upto b) (Upto (edges_behind time k list j edges b)) e now
    placed j [] b same within i c e now at at_edges at_now = absurd cc
    placed j (x ∷ edges) b same within zero c e now at at_edges at_now = by (is_behind time x) refl
      where
        here : slice_get list j ≡ Some c
        here = let place : j + zero ≡ j = omega arith in subst (λ (m : ℕ). slice_get list m ≡ Some c) place at

        name : slice_index_or list j [] ≡ c
        name = at_index list j c here

        is_e : x ≡ e
        is_e = cc

        -- what comes behind it leaves the channel alone
        rest : (d : Board) → asked_numbers workers me k c (Upto (edges_behind time k list (j + 1) edges d)) ≡ asked_numbers workers me k c (Upto d)
        rest d = behinds_away c (j + 1) edges d (λ i from to. other_place j i c here (omega (arith, to, within)) (λ is. absurd (omega (arith, is, from))))

        now_is : behind_edge time b.next x ≡ now
        now_is = cc

        by : (t : Bool) → is_behind time x ≡ t → Placed workers me k time c b.next (Upto b) (Upto (edges_behind time k list j (x ∷ edges) b)) e now
        by true was =
            let asks_c : edge_behind time k (slice_index_or list j []) x b ≡ asked_edge k c time b = ap (λ t. cond t (asked_edge k (slice_index_or list j []) time b) b) was ∙ ap (λ (d : List ℕ). asked_edge k d time b) name in
            let whole : edges_behind time k list j (x ∷ edges) b ≡ edges_behind time k list (j + 1) edges (asked_edge k c time b) = ap (edges_behind time k list (j + 1) edges) asks_c in
            Asks b.next (ap (is_behind time) (sym is_e) ∙ was) (sym now_is ∙ ap (λ t. cond t (Awaited b.next) x) was) (omega arith)
            (ap (λ (d : Board). asked_numbers workers me k c (Upto d)) whole ∙ rest (asked_edge k c time b) ∙ edge_here c b same)
            (subst (λ (d : Board). HasEdgeAsk b.next k c time (own me (Upto d))) (sym whole)
            ((grown_behind (j + 1) edges (asked_edge k c time b)).asked b.next k time c (edge_asked c b)))
        by false was =
            let whole : edges_behind time k list j (x ∷ edges) b ≡ edges_behind time k list (j + 1) edges b = ap (λ t. edges_behind time k list (j + 1) edges (cond t (asked_edge k (slice_index_or list j []) time b) b)) was in
            Stays (ap (is_behind time) (sym is_e) ∙ was) (sym now_is ∙ ap (λ t. cond t (Awaited b.next) x) was ∙ is_e)
            (ap (λ (d : Board). asked_numbers workers me k c (Upto d)) whole ∙ rest b)
    placed j (x ∷ edges) b same within (suc i) c e now at at_edges at_now =
        go (placed (j + 1) edges (edge_behind time k (slice_index_or list j []) x b) (behind_workers (slice_index_or list j []) x b ∙ same) (omega (arith, within)) i c e now further at_edges at_now)
      where
        further : slice_get list ((j + 1) + i) ≡ Some c
        further = let place : j + suc i ≡ (j + 1) + i = omega arith in subst (λ (m : ℕ). slice_get list m ≡ Some c) place at

        apart : bytes_eq (slice_index_or list j []) c ≡ false
        apart = other_place (j + suc i) j c at (omega (arith, within)) (λ is. absurd (omega (arith, is)))

        go : Placed workers me k time c (edge_behind time k (slice_index_or list j []) x b).next (Upto (edge_behind time k (slice_index_or list j []) x b)) (Upto (edges_behind time k list j (x ∷ edges) b)) e now
            → Placed workers me k time c b.next (Upto b) (Upto (edges_behind time k list j (x ∷ edges) b)) e now
        go (Stays behind is numbers) = Stays behind is (numbers ∙ behind_away c (slice_index_or list j []) x b apart)
        go (Asks m behind is drawn numbers has) =
            Asks m behind is (omega (arith, drawn, behind_next (slice_index_or list j []) x b)) (numbers ∙ ap (λ (l : List ℕ). l ++ m ∷ []) (behind_away c (slice_index_or list j []) x b apart)) has

-- ---- what is known with them

-- h is the history that the answer came to, and h1 the one with the answer
module _ (workers me : ℕ) (next : ℕ → ℕ) (h h1 : List Event) (same : (k : ℕ) → IsSame workers me k h h1) (drawn : ℕ) (give : EdgesGive workers me drawn h) where
  not_below : (floor time : ℕ) → is_behind time (Known no_id floor) ≡ false → time ≤ floor
  not_below floor time is = grind (arith, nat_tests)

  is_below : (floor time : ℕ) → is_behind time (Known no_id floor) ≡ true → floor < time
  is_below floor time is = grind (arith, nat_tests)

  -- at a place whose first edge was answered
  second_at : (k : ℕ) (c : List ℕ) (time : ℕ) (last : Id) (newer : List Event) (e now : Edge) → IsGrown me h1 newer → FirstEdge workers me k c h e → is_awaited e ≡ false → edge_last e ≡ last
      → Placed workers me k time c drawn h1 newer e now → SecondEdge workers me k c time last newer now
  second_at k c time last newer (Awaited x) now grown known told same_last p = absurd cc
  second_at k c time last newer (Known l f) now grown (FirstKnown n floor id asks has) told same_last (Stays behind is numbers) =
      subst (SecondEdge workers me k c time last newer) (sym is)
      (subst (λ (x : Id). SecondEdge workers me k c time x newer (Known id floor)) same_last
      (StillKnown n floor (numbers ∙ (same k).numbers c ∙ asks) (subst (HasTold (edge_told n floor id)) (sym (grown.told k c ∙ (same k).grown.told k c)) has) (not_below floor time behind)))
  second_at k c time last newer (Known l f) now grown (FirstKnown n floor id asks has) told same_last (Asks m behind is higher numbers asked) =
      let first : edges_of me k c h ≡ edge_told n floor id ∷ [] = (starts_know workers me k c h (give.done k c)).once n (edge_told n floor id) asks has in
      let was_asked : IsAskedIn k c (own me h) n = (subst (AllByRecursion (IsAskedIn k c (own me h))) asks (numbers_asked (owner_of workers c) k c (own me h))).0 in
      let below : n < drawn = give.below n k was_asked.0 c was_asked.1 in
      subst (SecondEdge workers me k c time last newer) (sym is)
      (subst (λ (x : Id). SecondEdge workers me k c time x newer (Awaited m)) same_last
      (SecondAwaited n floor m (numbers ∙ ap (λ (l : List ℕ). l ++ m ∷ []) ((same k).numbers c ∙ asks)) (λ x. absurd (omega (arith, x, below, higher)))
      (record { later = []; split = grown.told k c ∙ (same k).grown.told k c ∙ first }) (is_below floor time behind) asked))

  -- and at all of them
  pub seconds_known : (k : ℕ) (list : List (List ℕ)) (edges : List Edge) (b : Board) → b.workers ≡ workers → b.next ≡ drawn → b.facts ≡ [] → AreDistinct list → length edges ≡ length list → is_any_awaited edges ≡ false
      → FirstEdges workers me k list edges h
      → SecondEdges workers me k list (newest_cursor edges) (behind_edges (newest_cursor edges).time k list 0 edges b) (written me Answered next (edges_behind (newest_cursor edges).time k list 0 edges b).facts h1)
  seconds_known k list edges b workers_same next_same none distinct each told known = record {
    lasts = map edge_last edges;
    lasts_each = map_length edges ∙ each;
    cursor = edges_cursor edges;
    each = λ j c last now at_list at_lasts at_now.
        let e = at_length list edges j c each at_list in
        let place : j ≡ 0 + j = omega arith in
        second_at k c (newest_cursor edges).time last (written me Answered next (edges_behind (newest_cursor edges).time k list 0 edges b).facts h1) e.0 now
        (subst (λ (l : List Event). IsGrown me l (written me Answered next (edges_behind (newest_cursor edges).time k list 0 edges b).facts h1)) bare (grown_behind workers me next h1 k (newest_cursor edges).time list 0 edges b))
        (known j c e.0 at_list e.1) (fails_at is_awaited edges j e.0 told e.1) (map_at edge_last edges j e.0 last e.1 at_lasts)
        (subst (λ (n : ℕ). Placed workers me k (newest_cursor edges).time c n h1 (written me Answered next (edges_behind (newest_cursor edges).time k list 0 edges b).facts h1) e.0 now) next_same
        (subst (λ (l : List Event). Placed workers me k (newest_cursor edges).time c b.next l (written me Answered next (edges_behind (newest_cursor edges).time k list 0 edges b).facts h1) e.0 now) bare
        (placed workers me next h1 k (newest_cursor edges).time list distinct 0 edges b workers_same (omega (arith, each)) j c e.0 now (subst (λ (m : ℕ). slice_get list m ≡ Some c) place at_list) e.1 at_now)));
  }
    where
      bare : written me Answered next b.facts h1 ≡ h1
      bare = ap (λ (l : List Fact). written me Answered next l h1) none

      map_length : (es : List Edge) → length (map edge_last es) ≡ length es
      map_length [] = refl
      map_length (e ∷ es) = ap suc (map_length es)
