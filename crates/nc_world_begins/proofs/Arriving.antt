-- A subscriber that begins behind the newest messages asks for an edge of each of its channels, and all other starts know what they knew.
use Rattle.std.proofs.Common.{◌≡◌, ◌≢◌, inl, ℕ, zero, suc, ◌+◌, ◌<◌, Bool, true, false, cond, List, [], ◌∷◌, ◌++◌, None, refl, sym, ap, ◌∙◌, subst, arith, length}
use Rattle.std.specs.Prelude.{◌==◌, ◌&&◌, fold, bytes_eq}
use Rattle.std.specs.List.{AllByRecursion}
use Rattle.std.specs.Cmp.Lexicographic.{same_text}
use Rattle.std.proofs.lemmas.Bool.Decides.{nat_tests}
use Rattle.nc_types.specs.Channel.{AreDistinct, owner_of}
use Rattle.nc_types.specs.declared.start.Start.{Start}
use Rattle.nc_types.specs.declared.start.Start.TheVariants.{Newest}
use Rattle.nc_journal.specs.History.{own, onto}
use Rattle.nc_journal.specs.declared.event.Event.{Event}
use Rattle.nc_journal.specs.declared.event.Event.TheVariants.{Made}
use Rattle.nc_journal.specs.declared.alert.AlertLine.TheVariants as lines
use Rattle.nc_journal.specs.declared.word.EndedCause.TheVariants.{Answered}
use Rattle.nc_owner_laws.specs.Wake.{made_to}
use Rattle.nc_spool_state.specs.declared.edge.Edge.{Edge}
use Rattle.nc_spool_state.specs.declared.edge.Edge.TheVariants.{Awaited}
use Rattle.nc_spool_state.specs.Edge.{is_any_awaited}
use Rattle.nc_spool_state.specs.Starting.{StartingAt}
use Rattle.nc_spool.specs.declared.ask.Ask.TheVariants as asks
use Rattle.nc_spool.specs.declared.board.Board.{Board}
use Rattle.nc_spool.specs.declared.fact.Fact.TheVariants as facts
use Rattle.nc_spool.specs.Arrive.{joined}
use Rattle.nc_spool.specs.Calls.{SpoolsAt, board_of, arrive_facts}
use Rattle.nc_spool.specs.Newest.{fresh_edges, edges_from, asked_edge}
use Rattle.nc_spool_laws.specs.Numbers.{one, total}
use Rattle.nc_spool_laws.specs.Tally.{start_at}
use Rattle.nc_spool_laws.proofs.Lists.{all-append}
use Rattle.nc_spool_laws.proofs.Same.{edges-starts, joined-starts}
use Rattle.nc_rests.proofs.Looked.{name_self}
use Rattle.nc_rests.proofs.Received.{eqb_self}
use Rattle.nc_worker_state.specs.Deed.{told}
use Rattle.nc_worker_state.specs.Spooled.{Hold, arrives, facts_deeds}
use Rattle.nc_starts.specs.Asked.{edge_numbers}
use Rattle.nc_world_told.specs.Written.{written, next_written}
use Rattle.nc_world_told.proofs.Written.{written_is, written_append}
use Rattle.nc_world_edges.specs.Edges.{HasEdgeAsk}
use Rattle.nc_world_begins.specs.Knowing.{asked_numbers, FirstEdge, FirstAwaited, FirstEdges, StartHolds}
use Rattle.nc_world_begins.specs.Calls.{Unasked, NewestHolds}
use Rattle.nc_world_begins.proofs.Staying.{numbers_behind, none_own, ask_own, stays_onto, start_stays}
use Rattle.nc_world_begins.proofs.Beside.{joined_beside, arrived_beside, events_beside}

-- ---- the other starts

flipped : (a b : ℕ) → (a == b) ≡ false → (b == a) ≡ false
flipped a b e = grind (arith, nat_tests)

-- who comes is no start yet: all starts hold on
pub others_stay : (workers me : ℕ) (next : ℕ → ℕ) (k : ℕ) (list : List (List ℕ)) (start : Start) (once : Bool) (h : List Event) (s : SpoolsAt Hold) (sts : List StartingAt) → total (start_at k) sts ≡ 0
    → AllByRecursion (StartHolds workers me h) sts → AllByRecursion (StartHolds workers me (onto (told me next (arrives me k list start once s).deeds) h)) sts
others_stay workers me next k list start once h s [] none each = tt
others_stay workers me next k list start once h s (x ∷ sts) none each = (by (x.reader.k == k) refl none, others_stay workers me next k list start once h s sts (omega (arith, none)) each.1)
  where
    by : (t : Bool) → (x.reader.k == k) ≡ t → one t + total (start_at k) sts ≡ 0 → StartHolds workers me (onto (told me next (arrives me k list start once s).deeds) h) x
    by true was e = absurd (omega (arith, e))
    by false was e =
        let beside = arrived_beside x.reader.k (record { k = k; once = once }) list start (board_of s) (flipped x.reader.k k was) tt in
        start_stays workers me h (onto (told me next (arrives me k list start once s).deeds) h) x
        (stays_onto me x.reader.k (told me next (arrives me k list start once s).deeds) h (events_beside x.reader.k me Answered next (arrive_facts k list start once s) beside)) each.0

-- ---- the edges that are asked for

fresh_length : (next : ℕ) (names : List (List ℕ)) → length (fresh_edges next names) ≡ length names
fresh_length next [] = refl
fresh_length next (c ∷ names) = ap (λ (n : ℕ). suc n) (fresh_length (next + 1) names)

fresh_awaited : (next : ℕ) (names : List (List ℕ)) → 0 < length names → is_any_awaited (fresh_edges next names) ≡ true
fresh_awaited next [] named = absurd (omega (arith, named))
fresh_awaited next (c ∷ names) named = refl

joined_workers : (k : ℕ) (names : List (List ℕ)) (b : Board) → (fold (joined k) b names).workers ≡ b.workers
joined_workers k [] b = refl
joined_workers k (c ∷ names) b = joined_workers k names (joined k b c)

name_apart : (d c : List ℕ) → d ≢ c → bytes_eq d c ≡ false
name_apart d c other = by (bytes_eq d c) refl
  where
    by : (t : Bool) → bytes_eq d c ≡ t → t ≡ false
    by true e = absurd (other (same_text d c (sym e)))
    by false e = refl

any_name : (P : List ℕ → Type 0) → ((c : List ℕ) → P c) → (names : List (List ℕ)) → AllByRecursion P names
any_name P all [] = tt
any_name P all (c ∷ names) = (all c, any_name P all names)

module _ (workers me : ℕ) (next : ℕ → ℕ) (k : ℕ) (h : List Event) where
  -- the history so far
  abbrev far : Board → List Event
  far b = written me Answered next b.facts h

  -- the event of an edge that is asked for
  abbrev asking : List ℕ → Board → Event
  asking c b = Made me (owner_of b.workers c) (next_written me Answered next b.facts (owner_of b.workers c)) (lines.Edge b.next k c 0)

  edge_far : (c : List ℕ) (b : Board) → far (asked_edge k c 0 b) ≡ asking c b ∷ far b
  edge_far c b = written_append me Answered next b.facts (facts.Out (record { to = owner_of b.workers c; ask = asks.Edge b.next k c 0 }) ∷ []) h

  numbers_other : (o : ℕ) (c d : List ℕ) (b : Board) → d ≢ c → edge_numbers k c (made_to o (own me (far (asked_edge k d 0 b)))) ≡ edge_numbers k c (made_to o (own me (far b)))
  numbers_other o c d b other =
      ap (λ (l : List Event). edge_numbers k c (made_to o (own me l))) (edge_far d b)
      ∙ none_own me k o c (asking d b) (far b) (ap (λ (t : Bool). cond (t && bytes_eq d c) (b.next ∷ []) []) (eqb_self k) ∙ ap (λ (t : Bool). cond t (b.next ∷ []) []) (name_apart d c other))

  numbers_later : (o : ℕ) (c : List ℕ) (names : List (List ℕ)) (b : Board) → AllByRecursion (λ other. other ≢ c) names → edge_numbers k c (made_to o (own me (far (edges_from k names b)))) ≡ edge_numbers k c (made_to o (own me (far b)))
  numbers_later o c [] b apart = refl
  numbers_later o c (d ∷ names) b apart = numbers_later o c names (asked_edge k d 0 b) apart.1 ∙ numbers_other o c d b apart.0

  edge_one : (number : ℕ) (c : List ℕ) → edge_numbers k c (lines.Edge number k c 0 ∷ []) ≡ number ∷ []
  edge_one number c = ap (λ (t : Bool). cond (t && bytes_eq c c) (number ∷ []) []) (eqb_self k) ∙ ap (λ (t : Bool). cond t (number ∷ []) []) (name_self c)

  number_made : (o to n number : ℕ) (c : List ℕ) (l : List Event) → to ≡ o → edge_numbers k c (made_to o (own me (Made me to n (lines.Edge number k c 0) ∷ l))) ≡ edge_numbers k c (made_to o (own me l)) ++ number ∷ []
  number_made o to n number c l at =
      ap (λ (t : Bool). edge_numbers k c (made_to o (cond t (Made me to n (lines.Edge number k c 0) ∷ own me l) (own me l)))) (eqb_self me)
      ∙ ap (λ (t : Bool). edge_numbers k c (cond t (made_to o (own me l) ++ lines.Edge number k c 0 ∷ []) (made_to o (own me l)))) (ap (λ (x : ℕ). x == o) at ∙ eqb_self o)
      ∙ numbers_behind k c (made_to o (own me l)) (lines.Edge number k c 0 ∷ []) ∙ ap (λ (x : List ℕ). edge_numbers k c (made_to o (own me l)) ++ x) (edge_one number c)

  ask_made : (to n number : ℕ) (c : List ℕ) (l : List Event) → HasEdgeAsk number k c 0 (own me (Made me to n (lines.Edge number k c 0) ∷ l))
  ask_made to n number c l = subst (λ (t : Bool). HasEdgeAsk number k c 0 (cond t (Made me to n (lines.Edge number k c 0) ∷ own me l) (own me l))) (sym (eqb_self me)) (inl (refl, refl, refl, refl))

  asks_later : (number : ℕ) (c : List ℕ) (names : List (List ℕ)) (b : Board) → HasEdgeAsk number k c 0 (own me (far b)) → HasEdgeAsk number k c 0 (own me (far (edges_from k names b)))
  asks_later number c [] b has = has
  asks_later number c (d ∷ names) b has =
      asks_later number c names (asked_edge k d 0 b) (subst (λ (l : List Event). HasEdgeAsk number k c 0 (own me l)) (sym (edge_far d b)) (ask_own me number k c 0 (asking d b) (far b) has))

  -- nobody asked for edges at these channels yet
  abbrev AreUnasked : List (List ℕ) → Board → Type 0
  AreUnasked names b = AllByRecursion (λ c. asked_numbers workers me k c (far b) ≡ []) names

  unasked_rest : (c : List ℕ) (b : Board) (names : List (List ℕ)) → AllByRecursion (λ other. other ≢ c) names → AreUnasked names b → AreUnasked names (asked_edge k c 0 b)
  unasked_rest c b [] apart none = tt
  unasked_rest c b (d ∷ names) apart none = (numbers_other (owner_of workers d) d c b (λ e. apart.0 (sym e)) ∙ none.0, unasked_rest c b names apart.1 none.1)

  edges_known : (names : List (List ℕ)) (b : Board) → AreDistinct names → b.workers ≡ workers → AreUnasked names b → FirstEdges workers me k names (fresh_edges b.next names) (far (edges_from k names b))
  edges_known [] b distinct same none j d e at_list at_edges = absurd cc
  edges_known (c ∷ names) b distinct same none zero d e at_list at_edges =
      let same_name : c ≡ d = cc in
      let same_edge : Awaited b.next ≡ e = cc in
      let o = owner_of workers c in
      let b1 = asked_edge k c 0 b in
      let here : asked_numbers workers me k c (far b1) ≡ b.next ∷ []
      = ap (λ (l : List Event). edge_numbers k c (made_to o (own me l))) (edge_far c b)
      ∙ number_made o (owner_of b.workers c) (next_written me Answered next b.facts (owner_of b.workers c)) b.next c (far b) (ap (λ (n : ℕ). owner_of n c) same)
      ∙ ap (λ (l : List ℕ). l ++ b.next ∷ []) none.0 in
      let asked : HasEdgeAsk b.next k c 0 (own me (far b1))
      = subst (λ (l : List Event). HasEdgeAsk b.next k c 0 (own me l)) (sym (edge_far c b)) (ask_made (owner_of b.workers c) (next_written me Answered next b.facts (owner_of b.workers c)) b.next c (far b)) in
      subst (λ (x : List ℕ). FirstEdge workers me k x (far (edges_from k names b1)) e) same_name
      (subst (FirstEdge workers me k c (far (edges_from k names b1))) same_edge
      (FirstAwaited b.next (numbers_later o c names b1 distinct.0 ∙ here) (asks_later b.next c names b1 asked)))
  edges_known (c ∷ names) b distinct same none (suc j) d e at_list at_edges = edges_known names (asked_edge k c 0 b) distinct.1 same (unasked_rest c b names distinct.0 none.1) j d e at_list at_edges

  module _ (list : List (List ℕ)) (once : Bool) (s : SpoolsAt Hold) (unasked : Unasked me k h) (distinct : AreDistinct list) (named : 0 < length list) (same : s.workers ≡ workers) where
    abbrev joins : Board
    joins = fold (joined k) (board_of s) list

    abbrev fresh : StartingAt
    fresh = record { reader = record { k = k; once = once }; list = list; edges = fresh_edges joins.next list; cursor = None }

    unasked_joined : AreUnasked list joins
    unasked_joined =
        let stays = stays_onto me k (told me next (facts_deeds me Answered joins.facts)) h (events_beside k me Answered next joins.facts (joined_beside k k list (board_of s) tt)) in
        any_name (λ c. asked_numbers workers me k c (far joins) ≡ [])
        (λ c. ap (λ (l : List Event). edge_numbers k c (made_to (owner_of workers c) (own me l))) (written_is me Answered next joins.facts h) ∙ stays.numbers (owner_of workers c) c ∙ unasked (owner_of workers c) c) list

    pub fresh_holds : StartHolds workers me (far (edges_from k list joins)) fresh
    fresh_holds = record {
      distinct = distinct;
      each = fresh_length joins.next list;
      known = edges_known list joins distinct (joined_workers k list (board_of s) ∙ same) unasked_joined;
      awaits = fresh_awaited joins.next list named;
    }

pub newest_holds : NewestHolds
newest_holds workers me next k list once h s unasked distinct named same none each =
    let b = fold (joined k) (board_of s) list in
    let starts_none : total (start_at k) s.starts ≡ 0 = omega (arith, none) in
    let old = others_stay workers me next k list Newest once h s s.starts starts_none each in
    let here = subst (λ (l : List Event). StartHolds workers me l (record { reader = record { k = k; once = once }; list = list; edges = fresh_edges b.next list; cursor = None })) (written_is me Answered next (arrive_facts k list Newest once s) h)
    (fresh_holds workers me next k h list once s unasked distinct named same) in
    all-append (StartHolds workers me (onto (told me next (arrives me k list Newest once s).deeds) h)) (edges_from k list (fold (joined k) (board_of s) list)).starts _
    (subst (AllByRecursion (StartHolds workers me (onto (told me next (arrives me k list Newest once s).deeds) h))) (sym (edges-starts k list b ∙ joined-starts k list (board_of s))) old) (here, tt)
