-- Where nothing is pending nobody is starting: each edge that a start awaits would have been told and answered, and its answer taken.
use Rattle.std.proofs.Common.{◌≡◌, ◌⊎◌, inl, inr, ℕ, zero, suc, ◌+◌, ◌≤◌, true, false, List, [], ◌∷◌, ◌++◌, Option, Some, None, refl, sym, ap, ◌∙◌, subst, arith, length, true≢false}
use Rattle.std.specs.Prelude.{◌==◌, slice_get}
use Rattle.std.specs.List.{AllByRecursion}
use Rattle.std.proofs.lemmas.List.{append-nil}
use Rattle.nc_types.specs.Id.{Id}
use Rattle.nc_types.specs.Cursor.{CursorAt}
use Rattle.nc_types.specs.Channel.{owner_of}
use Rattle.nc_journal.specs.Edges.{EdgeTold, edges_of}
use Rattle.nc_journal.specs.History.{own}
use Rattle.nc_journal.specs.declared.event.Event.{Event}
use Rattle.nc_owner_laws.specs.Wake.{made_to}
use Rattle.nc_spool_state.specs.declared.edge.Edge.{Edge}
use Rattle.nc_spool_state.specs.declared.edge.Edge.TheVariants.{Awaited, Known}
use Rattle.nc_spool_state.specs.Edge.{is_any_awaited}
use Rattle.nc_spool_state.specs.Starting.{StartingAt}
use Rattle.nc_spool_laws.specs.Numbers.{one, total, edge_at}
use Rattle.nc_spool_laws.specs.Numbers.{edges_of as awaited_of}
use Rattle.nc_history.specs.Packets.{Packet, pending, lines_of, received}
use Rattle.nc_rests.proofs.Received.{eqb_self, made_is}
use Rattle.nc_starts.specs.Asked.{edge_numbers, old_first, HasTold}
use Rattle.nc_world_members.specs.Laws.{NobodyStarts}
use Rattle.nc_world_edges.specs.Edges.{is_edge_answered, ReachedTellsEdges, EdgesAreAnswered}
use Rattle.nc_world_edge_awaits.specs.Awaits.{starts_at, AwaitedEdgeIsUnanswered}
use Rattle.nc_world_begins.specs.Knowing.{asked_numbers, FirstEdge, FirstAwaited, FirstKnown, SecondEdge, StillKnown, SecondAwaited, SecondKnown, EdgesKnown, StartHolds}
use Rattle.nc_world_begins.specs.Begins.{ReachedHasStarts, RestedStarts, NobodyStartsAtRest}

-- ---- the edge that a start awaits

-- an edge in flight, at its place
record AwaitedAt (edges : List Edge) : Type 0 where
  j : ℕ
  n : ℕ
  at : slice_get edges j ≡ Some (Awaited n)
  some : 1 ≤ total (edge_at n) edges

awaited_at : (edges : List Edge) → is_any_awaited edges ≡ true → AwaitedAt edges
awaited_at [] e = absurd cc
awaited_at (Awaited n ∷ edges) e = let self : one (n == n) ≡ 1 = ap one (eqb_self n) in record { j = zero; n = n; at = refl; some = omega (arith, self) }
awaited_at (Known last floor ∷ edges) e = let r = awaited_at edges e in record { j = suc r.j; n = r.n; at = r.at; some = omega (arith, r.some) }

-- what stands at a place of a list that is as long
record Got {Y : Type 0} (ys : List Y) (j : ℕ) : Type 0 where
  one : Y
  at : slice_get ys j ≡ Some one

got : {X Y : Type 0} (xs : List X) (ys : List Y) (j : ℕ) (x : X) → length xs ≡ length ys → slice_get xs j ≡ Some x → Got ys j
got [] ys j x same e = absurd cc
got (z ∷ xs) [] j x same e = absurd (omega (arith, same))
got (z ∷ xs) (y ∷ ys) zero x same e = record { one = y; at = refl }
got (z ∷ xs) (y ∷ ys) (suc j) x same e = let r = got xs ys j x (omega (arith, same)) e in record { one = r.one; at = r.at }

-- a number is among some
abbrev HasNumber : ℕ → List ℕ → Type 0
HasNumber n [] = ⊥
HasNumber n (m ∷ ms) = (m ≡ n) ⊎ HasNumber n ms

module _ (workers w k : ℕ) (h : List Event) where
  asked_first : (c : List ℕ) (e : Edge) (n : ℕ) → e ≡ Awaited n → FirstEdge workers w k c h e → HasNumber n (asked_numbers workers w k c h)
  asked_first c e n is (FirstAwaited m numbers asks) = let same : m ≡ n = cc in subst (HasNumber n) (sym numbers) (inl same)
  asked_first c e n is (FirstKnown m floor last numbers told) = absurd cc

  asked_second : (c : List ℕ) (time : ℕ) (last : Id) (e : Edge) (n : ℕ) → e ≡ Awaited n → SecondEdge workers w k c time last h e → HasNumber n (asked_numbers workers w k c h)
  asked_second c time last e n is (StillKnown m floor numbers told not_below) = absurd cc
  asked_second c time last e n is (SecondAwaited m floor second numbers other first below asks) = let same : second ≡ n = cc in subst (HasNumber n) (sym numbers) (inr (inl same))
  asked_second c time last e n is (SecondKnown m floor second later last_later numbers other first below told not_below) = absurd cc

  asked_known : (list : List (List ℕ)) (cursor : Option CursorAt) (edges : List Edge) (j n : ℕ) (c : List ℕ) → EdgesKnown workers w k list cursor edges h → length edges ≡ length list → slice_get list j ≡ Some c → slice_get edges j ≡ Some (Awaited n)
      → HasNumber n (asked_numbers workers w k c h)
  asked_known list None edges j n c known each at_list at_edges = asked_first c (Awaited n) n refl (known j c (Awaited n) at_list at_edges)
  asked_known list (Some cur) edges j n c known each at_list at_edges =
      let last = got list known.lasts j c (sym known.lasts_each) at_list in
      asked_second c cur.time last.one (Awaited n) n refl (known.each j c last.one (Awaited n) at_list last.at at_edges)

-- a start asked for an edge that it awaits
record AskedFor (workers w : ℕ) (h : List Event) (s : StartingAt) : Type 0 where
  n : ℕ
  c : List ℕ
  asked : HasNumber n (asked_numbers workers w s.reader.k c h)
  some : 1 ≤ awaited_of n s

start_asked : (workers w : ℕ) (h : List Event) (s : StartingAt) → StartHolds workers w h s → AskedFor workers w h s
start_asked workers w h s holds =
    let a = awaited_at s.edges holds.awaits in
    let g = got s.edges s.list a.j (Awaited a.n) holds.each a.at in
    record { n = a.n; c = g.one; asked = asked_known workers w s.reader.k h s.list s.cursor s.edges a.j a.n g.one holds.known holds.each g.at a.at; some = a.some }

-- ---- the edge that was told by a number

record ToldBy (n : ℕ) (ts : List EdgeTold) : Type 0 where
  told : EdgeTold
  has : HasTold told ts
  number : told.number ≡ n

last_or : (n m : ℕ) (xs : List ℕ) → HasNumber n (xs ++ m ∷ []) → HasNumber n xs ⊎ (m ≡ n)
last_or n m [] (inl is) = inr is
last_or n m [] (inr p) = absurd p
last_or n m (x ∷ xs) (inl is) = inl (inl is)
last_or n m (x ∷ xs) (inr p) = more (last_or n m xs p)
  where
    more : HasNumber n xs ⊎ (m ≡ n) → HasNumber n (x ∷ xs) ⊎ (m ≡ n)
    more (inl q) = inl (inr q)
    more (inr q) = inr q

told_by : (n : ℕ) (ts : List EdgeTold) → HasNumber n (old_first ts) → ToldBy n ts
told_by n [] p = absurd p
told_by n (t ∷ ts) p = by (last_or n t.number (old_first ts) p) (λ q. told_by n ts q)
  where
    by : HasNumber n (old_first ts) ⊎ (t.number ≡ n) → (HasNumber n (old_first ts) → ToldBy n ts) → ToldBy n (t ∷ ts)
    by (inl q) rest = let r = rest q in record { told = r.told; has = inr r.has; number = r.number }
    by (inr is) rest = record { told = t; has = inl refl; number = is }

-- ---- nothing is pending

-- all that was made was taken
rested_made : (v x : ℕ) (h : List Event) → pending v x h ≡ [] → received v x h ≡ made_to x (own v h)
rested_made v x h none = sym (made_is v x h ∙ ap (λ (ps : List Packet). received v x h ++ lines_of ps) none ∙ append-nil (received v x h))

module _ (has_starts : ReachedHasStarts) (tells : ReachedTellsEdges) (answered : EdgesAreAnswered) (unanswered : AwaitedEdgeIsUnanswered) where
  pub rested_starts_by : RestedStarts
  rested_starts_by setup h world is r rest w = by (starts_at world w) refl ((has_starts setup h world is r).hold w)
    where
      clash : (s : StartingAt) (sts : List StartingAt) → starts_at world w ≡ s ∷ sts → StartHolds setup.workers w h s → ⊥
      clash s sts at holds =
          let a = start_asked setup.workers w h s holds in
          let o = owner_of setup.workers a.c in
          let told = told_by a.n (edges_of w s.reader.k a.c h)
          (subst (HasNumber a.n) (sym (tells setup h world is r w s.reader.k a.c ∙ ap (edge_numbers s.reader.k a.c) (rested_made w o h (rest w o)))) a.asked) in
          let some : 1 ≤ total (awaited_of a.n) (s ∷ sts) = omega (arith, a.some) in
          let no : is_edge_answered a.n (received o w h) ≡ false = unanswered setup h world is r w o a.n (subst (λ (l : List StartingAt). 1 ≤ total (awaited_of a.n) l) (sym at) some) in
          let yes : is_edge_answered a.n (received o w h) ≡ true
          = ap (is_edge_answered a.n) (rested_made o w h (rest o w)) ∙ ap (λ (m : ℕ). is_edge_answered m (made_to w (own o h))) (sym told.number) ∙ answered setup h world is r w s.reader.k a.c told.told told.has in
          true≢false (sym yes ∙ no)

      by : (sts : List StartingAt) → starts_at world w ≡ sts → AllByRecursion (StartHolds setup.workers w h) sts → sts ≡ []
      by [] at each = refl
      by (s ∷ sts) at each = absurd (clash s sts at each.0)

  pub nobody_starts_by : NobodyStarts → NobodyStartsAtRest
  nobody_starts_by nobody setup h world is r rest w k starting = nobody setup h world is r w k (rested_starts_by setup h world is r rest w) starting
