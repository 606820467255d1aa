-- A worker took no answer to an edge that it awaits: each move keeps it.
use Rattle.std.proofs.Common.{◌≡◌, ◌⊎◌, inl, inr, ℕ, ◌<◌, ◌≤◌, Bool, true, false, cond, ◌||◌, List, [], ◌∷◌, ◌++◌, Option, refl, sym, ap, ◌∙◌, subst, nat_lt, arith}
use Rattle.std.specs.Prelude.{◌==◌, ◌&&◌}
use Rattle.std.specs.List.{AllByRecursion}
use Rattle.std.specs.Option.{option_map}
use Rattle.std.proofs.lemmas.Bool.Decides.{nat_tests}
use Rattle.std.proofs.lemmas.List.Folds.{list_any-append}
use Rattle.nc_types.specs.declared.info.Info.{Info}
use Rattle.nc_journal.specs.History.{onto}
use Rattle.nc_journal.specs.declared.event.Event.{Event}
use Rattle.nc_journal.specs.declared.event.Event.TheVariants.{Took}
use Rattle.nc_journal.specs.declared.alert.AlertLine.{AlertLine}
use Rattle.nc_journal.specs.declared.alert.AlertLine.TheVariants as lines
use Rattle.nc_spool.specs.Calls.{board_of, news_of}
use Rattle.nc_spool_laws.specs.Numbers.{total, edges_of}
use Rattle.nc_history.specs.Packets.{Packet, kind_of, pending, received, first_line, lines_of}
use Rattle.nc_history.proofs.Prefixes.{taken_is_prefix}
use Rattle.nc_worker_state.specs.Setup.{Setup}
use Rattle.nc_worker_state.specs.Incoming.{Incoming, TakesPacket, ClockReads, Reaps, Posts, Subscribes, Removes, Informs}
use Rattle.nc_worker_state.specs.Spooled.{found_in, found_by}
use Rattle.nc_worker_state.specs.Desk.{Desk, Served, unserved, is_waiting, replied, handled as answered, begun}
use Rattle.nc_worker_state.specs.Worker.{WorkerAt, with_at, dealt_worker}
use Rattle.nc_world.specs.World.{World, handled_events, handled}
use Rattle.nc_world.specs.Moves.{carried_one, with_ring}
use Rattle.nc_world.specs.Reached.{IsSetup, IsInput, Reached}
use Rattle.nc_world_laws.proofs.WorkerKinds.{IsUntaken}
use Rattle.nc_world_laws.specs.Good.{Good}
use Rattle.nc_world_laws.proofs.WorldTheme.{IsWorldTheme}
use Rattle.nc_world_laws.proofs.Local.{either}
use Rattle.nc_world_laws.proofs.Acting.{with_all}
use Rattle.nc_world_laws.proofs.Parts.{owns, serves, rest, rest_untaken}
use Rattle.nc_world_laws.proofs.Frames.{input_untaken, made_sent}
use Rattle.nc_world_laws.proofs.Taking.{first_pending}
use Rattle.nc_world_laws.proofs.WorldThemes.{world_theme_holds}
use Rattle.nc_world_edges.specs.Edges.{answers_edge, is_edge_answered}
use Rattle.nc_world_edges.proofs.Laws.{undrawn_unanswered}
use Rattle.nc_world_edge_awaits.specs.Awaits.{starts_at, awaiting, AwaitedEdgeIsUnanswered}
use Rattle.nc_world_edge_awaits.proofs.Few.{few_kept}
use Rattle.nc_world_edge_awaits.proofs.Apart.{once_awaited}
use Rattle.nc_world_edge_awaits.proofs.Answered.{answered_few}

-- ---- the starts of a step

module _ (me : ℕ) (d : Desk) where
  module _ (n k : ℕ) (drawn : n < d.spools.next) (few : total (edges_of n) d.spools.starts ≤ k) where
    abbrev IsFewer : Served → Type 0
    IsFewer r = total (edges_of n) r.after.spools.starts ≤ k

    reply_few : (r status : ℕ) (info : Option Info) → IsFewer (replied me r status info d)
    reply_few r status info = either IsFewer (is_waiting r d.waiting) _ (unserved d) few few

    line_few : (from : ℕ) (line : AlertLine) → IsFewer (answered me from line d)
    line_few from (lines.PubAnswer r status info usage) = reply_few r status info
    line_few from (lines.InfoAnswer r status info) = reply_few r status info
    line_few from (lines.DelAnswer r status info) = reply_few r status info
    line_few from (lines.LookAnswer number q floor found g slot) = ((few_kept n k).answer number (record { q = q; floor = floor }) (option_map news_of (found_in from found g slot)) (board_of d.spools) tt (drawn, few)).1
    line_few from (lines.Notice c id g slot) = ((few_kept n k).notice c (news_of (found_by from id g slot)) (board_of d.spools) tt (drawn, few)).1
    line_few from (lines.EdgeAnswer number q floor last) = ((few_kept n k).edge_answer number floor last (board_of d.spools) tt (drawn, few)).1
    line_few from (lines.Gone c subs) = ((few_kept n k).removal c subs (board_of d.spools) (drawn, few)).1
    line_few from (lines.Publish r c len timeout ct body) = few
    line_few from (lines.Look number c after fence) = few
    line_few from (lines.Edge number m c fence) = few
    line_few from (lines.Join c m) = few
    line_few from (lines.Part c m) = few
    line_few from (lines.Delete r c) = few
    line_few from (lines.Info r c) = few

    step_few : (setup : Setup) (incoming : Incoming) → IsFewer (begun setup me incoming d)
    step_few setup (TakesPacket from p) = line_few from p.line
    step_few setup (ClockReads t) = few
    step_few setup Reaps = few
    step_few setup (Posts c body) = few
    step_few setup (Removes c) = few
    step_few setup (Informs c) = few
    step_few setup (Subscribes m list start) = ((few_kept n k).arrive (record { k = m; once = true }) list start (board_of d.spools) tt (drawn, few)).1

  -- what was answered is awaited no longer
  answer_few : (n from : ℕ) (line : AlertLine) → n < d.spools.next → total (edges_of n) d.spools.starts ≤ 1 → (answers_edge n line ≡ false) ⊎ (total (edges_of n) (answered me from line d).after.spools.starts ≤ 0)
  answer_few n from (lines.EdgeAnswer number q floor last) drawn once = by (number == n) refl
    where
      same : (number == n) ≡ true → number ≡ n
      same e = grind (arith, nat_tests)

      by : (b : Bool) → (number == n) ≡ b → (b ≡ false) ⊎ (total (edges_of n) (answered me from (lines.EdgeAnswer number q floor last) d).after.spools.starts ≤ 0)
      by true e = inr (subst (λ (m : ℕ). total (edges_of n) (answered me from (lines.EdgeAnswer m q floor last) d).after.spools.starts ≤ 0) (sym (same e)) (answered_few n floor last (board_of d.spools) drawn once))
      by false e = inl refl
  answer_few n from line drawn once = inl refl

-- ---- what was received

received_same : (v w : ℕ) (es h : List Event) → AllByRecursion IsUntaken es → received v w (onto es h) ≡ received v w h
received_same v w [] h un = refl
received_same v w (Took x y m kind ∷ es) h un = absurd un.0
received_same v w (e ∷ es) h un = received_same v w es (e ∷ h) un.1

neither : (a b : Bool) → (a || b) ≡ false → (a ≡ false) × (b ≡ false)
neither true b e = absurd cc
neither false b e = (refl, e)

both_false : (a b : Bool) → a ≡ false → b ≡ false → (a || b) ≡ false
both_false a b e f = ap (λ (t : Bool). t || b) e ∙ f

module _ (n : ℕ) where
  -- an edge that none of some alerts answers is answered by no part of them
  parts_unanswered : (xs ys : List AlertLine) → is_edge_answered n (xs ++ ys) ≡ false → (is_edge_answered n xs ≡ false) × (is_edge_answered n ys ≡ false)
  parts_unanswered xs ys e = neither (is_edge_answered n xs) (is_edge_answered n ys) (sym (list_any-append (answers_edge n) xs ys) ∙ e)

  both_unanswered : (xs ys : List AlertLine) → is_edge_answered n xs ≡ false → is_edge_answered n ys ≡ false → is_edge_answered n (xs ++ ys) ≡ false
  both_unanswered xs ys e f = list_any-append (answers_edge n) xs ys ∙ both_false (is_edge_answered n xs) (is_edge_answered n ys) e f

  some_unanswered : (b : Bool) (xs ys : List AlertLine) → is_edge_answered n xs ≡ false → is_edge_answered n ys ≡ false → is_edge_answered n (cond b (xs ++ ys) xs) ≡ false
  some_unanswered true xs ys e f = both_unanswered xs ys e f
  some_unanswered false xs ys e f = e

  one_unanswered : (line : AlertLine) → answers_edge n line ≡ false → is_edge_answered n (line ∷ []) ≡ false
  one_unanswered line e = both_false (answers_edge n line) false e refl

  first_unanswered : (ps : List Packet) → is_edge_answered n (lines_of ps) ≡ false → is_edge_answered n (first_line ps) ≡ false
  first_unanswered [] e = refl
  first_unanswered (p ∷ ps) e = one_unanswered p.line (neither (answers_edge n p.line) (is_edge_answered n (lines_of ps)) e).0

-- ---- the theme

abbrev Unanswered : List Event → World → Type 0
Unanswered h world = (w v n : ℕ) → 1 ≤ awaiting n (starts_at world w) → is_edge_answered n (received v w h) ≡ false

either_less : (a b : ℕ) → (a < b) ⊎ (b ≤ a)
either_less a b = by (nat_lt a b) refl
  where
    by : (t : Bool) → nat_lt a b ≡ t → (a < b) ⊎ (b ≤ a)
    by true e = inl (grind (arith, nat_tests))
    by false e = inr (grind (arith, nat_tests))

module _ (setup : Setup) (is : IsSetup setup) (x : ℕ) (incoming : Incoming) (h : List Event) (world : World) (reached : Reached setup h world) (g : Good setup h world) (a : Unanswered h world) where
  abbrev d : Desk
  d = (world.workers x).desk

  abbrev es : List Event
  es = handled_events setup x incoming world

  abbrev new : WorkerAt
  new = dealt_worker es (owns x incoming world) (serves setup x incoming world) (world.workers x)

  -- of a number that isn't drawn yet no answer was taken, and none is pending
  never : (v n : ℕ) → d.spools.next ≤ n → (is_edge_answered n (received v x h) ≡ false) × (is_edge_answered n (lines_of (pending v x h)) ≡ false)
  never v n le = parts_unanswered n (received v x h) (lines_of (pending v x h)) (sym (ap (is_edge_answered n) (made_sent v x h ∙ taken_is_prefix v x h)) ∙ undrawn_unanswered setup h world is reached x v n le)

  abbrev after : ℕ → ℕ
  after n = total (edges_of n) (serves setup x incoming world).after.spools.starts

  -- what is awaited after the step and was drawn before it was awaited then
  before : (v n : ℕ) → n < d.spools.next → 1 ≤ after n → is_edge_answered n (received v x h) ≡ false
  before v n drawn some =
      let few = step_few x d n (total (edges_of n) d.spools.starts) drawn (omega arith) setup incoming in
      a x v n (omega (arith, few, some))

  -- the worker itself and the others
  step_unanswered : ((v n : ℕ) → 1 ≤ after n → is_edge_answered n (received v x (onto es h)) ≡ false) → ((w v : ℕ) → (w == x) ≡ false → received v w (onto es h) ≡ received v w h)
      → (w v n : ℕ) → 1 ≤ awaiting n (with_at world.workers x new w).desk.spools.starts → is_edge_answered n (received v w (onto es h)) ≡ false
  step_unanswered mine others w v n = with_all (λ z (s : WorkerAt). 1 ≤ awaiting n s.desk.spools.starts → is_edge_answered n (received v z (onto es h)) ≡ false) world.workers x new
      (λ some. mine v n some) (λ z other some. ap (is_edge_answered n) (others z v other) ∙ a z v n some) w

module _ (setup : Setup) (is : IsSetup setup) where
  handled_unanswered : (x : ℕ) (incoming : Incoming) (h : List Event) (world : World) → Reached setup h world → Good setup h world → IsInput x h incoming → Unanswered h world
      → Unanswered (onto (handled_events setup x incoming world) h) (handled setup x incoming world)
  handled_unanswered x incoming h world reached g i a = step_unanswered setup is x incoming h world reached g a mine (λ w v other. untaken w v)
    where
      untaken : (w v : ℕ) → received v w (onto (handled_events setup x incoming world) h) ≡ received v w h
      untaken w v = received_same v w (handled_events setup x incoming world) h (input_untaken setup is x incoming h world g i)

      mine : (v n : ℕ) → 1 ≤ after setup is x incoming h world reached g a n → is_edge_answered n (received v x (onto (handled_events setup x incoming world) h)) ≡ false
      mine v n some = ap (is_edge_answered n) (untaken x v) ∙ by (either_less n (world.workers x).desk.spools.next)
        where
          by : (n < (world.workers x).desk.spools.next) ⊎ ((world.workers x).desk.spools.next ≤ n) → is_edge_answered n (received v x h) ≡ false
          by (inl drawn) = before setup is x incoming h world reached g a v n drawn some
          by (inr le) = (never setup is x incoming h world reached g a v n le).0

  taken_unanswered : (x v : ℕ) (p : Packet) (ps : List Packet) (h : List Event) (world : World) → Reached setup h world → Good setup h world → world.rings v x ≡ p ∷ ps → Unanswered h world
      → Unanswered (onto (handled_events setup x (TakesPacket v p) world) h) (handled setup x (TakesPacket v p) (with_ring v x ps world))
  taken_unanswered x v p ps h world reached g at a = step_unanswered setup is x (TakesPacket v p) h world reached g a mine others
    where
      es : List Event
      es = handled_events setup x (TakesPacket v p) world

      took : Event
      took = Took x v p.number (kind_of p.line)

      d : Desk
      d = (world.workers x).desk

      untaken : (w u : ℕ) → received u w (onto es h) ≡ received u w (took ∷ h)
      untaken w u = received_same u w (rest setup x (TakesPacket v p) world) (took ∷ h) (rest_untaken setup is x (TakesPacket v p) h world g)

      one_case : (b c : Bool) (xs ys : List AlertLine) → c ≡ false → cond (b && c) xs ys ≡ ys
      one_case true true xs ys e = absurd cc
      one_case true false xs ys e = refl
      one_case false c xs ys e = refl

      others : (w u : ℕ) → (w == x) ≡ false → received u w (onto es h) ≡ received u w h
      others w u other = untaken w u ∙ one_case (u == v) (w == x) (received u w h ++ first_line (pending u w h)) (received u w h) other

      first_is : (u : ℕ) → (u ≡ v) → first_line (pending u x h) ≡ p.line ∷ []
      first_is u same = ap (λ (z : ℕ). first_line (pending z x h)) same ∙ ap first_line (first_pending setup x v p ps h world g at)

      mine : (u n : ℕ) → 1 ≤ after setup is x (TakesPacket v p) h world reached g a n → is_edge_answered n (received u x (onto es h)) ≡ false
      mine u n some = ap (is_edge_answered n) (untaken x u) ∙ by (either_less n d.spools.next)
        where
          by : (n < d.spools.next) ⊎ (d.spools.next ≤ n) → is_edge_answered n (cond ((u == v) && (x == x)) (received u x h ++ first_line (pending u x h)) (received u x h)) ≡ false
          by (inr le) =
              let none = never setup is x (TakesPacket v p) h world reached g a u n le in
              some_unanswered n ((u == v) && (x == x)) (received u x h) (first_line (pending u x h)) none.0 (first_unanswered n (pending u x h) none.1)
          by (inl drawn) = at_pair (u == v) refl (answer_few x d n v p.line drawn (once_awaited setup is h world reached x n))
            where
              old : is_edge_answered n (received u x h) ≡ false
              old = before setup is x (TakesPacket v p) h world reached g a u n drawn some

              same : (u == v) ≡ true → u ≡ v
              same e = grind (arith, nat_tests)

              at_pair : (b : Bool) → (u == v) ≡ b → (answers_edge n p.line ≡ false) ⊎ (after setup is x (TakesPacket v p) h world reached g a n ≤ 0)
                  → is_edge_answered n (cond (b && (x == x)) (received u x h ++ first_line (pending u x h)) (received u x h)) ≡ false
              at_pair false e few = old
              at_pair true e (inr few) = absurd (omega (arith, few, some))
              at_pair true e (inl none) = some_unanswered n (x == x) (received u x h) (first_line (pending u x h)) old (ap (is_edge_answered n) (first_is u (same e)) ∙ one_unanswered n p.line none)

  carries_unanswered : (w v : ℕ) (p : Packet) (ps : List Packet) (h : List Event) (world : World) → Unanswered h world → Unanswered h (carried_one w v p ps world)
  carries_unanswered w v p ps h world a x u n some = a x u n (subst (λ (d : Desk). 1 ≤ awaiting n d.spools.starts) (desk x) some)
    where
      desk : (x : ℕ) → ((carried_one w v p ps world).workers x).desk ≡ (world.workers x).desk
      desk = with_all (λ x (s : WorkerAt). s.desk ≡ (world.workers x).desk) world.workers w (record (world.workers w) { outbox = with_at (world.workers w).outbox v ps }) refl (λ x e. refl)

  awaits_theme : IsWorldTheme setup Unanswered
  awaits_theme = record {
    new = λ w v n some. refl;
    handles = λ w incoming h world reached g here i a. handled_unanswered w incoming h world reached g i a;
    takes = λ w v p ps h world reached g here there at a. taken_unanswered w v p ps h world reached g at a;
    carries = λ w v p ps h world reached g here there at a. carries_unanswered w v p ps h world a;
    pending = λ n h world reached g same a. a;
    quiet = λ h world reached g same a. a;
  }

pub awaited_edge_is_unanswered : AwaitedEdgeIsUnanswered
awaited_edge_is_unanswered setup h world is reached = world_theme_holds setup Unanswered is (awaits_theme setup is) h world reached
