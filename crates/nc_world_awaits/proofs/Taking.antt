-- A worker took no answer to a look that it awaits: each move keeps it.
use Rattle.std.proofs.Common.{◌≡◌, ◌⊎◌, inl, inr, ℕ, zero, suc, ◌+◌, ◌<◌, ◌≤◌, Bool, true, false, cond, List, [], ◌∷◌, ◌++◌, Option, refl, sym, ap, ◌∙◌, subst, nat_lt, arith, drop}
use Rattle.std.specs.Prelude.{◌==◌, ◌&&◌}
use Rattle.std.specs.List.{AllByRecursion}
use Rattle.std.specs.Option.{option_map}
use Rattle.std.proofs.lemmas.Bool.Decides.{nat_tests}
use Rattle.nc_types.specs.declared.info.Info.{Info}
use Rattle.nc_journal.specs.History.{own, onto, is_by}
use Rattle.nc_journal.specs.declared.event.Event.{Event}
use Rattle.nc_journal.specs.declared.event.Event.TheVariants.{Made, Took}
use Rattle.nc_journal.specs.declared.alert.AlertLine.{AlertLine}
use Rattle.nc_journal.specs.declared.alert.AlertLine.TheVariants as lines
use Rattle.nc_owner_laws.specs.Used.{bit, times}
use Rattle.nc_spool_state.specs.Spool.{SpoolAt}
use Rattle.nc_spool.specs.Calls.{SpoolsAt, board_of, news_of}
use Rattle.nc_spool_laws.specs.Numbers.{total, looks_of}
use Rattle.nc_history.specs.Packets.{Packet, kind_of, is_pair, pending, sent_lines, received, first_line, lines_of}
use Rattle.nc_history.proofs.Prefixes.{taken_is_prefix}
use Rattle.nc_worker_state.specs.Setup.{Setup}
use Rattle.nc_worker_state.specs.Incoming.{Incoming, TakesPacket, ClockReads, Reaps, Posts, Subscribes, Removes, Informs}
use Rattle.nc_worker_state.specs.Spooled.{Hold, found_in, found_by}
use Rattle.nc_worker_state.specs.Desk.{Desk, Served, unserved, is_waiting, replied, handled as answered, begun}
use Rattle.nc_worker_state.specs.Worker.{WorkerAt, with_at, dealt_worker}
use Rattle.nc_world.specs.World.{World, handled_events, handled}
use Rattle.nc_world.specs.Moves.{carried_one, with_ring}
use Rattle.nc_world.specs.Reached.{IsSetup, IsInput, Reached}
use Rattle.nc_world_laws.proofs.WorkerKinds.{IsUntaken}
use Rattle.nc_world_laws.specs.Good.{Good}
use Rattle.nc_world_laws.proofs.WorldTheme.{IsWorldTheme}
use Rattle.nc_world_laws.proofs.Local.{either, eqb_self}
use Rattle.nc_world_laws.proofs.Acting.{with_all}
use Rattle.nc_world_laws.proofs.Parts.{owns, serves, rest, rest_untaken}
use Rattle.nc_world_laws.proofs.Frames.{input_untaken}
use Rattle.nc_world_laws.proofs.Taking.{first_pending, took_good}
use Rattle.nc_world_laws.proofs.WorldThemes.{world_theme_holds}
use Rattle.nc_rests.specs.Asking.{ask_numbers}
use Rattle.nc_world_asks.proofs.Reaching.{reached_asks}
use Rattle.nc_world_places.specs.Places.{shelf_at}
use Rattle.nc_world_looks.specs.Looks.{looking, looked, weigh}
use Rattle.nc_world_looks.proofs.Making.{weigh_append}
use Rattle.nc_world_looks.proofs.Bounding.{answers_are_asked}
use Rattle.nc_world_holds.specs.Balance.{one_if}
use Rattle.nc_world_awaits.specs.Awaits.{awaiting, AwaitedIsUnanswered}
use Rattle.nc_world_awaits.proofs.Few.{few_kept}
use Rattle.nc_world_awaits.proofs.Apart.{once_awaited}
use Rattle.nc_world_awaits.proofs.Answered.{answered_few}

-- ---- looks that were asked for have numbers that were drawn

module _ (n w v : ℕ) where
  sent_case : (b c : Bool) (t u : ℕ) (xs : List AlertLine) (a : AlertLine) → (b ≡ true → looking n a + t ≤ u) → t ≤ u → weigh (looking n) xs ≤ t → weigh (looking n) (cond (b && c) (xs ++ a ∷ []) xs) ≤ u
  sent_case true true t u xs a more less old = let m = more refl in omega (arith, m, old, weigh_append (looking n) xs (a ∷ []))
  sent_case true false t u xs a more less old = omega (arith, less, old)
  sent_case false c t u xs a more less old = omega (arith, less, old)

  own_case : (b : Bool) (e : Event) (l : List Event) → times n (ask_numbers l) ≤ times n (ask_numbers (e ∷ l)) → times n (ask_numbers l) ≤ times n (ask_numbers (cond b (e ∷ l) l))
  own_case true e l more = more
  own_case false e l more = omega arith

  own_more : (b : Bool) (k : ℕ) (e : Event) (l : List Event) → k + times n (ask_numbers l) ≤ times n (ask_numbers (e ∷ l)) → b ≡ true → k + times n (ask_numbers l) ≤ times n (ask_numbers (cond b (e ∷ l) l))
  own_more true k e l more is = more
  own_more false k e l more is = absurd cc

  asks_rise : (e : Event) (l : List Event) → times n (ask_numbers l) ≤ times n (ask_numbers (e ∷ l))
  asks_rise (Made x y m a) l = by a
    where
      by : (a : AlertLine) → times n (ask_numbers l) ≤ times n (ask_numbers (Made x y m a ∷ l))
      by (lines.Look number c after fence) = omega arith
      by (lines.Edge number k c fence) = omega arith
      by a = omega arith
  asks_rise e l = omega arith

  line_rises : (x y m : ℕ) (a : AlertLine) (l : List Event) → looking n a + times n (ask_numbers l) ≤ times n (ask_numbers (Made x y m a ∷ l))
  line_rises x y m (lines.Look number c after fence) l = by (number == n)
    where
      by : (b : Bool) → one_if b + times n (ask_numbers l) ≤ bit b + times n (ask_numbers l)
      by true = omega arith
      by false = omega arith
  line_rises x y m (lines.Edge number k c fence) l = omega arith
  line_rises x y m a l = omega arith

  -- what a worker asked an owner for was drawn by it
  looks_drawn : (h : List Event) → weigh (looking n) (sent_lines w v h) ≤ times n (ask_numbers (own w h))
  looks_drawn [] = omega arith
  looks_drawn (Made x y m a ∷ h) =
      let l = own w h in
      let e = Made x y m a in
      sent_case (w == x) (v == y) (times n (ask_numbers l)) (times n (ask_numbers (cond (w == x) (e ∷ l) l))) (sent_lines w v h) a
      (own_more (w == x) (looking n a) e l (line_rises x y m a l)) (own_case (w == x) e l (asks_rise e l)) (looks_drawn h)
  looks_drawn (e ∷ h) = let old = looks_drawn h in omega (arith, old, own_case (is_by w e) e (own w h) (asks_rise e (own w h)))

-- ---- the spools of a step

module _ (me : ℕ) (d : Desk) where
  shelf_of : Served → List SpoolAt
  shelf_of r = r.after.spools.shelf

  module _ (n k : ℕ) (drawn : n < d.spools.next) (few : total (looks_of n) d.spools.shelf ≤ k) where
    abbrev IsFewer : Served → Type 0
    IsFewer r = total (looks_of n) r.after.spools.shelf ≤ k

    reply_few : (r status : ℕ) (info : Option Info) → IsFewer (replied me r status info d)
    reply_few r status info = either IsFewer (is_waiting r d.waiting) _ (unserved d) few few

    line_few : (from : ℕ) (line : AlertLine) → IsFewer (answered me from line d)
    line_few from (lines.PubAnswer r status info usage) = reply_few r status info
    line_few from (lines.InfoAnswer r status info) = reply_few r status info
    line_few from (lines.DelAnswer r status info) = reply_few r status info
    line_few from (lines.LookAnswer number q floor found g slot) = ((few_kept n k).answer number (record { q = q; floor = floor }) (option_map news_of (found_in from found g slot)) (board_of d.spools) tt (drawn, few)).1
    line_few from (lines.Notice c id g slot) = ((few_kept n k).notice c (news_of (found_by from id g slot)) (board_of d.spools) tt (drawn, few)).1
    line_few from (lines.EdgeAnswer number q floor last) = ((few_kept n k).edge_answer number floor last (board_of d.spools) tt (drawn, few)).1
    line_few from (lines.Gone c subs) = ((few_kept n k).removal c subs (board_of d.spools) (drawn, few)).1
    line_few from (lines.Publish r c len timeout ct body) = few
    line_few from (lines.Look number c after fence) = few
    line_few from (lines.Edge number m c fence) = few
    line_few from (lines.Join c m) = few
    line_few from (lines.Part c m) = few
    line_few from (lines.Delete r c) = few
    line_few from (lines.Info r c) = few

    begun_few : (setup : Setup) (incoming : Incoming) → IsFewer (begun setup me incoming d)
    begun_few setup (TakesPacket from p) = line_few from p.line
    begun_few setup (ClockReads t) = few
    begun_few setup Reaps = few
    begun_few setup (Posts c body) = few
    begun_few setup (Removes c) = few
    begun_few setup (Informs c) = few
    begun_few setup (Subscribes m list start) = ((few_kept n k).arrive (record { k = m; once = true }) list start (board_of d.spools) tt (drawn, few)).1

  -- what was answered is awaited no longer
  answer_few : (n from : ℕ) (line : AlertLine) → n < d.spools.next → total (looks_of n) d.spools.shelf ≤ 1 → (looked n line ≡ 0) ⊎ (total (looks_of n) (answered me from line d).after.spools.shelf ≤ 0)
  answer_few n from (lines.LookAnswer number q floor found g slot) drawn once = by (number == n) refl
    where
      same : (number == n) ≡ true → number ≡ n
      same e = grind (arith, nat_tests)

      by : (b : Bool) → (number == n) ≡ b → (one_if b ≡ 0) ⊎ (total (looks_of n) (answered me from (lines.LookAnswer number q floor found g slot) d).after.spools.shelf ≤ 0)
      by true e = inr (subst (λ (m : ℕ). total (looks_of n) (answered me from (lines.LookAnswer m q floor found g slot) d).after.spools.shelf ≤ 0) (sym (same e))
          (answered_few n (record { q = q; floor = floor }) (option_map news_of (found_in from found g slot)) (board_of d.spools) drawn once))
      by false e = inl refl
  answer_few n from line drawn once = inl refl

-- ---- what was received

received_same : (v w : ℕ) (es h : List Event) → AllByRecursion IsUntaken es → received v w (onto es h) ≡ received v w h
received_same v w [] h un = refl
received_same v w (Took x y m kind ∷ es) h un = absurd un.0
received_same v w (e ∷ es) h un = received_same v w es (e ∷ h) un.1

first_weighs : (f : AlertLine → ℕ) (ps : List Packet) → weigh f (first_line ps) ≤ weigh f (lines_of ps)
first_weighs f [] = omega arith
first_weighs f (p ∷ ps) = omega arith

-- ---- the theme

abbrev Unanswered : List Event → World → Type 0
Unanswered h world = (w v n : ℕ) → 1 ≤ awaiting n (shelf_at world w) → weigh (looked n) (received v w h) ≡ 0

either_less : (a b : ℕ) → (a < b) ⊎ (b ≤ a)
either_less a b = by (nat_lt a b) refl
  where
    by : (t : Bool) → nat_lt a b ≡ t → (a < b) ⊎ (b ≤ a)
    by true e = inl (grind (arith, nat_tests))
    by false e = inr (grind (arith, nat_tests))

module _ (setup : Setup) (is : IsSetup setup) (x : ℕ) (incoming : Incoming) (h : List Event) (world : World) (reached : Reached setup h world) (g : Good setup h world) (a : Unanswered h world) where
  abbrev d : Desk
  d = (world.workers x).desk

  abbrev es : List Event
  es = handled_events setup x incoming world

  abbrev new : WorkerAt
  new = dealt_worker es (owns x incoming world) (serves setup x incoming world) (world.workers x)

  -- of a number that isn't drawn yet no answer was made
  never : (v n : ℕ) → d.spools.next ≤ n → weigh (looked n) (sent_lines v x h) ≡ 0
  never v n le =
      let bound = answers_are_asked setup h world is reached x v n in
      let drawn = looks_drawn n x v h in
      let none = ((reached_asks setup h world is reached).drawn x).below n le in
      omega (arith, bound, drawn, none)

  -- and none was taken
  never_taken : (v n : ℕ) → d.spools.next ≤ n → weigh (looked n) (received v x h) ≡ 0
  never_taken v n le = let parts = weigh_append (looked n) (received v x h) (lines_of (pending v x h)) in let all = ap (weigh (looked n)) (taken_is_prefix v x h) in let none = never v n le in omega (arith, parts, all, none)

  never_pending : (v n : ℕ) → d.spools.next ≤ n → weigh (looked n) (lines_of (pending v x h)) ≡ 0
  never_pending v n le = let parts = weigh_append (looked n) (received v x h) (lines_of (pending v x h)) in let all = ap (weigh (looked n)) (taken_is_prefix v x h) in let none = never v n le in omega (arith, parts, all, none)

  abbrev after : ℕ → ℕ
  after n = total (looks_of n) (serves setup x incoming world).after.spools.shelf

  -- what is awaited after the step and was drawn before it was awaited then
  before : (v n : ℕ) → n < d.spools.next → 1 ≤ after n → weigh (looked n) (received v x h) ≡ 0
  before v n drawn some =
      let few = begun_few x d n (total (looks_of n) d.spools.shelf) drawn (omega arith) setup incoming in
      a x v n (omega (arith, few, some))

  -- the worker itself and the others
  step_unanswered : ((v n : ℕ) → 1 ≤ after n → weigh (looked n) (received v x (onto es h)) ≡ 0) → ((w v : ℕ) → (w == x) ≡ false → received v w (onto es h) ≡ received v w h)
      → (w v n : ℕ) → 1 ≤ awaiting n (with_at world.workers x new w).desk.spools.shelf → weigh (looked n) (received v w (onto es h)) ≡ 0
  step_unanswered mine others w v n = with_all (λ z (s : WorkerAt). 1 ≤ awaiting n s.desk.spools.shelf → weigh (looked n) (received v z (onto es h)) ≡ 0) world.workers x new
      (λ some. mine v n some) (λ z other some. let old = a z v n some in let same = ap (weigh (looked n)) (others z v other) in omega (arith, old, same)) w

module _ (setup : Setup) (is : IsSetup setup) where
  handled_unanswered : (x : ℕ) (incoming : Incoming) (h : List Event) (world : World) → Reached setup h world → Good setup h world → IsInput x h incoming → Unanswered h world
      → Unanswered (onto (handled_events setup x incoming world) h) (handled setup x incoming world)
  handled_unanswered x incoming h world reached g i a =
      step_unanswered setup is x incoming h world reached g a mine (λ w v other. untaken w v)
    where
      untaken : (w v : ℕ) → received v w (onto (handled_events setup x incoming world) h) ≡ received v w h
      untaken w v = received_same v w (handled_events setup x incoming world) h (input_untaken setup is x incoming h world g i)

      mine : (v n : ℕ) → 1 ≤ after setup is x incoming h world reached g a n → weigh (looked n) (received v x (onto (handled_events setup x incoming world) h)) ≡ 0
      mine v n some = by (either_less n (world.workers x).desk.spools.next)
        where
          by : (n < (world.workers x).desk.spools.next) ⊎ ((world.workers x).desk.spools.next ≤ n) → weigh (looked n) (received v x (onto (handled_events setup x incoming world) h)) ≡ 0
          by (inl drawn) = ap (weigh (looked n)) (untaken x v) ∙ before setup is x incoming h world reached g a v n drawn some
          by (inr le) = ap (weigh (looked n)) (untaken x v) ∙ never_taken setup is x incoming h world reached g a v n le

  taken_unanswered : (x v : ℕ) (p : Packet) (ps : List Packet) (h : List Event) (world : World) → Reached setup h world → Good setup h world → world.rings v x ≡ p ∷ ps → Unanswered h world
      → Unanswered (onto (handled_events setup x (TakesPacket v p) world) h) (handled setup x (TakesPacket v p) (with_ring v x ps world))
  taken_unanswered x v p ps h world reached g at a = step_unanswered setup is x (TakesPacket v p) h world reached g a mine others
    where
      es : List Event
      es = handled_events setup x (TakesPacket v p) world

      took : Event
      took = Took x v p.number (kind_of p.line)

      d : Desk
      d = (world.workers x).desk

      untaken : (w u : ℕ) → received u w (onto es h) ≡ received u w (took ∷ h)
      untaken w u = received_same u w (rest setup x (TakesPacket v p) world) (took ∷ h) (rest_untaken setup is x (TakesPacket v p) h world g)

      one_case : (b c : Bool) (xs ys : List AlertLine) → c ≡ false → cond (b && c) xs ys ≡ ys
      one_case true true xs ys e = absurd cc
      one_case true false xs ys e = refl
      one_case false c xs ys e = refl

      others : (w u : ℕ) → (w == x) ≡ false → received u w (onto es h) ≡ received u w h
      others w u other = untaken w u ∙ one_case (u == v) (w == x) (received u w h ++ first_line (pending u w h)) (received u w h) other

      either_weighs : (f : AlertLine → ℕ) (b : Bool) (xs ys : List AlertLine) → weigh f xs ≡ 0 → weigh f ys ≡ 0 → weigh f (cond b (xs ++ ys) xs) ≡ 0
      either_weighs f true xs ys m n = omega (arith, m, n, weigh_append f xs ys)
      either_weighs f false xs ys m n = m

      first_is : (u : ℕ) → (u ≡ v) → first_line (pending u x h) ≡ p.line ∷ []
      first_is u same = ap (λ (z : ℕ). first_line (pending z x h)) same ∙ ap first_line (first_pending setup x v p ps h world g at)

      mine : (u n : ℕ) → 1 ≤ after setup is x (TakesPacket v p) h world reached g a n → weigh (looked n) (received u x (onto es h)) ≡ 0
      mine u n some = ap (weigh (looked n)) (untaken x u) ∙ by (either_less n d.spools.next)
        where
          drawn_once : n < d.spools.next → total (looks_of n) d.spools.shelf ≤ 1
          drawn_once l = let apart = once_awaited setup is h world reached x n in apart

          by : (n < d.spools.next) ⊎ (d.spools.next ≤ n) → weigh (looked n) (cond ((u == v) && (x == x)) (received u x h ++ first_line (pending u x h)) (received u x h)) ≡ 0
          by (inr le) =
              let none = never_pending setup is x (TakesPacket v p) h world reached g a u n le in
              let first = first_weighs (looked n) (pending u x h) in
              either_weighs (looked n) ((u == v) && (x == x)) (received u x h) (first_line (pending u x h)) (never_taken setup is x (TakesPacket v p) h world reached g a u n le) (omega (arith, none, first))
          by (inl drawn) = at_pair (u == v) refl (answer_few x d n v p.line drawn (drawn_once drawn))
            where
              old : weigh (looked n) (received u x h) ≡ 0
              old = before setup is x (TakesPacket v p) h world reached g a u n drawn some

              same : (u == v) ≡ true → u ≡ v
              same e = grind (arith, nat_tests)

              at_pair : (b : Bool) → (u == v) ≡ b → (looked n p.line ≡ 0) ⊎ (after setup is x (TakesPacket v p) h world reached g a n ≤ 0) → weigh (looked n) (cond (b && (x == x)) (received u x h ++ first_line (pending u x h)) (received u x h)) ≡ 0
              at_pair false e few = old
              at_pair true e (inr few) = absurd (omega (arith, few, some))
              at_pair true e (inl none) =
                  let first = ap (weigh (looked n)) (first_is u (same e)) in
                  either_weighs (looked n) (x == x) (received u x h) (first_line (pending u x h)) old (omega (arith, first, none))

  carries_unanswered : (w v : ℕ) (p : Packet) (ps : List Packet) (h : List Event) (world : World) → Unanswered h world → Unanswered h (carried_one w v p ps world)
  carries_unanswered w v p ps h world a x u n some = a x u n (subst (λ (d : Desk). 1 ≤ awaiting n d.spools.shelf) (desk x) some)
    where
      desk : (x : ℕ) → ((carried_one w v p ps world).workers x).desk ≡ (world.workers x).desk
      desk = with_all (λ x (s : WorkerAt). s.desk ≡ (world.workers x).desk) world.workers w (record (world.workers w) { outbox = with_at (world.workers w).outbox v ps }) refl (λ x e. refl)

  awaits_theme : IsWorldTheme setup Unanswered
  awaits_theme = record {
    new = λ w v n some. refl;
    handles = λ w incoming h world reached g here i a. handled_unanswered w incoming h world reached g i a;
    takes = λ w v p ps h world reached g here there at a. taken_unanswered w v p ps h world reached g at a;
    carries = λ w v p ps h world reached g here there at a. carries_unanswered w v p ps h world a;
    pending = λ n h world reached g same a. a;
    quiet = λ h world reached g same a. a;
  }

pub awaited_is_unanswered : AwaitedIsUnanswered
awaited_is_unanswered setup h world is reached = world_theme_holds setup Unanswered is (awaits_theme setup is) h world reached
