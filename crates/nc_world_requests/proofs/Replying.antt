-- What a worker does for itself with what comes: it asks, and what it waited for is answered.
use Rattle.std.proofs.Common.{◌≡◌, ℕ, ◌+◌, Bool, true, false, cond, not, List, [], ◌∷◌, ◌++◌, Option, None, refl, sym, ap, ◌∙◌, subst, arith, map, filter}
use Rattle.std.specs.Prelude.{◌==◌, ◌&&◌, ◌||◌}
use Rattle.std.proofs.lemmas.Bool.Decides.{nat_tests}
use Rattle.nc_types.specs.Channel.{owner_of}
use Rattle.nc_types.specs.declared.info.Info.{Info}
use Rattle.nc_journal.specs.declared.event.Event.TheVariants.{Answered}
use Rattle.nc_journal.specs.declared.word.EndedCause.{EndedCause}
use Rattle.nc_journal.specs.declared.word.EndedCause.TheVariants as causes
use Rattle.nc_journal.specs.declared.alert.AlertLine.{AlertLine}
use Rattle.nc_journal.specs.declared.alert.AlertLine.TheVariants as lines
use Rattle.nc_owner_laws.specs.Weave.{numbered}
use Rattle.nc_spool_state.specs.declared.kept.Held.{Held}
use Rattle.nc_spool.specs.declared.ask.Ask.{Ask}
use Rattle.nc_spool.specs.declared.ask.Ask.TheVariants as spool_asks
use Rattle.nc_spool.specs.declared.fact.Fact.{Fact}
use Rattle.nc_spool.specs.declared.fact.Fact.TheVariants as facts
use Rattle.nc_spool.specs.Calls.{arrive_facts, answer_facts, edge_facts, notice_facts, gone_facts}
use Rattle.nc_spool_state.specs.Kept.{is_idle}
use Rattle.nc_worker_state.specs.Setup.{Setup}
use Rattle.nc_worker_state.specs.Incoming.{Incoming, TakesPacket, ClockReads, Reaps, Posts, Subscribes, Removes, Informs}
use Rattle.nc_worker_state.specs.Deed.{Deed, Does, Makes, told}
use Rattle.nc_worker_state.specs.Spooled.{Hold, facts_deeds, ask_line, found_in, found_by, release, releases}
use Rattle.nc_worker_state.specs.Desk.{Desk, Served, is_waiting, without, replied, handled, begun, served}
use Rattle.nc_world_laws.proofs.Local.{eqb_self, eq_of}
use Rattle.nc_world_holds.specs.Balance.{one_if}
use Rattle.nc_world_holds.proofs.Counting.{count}
use Rattle.nc_world_requests.specs.Requests.{answers_under, asking, answering, occurs}
use Rattle.nc_world_requests.proofs.Weighing.{deeds_for, deeds_append}

-- ---- numbers among some

-- a number that is among some waits there
waiting_one : (n : ℕ) (xs : List ℕ) → occurs n xs ≡ 1 → is_waiting n xs ≡ true
waiting_one n [] e = absurd cc
waiting_one n (x ∷ xs) e = by (x == n) e (waiting_one n xs)
  where
    by : (b : Bool) → cond b (occurs n xs + 1) (occurs n xs) ≡ 1 → (occurs n xs ≡ 1 → is_waiting n xs ≡ true) → (b || is_waiting n xs) ≡ true
    by true k go = refl
    by false k go = go k

keep_case : (b d : Bool) (x r : ℕ) (xs ys : List ℕ) → (x == r) ≡ d → (b ≡ true → d ≡ false) → occurs r ys ≡ occurs r xs → occurs r (cond (not b) (x ∷ ys) ys) ≡ cond d (occurs r xs + 1) (occurs r xs)
keep_case true true x r xs ys i f e = let z = f refl in absurd cc
keep_case true false x r xs ys i f e = e
keep_case false d x r xs ys i f e = ap (λ b. cond b (occurs r ys + 1) (occurs r ys)) i ∙ ap (λ k. cond d (k + 1) k) e

-- without a number the others are as often there
others_stay : (n r : ℕ) (xs : List ℕ) → (n == r) ≡ false → occurs r (without n xs) ≡ occurs r xs
others_stay n r [] d = refl
others_stay n r (x ∷ xs) d = keep_case (x == n) (x == r) x r xs (without n xs) refl (λ i. apart x n r i d) (others_stay n r xs d)
  where
    apart : (a b c : ℕ) → (a == b) ≡ true → (b == c) ≡ false → (a == c) ≡ false
    apart a b c i e = grind (arith, nat_tests)

-- and it is no more
none_left : (n : ℕ) (xs : List ℕ) → occurs n (without n xs) ≡ 0
none_left n [] = refl
none_left n (x ∷ xs) = by (x == n) refl (none_left n xs)
  where
    by : (b : Bool) → (x == n) ≡ b → occurs n (without n xs) ≡ 0 → occurs n (cond (not b) (x ∷ without n xs) (without n xs)) ≡ 0
    by true i e = e
    by false i e = ap (λ b. cond b (occurs n (without n xs) + 1) (occurs n (without n xs))) i ∙ e

one_gone : (n r : ℕ) (xs : List ℕ) → occurs n xs ≡ 1 → occurs r (without n xs) + one_if (n == r) ≡ occurs r xs
one_gone n r xs e = by (n == r) refl
  where
    same : n ≡ r → occurs r (without n xs) + 1 ≡ occurs r xs
    same is = subst (λ z. occurs z (without n xs) + 1 ≡ occurs z xs) is (omega (arith, none_left n xs, e))

    by : (b : Bool) → (n == r) ≡ b → occurs r (without n xs) + one_if b ≡ occurs r xs
    by true i = same (eq_of n r i)
    by false i = omega (arith, others_stay n r xs i)

-- ---- deeds

module _ (me r : ℕ) where
  -- how often the worker answers the number
  abbrev pub answers_in : List Deed → ℕ
  answers_in [] = 0
  answers_in (Does e ∷ deeds) = cond (answers_under me r e) (answers_in deeds + 1) (answers_in deeds)
  answers_in (Makes to a ∷ deeds) = answers_in deeds

  answers_append : (xs ys : List Deed) → answers_in (xs ++ ys) ≡ answers_in xs + answers_in ys
  answers_append [] ys = omega arith
  answers_append (Does e ∷ xs) ys = by (answers_under me r e) (answers_append xs ys)
    where
      by : (b : Bool) → answers_in (xs ++ ys) ≡ answers_in xs + answers_in ys → cond b (answers_in (xs ++ ys) + 1) (answers_in (xs ++ ys)) ≡ cond b (answers_in xs + 1) (answers_in xs) + answers_in ys
      by true e = omega (arith, e)
      by false e = e
  answers_append (Makes to a ∷ xs) ys = answers_append xs ys

  pub told_answers : (next : ℕ → ℕ) (deeds : List Deed) → count (answers_under me r) (told me next deeds) ≡ answers_in deeds
  told_answers next [] = refl
  told_answers next (Does e ∷ deeds) = ap (λ n. cond (answers_under me r e) (n + 1) n) (told_answers next deeds)
  told_answers next (Makes to a ∷ deeds) = told_answers (numbered next to) deeds

  released_none : (holds : List (Held Hold)) → answers_in (map (release me) holds) ≡ 0
  released_none [] = refl
  released_none (h ∷ holds) = released_none holds

  facts_none : (cause : EndedCause) (fs : List Fact) → answers_in (facts_deeds me cause fs) ≡ 0
  facts_none cause [] = refl
  facts_none cause (facts.Out o ∷ fs) = facts_none cause fs
  facts_none cause (facts.Started k cursor ∷ fs) = facts_none cause fs
  facts_none cause (facts.Sent s ∷ fs) = facts_none cause fs
  facts_none cause (facts.Ended k deleted ∷ fs) = facts_none cause fs

  -- ---- what is asked for a worker

  module _ (x : ℕ) where
    abbrev Asks : List Deed → ℕ
    Asks deeds = deeds_for (asking r) x deeds

    ask_none : (a : Ask) → asking r (ask_line a) ≡ 0
    ask_none (spool_asks.Look number c after fence) = refl
    ask_none (spool_asks.Edge number k c fence) = refl
    ask_none (spool_asks.Join c k) = refl
    ask_none (spool_asks.Part c k) = refl

    none_if : (b : Bool) (n m : ℕ) → n ≡ 0 → m ≡ 0 → cond b n 0 + m ≡ 0
    none_if true n m e f = omega (arith, e, f)
    none_if false n m e f = omega (arith, f)

    facts_ask : (cause : EndedCause) (fs : List Fact) → Asks (facts_deeds me cause fs) ≡ 0
    facts_ask cause [] = refl
    facts_ask cause (facts.Out o ∷ fs) = none_if (x == o.to) (asking r (ask_line o.ask)) _ (ask_none o.ask) (facts_ask cause fs)
    facts_ask cause (facts.Started k cursor ∷ fs) = facts_ask cause fs
    facts_ask cause (facts.Sent s ∷ fs) = facts_ask cause fs
    facts_ask cause (facts.Ended k deleted ∷ fs) = facts_ask cause fs

    released_ask : (holds : List (Held Hold)) → Asks (map (release me) holds) ≡ 0
    released_ask [] = refl
    released_ask (h ∷ holds) = released_ask holds

  -- ---- what comes of it

  -- so much more is waited for, and so much less, as it was answered; and alerts ask that from one worker
  pub record Effect (gain loss aim more : ℕ) (d : Desk) (s : Served) : Type 0 where
    pub waits : occurs r s.after.waiting + loss ≡ occurs r d.waiting + gain
    pub answers : answers_in s.deeds ≡ loss
    pub asks : (x : ℕ) → deeds_for (asking r) x s.deeds ≡ cond (x == aim) gain 0
    pub draws : s.after.requests ≡ d.requests + more

  cond_none : (b : Bool) → cond {A = ℕ} b 0 0 ≡ 0
  cond_none true = refl
  cond_none false = refl

  no_effect : (d : Desk) (s : Served) → s.after.waiting ≡ d.waiting → s.after.requests ≡ d.requests → answers_in s.deeds ≡ 0 → ((x : ℕ) → deeds_for (asking r) x s.deeds ≡ 0) → Effect 0 0 0 0 d s
  no_effect d s same next none unasked = record {
    waits = ap (λ (l : List ℕ). occurs r l + 0) same;
    answers = none;
    asks = λ x. unasked x ∙ sym (cond_none (x == 0));
    draws = omega (arith, next);
  }

  reply : ℕ → ℕ → Option Info → List Deed
  reply n status info = Does (Answered me n None status info false false) ∷ []

  replied_effect : (n status : ℕ) (info : Option Info) (d : Desk) → occurs n d.waiting ≡ 1 → Effect 0 (one_if (n == r)) 0 0 d (replied me n status info d)
  replied_effect n status info d one = chosen (is_waiting n d.waiting) (waiting_one n d.waiting one)
    where
      both : (b c : Bool) → b ≡ true → cond {A = ℕ} (b && c) 1 0 ≡ one_if c
      both true true i = refl
      both true false i = refl
      both false c i = absurd cc

      chosen : (b : Bool) → b ≡ true → Effect 0 (one_if (n == r)) 0 0 d (cond b (record { deeds = Does (Answered me n None status info false false) ∷ []; after = record d { waiting = without n d.waiting } }) (record { deeds = []; after = d }))
      chosen true i = record {
        waits = omega (arith, one_gone n r d.waiting one);
        answers = both (me == me) (n == r) (eqb_self me);
        asks = λ x. sym (cond_none (x == 0));
        draws = omega arith;
      }
      chosen false i = absurd cc

  -- what answers a number answers one that waits
  abbrev pub IsAwaited : AlertLine → Desk → Type 0
  IsAwaited (lines.PubAnswer n status info usage) d = occurs n d.waiting ≡ 1
  IsAwaited (lines.DelAnswer n status info) d = occurs n d.waiting ≡ 1
  IsAwaited (lines.InfoAnswer n status info) d = occurs n d.waiting ≡ 1
  IsAwaited line d = Unit {0}

  handled_effect : (from : ℕ) (line : AlertLine) (d : Desk) → IsAwaited line d → Effect 0 (answering r line) 0 0 d (handled me from line d)
  handled_effect from (lines.PubAnswer n status info usage) d one = replied_effect n status info d one
  handled_effect from (lines.InfoAnswer n status info) d one = replied_effect n status info d one
  handled_effect from (lines.DelAnswer n status info) d one = replied_effect n status info d one
  handled_effect from (lines.LookAnswer number q floor found g slot) d one = let fs = answer_facts number q floor (found_in from found g slot) d.spools in no_effect d _ refl refl (facts_none causes.Answered fs) (λ x. facts_ask x causes.Answered fs)
  handled_effect from (lines.Notice c id g slot) d one = let fs = notice_facts c (found_by from id g slot) d.spools in no_effect d _ refl refl (facts_none causes.Answered fs) (λ x. facts_ask x causes.Answered fs)
  handled_effect from (lines.EdgeAnswer number q floor last) d one = let fs = edge_facts number floor last d.spools in no_effect d _ refl refl (facts_none causes.Answered fs) (λ x. facts_ask x causes.Answered fs)
  handled_effect from (lines.Gone c subs) d one = let fs = gone_facts c subs d.spools in no_effect d _ refl refl (facts_none causes.Deleted fs) (λ x. facts_ask x causes.Deleted fs)
  handled_effect from (lines.Publish n c len timeout ct body) d one = no_effect d _ refl refl refl (λ x. refl)
  handled_effect from (lines.Look number c after fence) d one = no_effect d _ refl refl refl (λ x. refl)
  handled_effect from (lines.Edge number k c fence) d one = no_effect d _ refl refl refl (λ x. refl)
  handled_effect from (lines.Join c k) d one = no_effect d _ refl refl refl (λ x. refl)
  handled_effect from (lines.Part c k) d one = no_effect d _ refl refl refl (λ x. refl)
  handled_effect from (lines.Delete n c) d one = no_effect d _ refl refl refl (λ x. refl)
  handled_effect from (lines.Info n c) d one = no_effect d _ refl refl refl (λ x. refl)

  module _ (setup : Setup) where
    -- what an input adds, takes away, and whom it asks
    abbrev pub gain : Incoming → Desk → ℕ
    gain (Posts c body) d = one_if (d.requests == r)
    gain (Removes c) d = one_if (d.requests == r)
    gain (Informs c) d = one_if (d.requests == r)
    gain incoming d = 0

    abbrev pub loss : Incoming → ℕ
    loss (TakesPacket from p) = answering r p.line
    loss incoming = 0

    abbrev pub aim : Incoming → ℕ
    aim (Posts c body) = owner_of setup.workers c
    aim (Removes c) = owner_of setup.workers c
    aim (Informs c) = owner_of setup.workers c
    aim incoming = 0

    abbrev pub more : Incoming → ℕ
    more (Posts c body) = 1
    more (Removes c) = 1
    more (Informs c) = 1
    more incoming = 0

    abbrev pub AwaitsIt : Incoming → Desk → Type 0
    AwaitsIt (TakesPacket from p) d = IsAwaited p.line d
    AwaitsIt incoming d = Unit {0}

    waits_one : (b : Bool) (n : ℕ) → cond b (n + 1) n + 0 ≡ n + one_if b
    waits_one true n = omega arith
    waits_one false n = omega arith

    last_one : (b : Bool) (n : ℕ) → cond b n 0 + 0 ≡ cond b n 0
    last_one true n = omega arith
    last_one false n = refl

    begun_effect : (incoming : Incoming) (d : Desk) → AwaitsIt incoming d → Effect (gain incoming d) (loss incoming) (aim incoming) (more incoming) d (begun setup me incoming d)
    begun_effect (TakesPacket from p) d one = handled_effect from p.line d one
    begun_effect (ClockReads t) d one = no_effect d _ refl refl refl (λ x. refl)
    begun_effect Reaps d one = no_effect d _ refl refl refl (λ x. refl)
    begun_effect (Posts c body) d one = record {
      waits = waits_one (d.requests == r) (occurs r d.waiting);
      answers = refl;
      asks = λ x. last_one (x == owner_of setup.workers c) (one_if (d.requests == r));
      draws = refl;
    }
    begun_effect (Subscribes k list start) d one = let fs = arrive_facts k list start true d.spools in no_effect d _ refl refl (facts_none causes.Answered fs) (λ x. facts_ask x causes.Answered fs)
    begun_effect (Removes c) d one = record {
      waits = waits_one (d.requests == r) (occurs r d.waiting);
      answers = refl;
      asks = λ x. last_one (x == owner_of setup.workers c) (one_if (d.requests == r));
      draws = refl;
    }
    begun_effect (Informs c) d one = record {
      waits = waits_one (d.requests == r) (occurs r d.waiting);
      answers = refl;
      asks = λ x. last_one (x == owner_of setup.workers c) (one_if (d.requests == r));
      draws = refl;
    }

    -- and the releases change nothing of it
    pub served_effect : (incoming : Incoming) (d : Desk) → AwaitsIt incoming d → Effect (gain incoming d) (loss incoming) (aim incoming) (more incoming) d (served setup me incoming d)
    served_effect incoming d one =
        let s = begun setup me incoming d in
        let e = begun_effect incoming d one in
        let idle = filter (is_idle s.after.spools.shelf) s.after.spools.kept in
        record {
          waits = e.waits;
          answers = omega (arith, answers_append s.deeds (releases me s.after.spools), released_none idle, e.answers);
          asks = λ x. omega (arith, deeds_append (asking r) x s.deeds (releases me s.after.spools), released_ask x idle, e.asks x);
          draws = e.draws;
        }
