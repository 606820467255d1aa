-- How many alerts of a kind a worker's step makes for each worker.
use Rattle.std.proofs.Common.{◌≡◌, ℕ, ◌+◌, Bool, true, false, cond, List, [], ◌∷◌, ◌++◌, Option, Some, None, refl, ap, ◌∙◌, arith}
use Rattle.std.specs.Prelude.{◌==◌}
use Rattle.std.specs.List.{AllByRecursion}
use Rattle.std.proofs.lemmas.Bool.Decides.{nat_tests}
use Rattle.nc_types.specs.Id.{Id}
use Rattle.nc_types.specs.declared.info.Info.{Info}
use Rattle.nc_journal.specs.declared.event.Event.{Event}
use Rattle.nc_journal.specs.declared.event.Event.TheVariants.{Granted, Made}
use Rattle.nc_journal.specs.declared.alert.AlertLine.{AlertLine}
use Rattle.nc_journal.specs.declared.alert.AlertLine.TheVariants as lines
use Rattle.nc_buffer.specs.declared.entry.Entry.{Entry}
use Rattle.nc_owner.specs.declared.desk.Desk.{Desk as OwnerDesk}
use Rattle.nc_owner.specs.declared.order.Order.{Order}
use Rattle.nc_owner.specs.AlertLines.{OutLine}
use Rattle.nc_owner.specs.State.{OwnerAt, Bench, exists}
use Rattle.nc_owner.specs.Publish.{Polls, Outcome, late, full, stored, notices, answer, asked, roomy, stamp, lowest_slot, stored_status, info_of, store_bench, post_alerts, publish_outcome, publish_cleared}
use Rattle.nc_owner.specs.Look.{found_on, found_line, look_ready}
use Rattle.nc_owner.specs.Edge.{edge_line}
use Rattle.nc_owner.specs.Remove.{alerts_of_removal, delete_answer, delete_line}
use Rattle.nc_owner.specs.OtherSteps.{touched_of, touch_after}
use Rattle.nc_reaper.specs.Reap.{Step}
use Rattle.nc_owner_laws.specs.Kinds.{IsOfOwner}
use Rattle.nc_owner_laws.specs.Reaping.{steps_woven, next_behind}
use Rattle.nc_owner_laws.specs.Sweeping.{AllEvents, AllAlerts, IsLoss}
use Rattle.nc_owner_laws.specs.Weave.{weave, makes, numbered, numbered_by}
use Rattle.nc_owner_laws.proofs.Sweeping.{told_so}
use Rattle.nc_history.specs.Packets.{Packet, packet}
use Rattle.nc_worker_state.specs.Deed.{Deed, Does, Makes, told}
use Rattle.nc_worker_state.specs.Owned.{Holding, Owned, OwnersPart, at_once, order_of, fenced, owned_by}
use Rattle.nc_worker_state.specs.Worker.{sent_to, part_woven}
use Rattle.nc_world_laws.proofs.WorkerKinds.{AsksOwner, AreDeeds}
use Rattle.nc_world_laws.proofs.Local.{all_of}
use Rattle.nc_world_laws.proofs.Telling.{PartEvents}
use Rattle.nc_world_holds.specs.Balance.{one_if}
use Rattle.nc_world_requests.specs.Requests.{asking, answering, among}

pub turned : (a b : ℕ) → (a == b) ≡ (b == a)
turned a b = grind (arith, nat_tests)

module _ (f : AlertLine → ℕ) where
  pub among_append : (ps qs : List Packet) → among f (ps ++ qs) ≡ among f ps + among f qs
  among_append [] qs = omega arith
  among_append (p ∷ ps) qs = omega (arith, among_append ps qs)

  pub among_cond : (b : Bool) (ps : List Packet) → among f (cond b ps []) ≡ cond b (among f ps) 0
  among_cond true ps = refl
  among_cond false ps = refl

  -- ---- what is made for a worker

  module _ (x : ℕ) where
    abbrev pub made_for : List Event → ℕ
    made_for [] = 0
    made_for (Made v to n a ∷ es) = cond (x == to) (f a) 0 + made_for es
    made_for (e ∷ es) = made_for es

    abbrev pub out_for : List OutLine → ℕ
    out_for [] = 0
    out_for (a ∷ alerts) = cond (x == a.to) (f a.line) 0 + out_for alerts

    abbrev pub deeds_for : List Deed → ℕ
    deeds_for [] = 0
    deeds_for (Does e ∷ deeds) = deeds_for deeds
    deeds_for (Makes to a ∷ deeds) = cond (x == to) (f a) 0 + deeds_for deeds

    pub sent_among : (es : List Event) → among f (sent_to x es) ≡ made_for es
    sent_among [] = refl
    sent_among (Made v to n a ∷ es) = by (x == to) (sent_among es)
      where
        by : (b : Bool) → among f (sent_to x es) ≡ made_for es → among f (cond b (packet n a ∷ sent_to x es) (sent_to x es)) ≡ cond b (f a) 0 + made_for es
        by true e = omega (arith, e)
        by false e = omega (arith, e)
    sent_among (e ∷ es) = sent_among es

    pub made_append : (es fs : List Event) → made_for (es ++ fs) ≡ made_for es + made_for fs
    made_append [] fs = omega arith
    made_append (Made v to n a ∷ es) fs = omega (arith, made_append es fs)
    made_append (e ∷ es) fs = made_append es fs

    pub out_append : (xs ys : List OutLine) → out_for (xs ++ ys) ≡ out_for xs + out_for ys
    out_append [] ys = omega arith
    out_append (a ∷ xs) ys = omega (arith, out_append xs ys)

    pub deeds_append : (xs ys : List Deed) → deeds_for (xs ++ ys) ≡ deeds_for xs + deeds_for ys
    deeds_append [] ys = omega arith
    deeds_append (Does e ∷ xs) ys = deeds_append xs ys
    deeds_append (Makes to a ∷ xs) ys = omega (arith, deeds_append xs ys)

    makes_out : (w : ℕ) (next : ℕ → ℕ) (alerts : List OutLine) → made_for (makes w next alerts) ≡ out_for alerts
    makes_out w next [] = refl
    makes_out w next (a ∷ alerts) = omega (arith, makes_out w (numbered next a.to) alerts)

    pub weave_out : (w v : ℕ) (next : ℕ → ℕ) (es : List Event) (alerts : List OutLine) → AllByRecursion (IsOfOwner v) es → made_for (weave w next es alerts) ≡ out_for alerts
    weave_out w v next [] alerts of = makes_out w next alerts
    weave_out w v next (Granted u g slot to ∷ es) [] of = weave_out w v next es [] of.1
    weave_out w v next (Granted u g slot to ∷ es) (a ∷ alerts) of = omega (arith, weave_out w v (numbered next a.to) es alerts of.1)
    weave_out w v next (Made u to n a ∷ es) alerts of = absurd of.0
    weave_out w v next (e ∷ es) alerts of = weave_out w v next es alerts of.1

    -- what the alerts of some steps are, and those of an owner's part
    abbrev pub steps_for : List Step → ℕ
    steps_for [] = 0
    steps_for (s ∷ steps) = out_for s.alerts + steps_for steps

    abbrev pub part_for : OwnersPart → ℕ
    part_for p = steps_for p.sweeps + out_for p.last.alerts

    steps_out : (w v : ℕ) (next : ℕ → ℕ) (steps : List Step) → AllEvents (IsOfOwner v) steps → made_for (steps_woven w next steps) ≡ steps_for steps
    steps_out w v next [] of = refl
    steps_out w v next (s ∷ steps) of = omega (
      arith,
      made_append (weave w next s.events s.alerts) (steps_woven w (numbered_by next s.alerts) steps),
      weave_out w v next s.events s.alerts of.0,
      steps_out w v (numbered_by next s.alerts) steps of.1,
    )

    pub part_out : (w v : ℕ) (next : ℕ → ℕ) (p : OwnersPart) → PartEvents (IsOfOwner v) p → made_for (part_woven w next p) ≡ part_for p
    part_out w v next p of = omega (
      arith,
      made_append (steps_woven w next p.sweeps) (weave w (next_behind next p.sweeps) p.last.events p.last.alerts),
      steps_out w v next p.sweeps of.0,
      weave_out w v (next_behind next p.sweeps) p.last.events p.last.alerts of.1,
    )

    pub told_out : (workers w : ℕ) (next : ℕ → ℕ) (deeds : List Deed) → AreDeeds workers w deeds → made_for (told w next deeds) ≡ deeds_for deeds
    told_out workers w next [] d = refl
    told_out workers w next (Does (Made v to n a) ∷ deeds) d = absurd d.0
    told_out workers w next (Does e ∷ deeds) d = told_out workers w next deeds d.1
    told_out workers w next (Makes to a ∷ deeds) d = omega (arith, told_out workers w (numbered next to) deeds d.1)

-- ---- who asks an owner answers nothing

asks_none : (r workers to : ℕ) (a : AlertLine) → AsksOwner workers to a → answering r a ≡ 0
asks_none r workers to (lines.PubAnswer n status info usage) k = absurd k
asks_none r workers to (lines.DelAnswer n status info) k = absurd k
asks_none r workers to (lines.InfoAnswer n status info) k = absurd k
asks_none r workers to a k = refl

none_if : (b : Bool) (n m : ℕ) → n ≡ 0 → m ≡ 0 → cond b n 0 + m ≡ 0
none_if true n m e f = omega (arith, e, f)
none_if false n m e f = omega (arith, f)

pub deeds_answer_none : (r x workers w : ℕ) (deeds : List Deed) → AreDeeds workers w deeds → deeds_for (answering r) x deeds ≡ 0
deeds_answer_none r x workers w [] d = refl
deeds_answer_none r x workers w (Does e ∷ deeds) d = deeds_answer_none r x workers w deeds d.1
deeds_answer_none r x workers w (Makes to a ∷ deeds) d = none_if (x == to) (answering r a) _ (asks_none r workers to a d.0) (deeds_answer_none r x workers w deeds d.1)

-- ---- what an owner makes

module _ (r x : ℕ) where
  abbrev Answers : List OutLine → ℕ
  Answers alerts = out_for (answering r) x alerts

  abbrev Asks : List OutLine → ℕ
  Asks alerts = out_for (asking r) x alerts

  -- the answers are these, and nothing is asked
  pub record AnswersSo (n : ℕ) (alerts : List OutLine) : Type 0 where
    pub answered : Answers alerts ≡ n
    pub unasked : Asks alerts ≡ 0

  -- so in an owner's part
  pub record PartAnswers (n : ℕ) (p : OwnersPart) : Type 0 where
    pub part_answered : part_for (answering r) x p ≡ n
    pub part_unasked : part_for (asking r) x p ≡ 0

  pub sole_answers : (n : ℕ) (o : Owned) → AnswersSo n o.alerts → PartAnswers n (at_once o)
  sole_answers n o k = record { part_answered = omega (arith, k.answered); part_unasked = omega (arith, k.unasked) }

  last_one : (b : Bool) (n : ℕ) → cond b n 0 + 0 ≡ cond b n 0
  last_one true n = omega arith
  last_one false n = refl

  last_none : (b : Bool) → cond {A = ℕ} b 0 0 + 0 ≡ 0
  last_none true = refl
  last_none false = refl

  told_none : (b : Bool) (m : ℕ) → m ≡ 0 → cond {A = ℕ} b 0 0 + m ≡ 0
  told_none true m e = omega (arith, e)
  told_none false m e = omega (arith, e)

  notices_none : (c : List ℕ) (id : Id) (slot g : ℕ) (marks : List ℕ) → AnswersSo 0 (notices c id slot g marks)
  notices_none c id slot g [] = record { answered = refl; unasked = refl }
  notices_none c id slot g (to ∷ marks) =
      let k = notices_none c id slot (g + 1) marks in
      record { answered = told_none (x == to) _ k.answered; unasked = told_none (x == to) _ k.unasked }

  one_answer : (from n : ℕ) (a : OutLine) → a.to ≡ from → answering r a.line ≡ one_if (n == r) → asking r a.line ≡ 0 → AnswersSo (cond (x == from) (one_if (n == r)) 0) (a ∷ [])
  one_answer from n a to e f = record {
    answered = ap (λ (z : ℕ × ℕ). cond (x == z.0) z.1 0 + 0) (λ i. (to i, e i)) ∙ last_one (x == from) (one_if (n == r));
    unasked = ap (λ z. cond (x == a.to) z 0 + 0) f ∙ last_none (x == a.to);
  }

  post_answers : (out : Outcome) (from : ℕ) (o : Order) (polls : Polls) (b : Bench) → AnswersSo (cond (x == from) (one_if (o.r == r)) 0) (post_alerts out from o polls b)
  post_answers late from o polls b = one_answer from o.r (answer from o.r 503 None None) refl refl refl
  post_answers (full usage) from o polls b = one_answer from o.r (answer from o.r 507 None (Some usage)) refl refl refl
  post_answers stored from o polls b =
      let c = asked polls.leaving b in
      let t = roomy o.length polls.left c in
      let info = Some (info_of (store_bench o polls.left c).channel) in
      let told = notices o.chan (stamp c) (lowest_slot t.row) c.desk.grants c.channel.marks in
      let last = answer from o.r (stored_status c.channel) info None in
      let k = notices_none o.chan (stamp c) (lowest_slot t.row) c.desk.grants c.channel.marks in
      let one = one_answer from o.r last refl refl refl in
      record {
        answered = omega (arith, out_append (answering r) x told (last ∷ []), k.answered, one.answered);
        unasked = omega (arith, out_append (asking r) x told (last ∷ []), k.unasked, one.unasked);
      }

  none_made : (b : Bool) (alerts : List OutLine) → AnswersSo 0 alerts → AnswersSo (cond b 0 0) alerts
  none_made true alerts k = k
  none_made false alerts k = k

  found_none : (from number : ℕ) (entry : Option Entry) (d : OwnerDesk) → AnswersSo 0 (found_line from number entry d ∷ [])
  found_none from number None d = record { answered = last_none (x == from); unasked = last_none (x == from) }
  found_none from number (Some e) d = record { answered = last_none (x == from); unasked = last_none (x == from) }

  edge_none : (from number : ℕ) (c : List ℕ) (s : OwnerAt) → AnswersSo 0 (edge_line from number c s ∷ [])
  edge_none from number c s = record { answered = last_none (x == from); unasked = last_none (x == from) }

  -- alerts that answer and ask nothing
  abbrev IsSilent : OutLine → Type 0
  IsSilent a = (answering r a.line ≡ 0) × (asking r a.line ≡ 0)

  silent_loss : (workers me to : ℕ) (line : AlertLine) → IsLoss workers me line → IsSilent (record { to = to; line = line })
  silent_loss workers me to (lines.Gone c subs) loss = (refl, refl)
  silent_loss workers me to line loss = absurd loss

  silent_none : (alerts : List OutLine) → AllByRecursion IsSilent alerts → AnswersSo 0 alerts
  silent_none [] silent = record { answered = refl; unasked = refl }
  silent_none (a ∷ alerts) silent =
      let k = silent_none alerts silent.1 in
      record { answered = none_if (x == a.to) _ _ silent.0.0 k.answered; unasked = none_if (x == a.to) _ _ silent.0.1 k.unasked }

  -- so the sweeps of a reap are
  silent_steps : (workers me : ℕ) (steps : List Step) → AllAlerts (λ a. IsLoss workers me a.line) steps → (steps_for (answering r) x steps ≡ 0) × (steps_for (asking r) x steps ≡ 0)
  silent_steps workers me [] loss = (refl, refl)
  silent_steps workers me (s ∷ steps) loss =
      let k = silent_none s.alerts (all_of (λ a. IsLoss workers me a.line) IsSilent (λ a is. silent_loss workers me a.to a.line is) s.alerts loss.0) in
      let more = silent_steps workers me steps loss.1 in
      (omega (arith, k.answered, more.0), omega (arith, k.unasked, more.1))

  pub reap_answers : (workers me : ℕ) (p : OwnersPart) → AllAlerts (λ a. IsLoss workers me a.line) p.sweeps → p.last.alerts ≡ [] → PartAnswers 0 p
  reap_answers workers me p loss none =
      let k = silent_steps workers me p.sweeps loss in
      record { part_answered = omega (arith, k.0, ap Answers none); part_unasked = omega (arith, k.1, ap Asks none) }

  delete_answers : (b : Bool) (from n : ℕ) (info : Option Info) → AnswersSo (cond (x == from) (one_if (n == r)) 0) (cond b (delete_answer from n 200 info) (delete_answer from n 404 None) ∷ [])
  delete_answers true from n info = one_answer from n (delete_answer from n 200 info) refl refl refl
  delete_answers false from n info = one_answer from n (delete_answer from n 404 None) refl refl refl

  info_answers : (b : Bool) (n : ℕ) (info : Option Info) → (answering r (cond b (lines.InfoAnswer n 200 info) (lines.InfoAnswer n 404 None)) ≡ one_if (n == r)) × (asking r (cond b (lines.InfoAnswer n 200 info) (lines.InfoAnswer n 404 None)) ≡ 0)
  info_answers true n info = (refl, refl)
  info_answers false n info = (refl, refl)

  nothing : AnswersSo 0 []
  nothing = record { answered = refl; unasked = refl }

  -- an owner answers a request to who asked it, once, and nothing else
  pub owner_answers : (polls : Polls) (from : ℕ) (line : AlertLine) (s : Holding) → AnswersSo (cond (x == from) (asking r line) 0) (owned_by polls from line s).alerts
  owner_answers polls from (lines.Publish n c len timeout ct body) s = let o = order_of n c len timeout ct body in post_answers (publish_outcome o polls s.row s.owner) from o polls (publish_cleared o polls s.row s.owner)
  owner_answers polls from (lines.Info n c) s =
      let info = Some (info_of (touched_of c s.row s.owner).channel) in
      let k = info_answers (exists c s.owner) n info in
      one_answer from n _ refl k.0 k.1
  owner_answers polls from (lines.Look number c after fence) s = let b = look_ready c s.row (fenced fence s).owner in none_made (x == from) _ (found_none from number (found_on after b) b.desk)
  owner_answers polls from (lines.Join c k) s = none_made (x == from) [] nothing
  owner_answers polls from (lines.Part c k) s = none_made (x == from) [] nothing
  owner_answers polls from (lines.PubAnswer n status info usage) s = none_made (x == from) [] nothing
  owner_answers polls from (lines.LookAnswer number q floor found g slot) s = none_made (x == from) [] nothing
  owner_answers polls from (lines.Notice c id g slot) s = none_made (x == from) [] nothing
  owner_answers polls from (lines.Edge number k c fence) s = none_made (x == from) _ (edge_none from number c (touch_after c s.row (fenced fence s).owner))
  owner_answers polls from (lines.EdgeAnswer number q floor last) s = none_made (x == from) [] nothing
  owner_answers polls from (lines.Delete n c) s =
      let t = touch_after c s.row s.owner in
      let told = alerts_of_removal (exists c s.owner) c t in
      let last = delete_line from n c s.row s.owner in
      let k = silent_none told (told_so IsSilent c (λ members to. (refl, refl)) (exists c s.owner) t) in
      let one = delete_answers (exists c s.owner) from n (Some (info_of (touched_of c s.row s.owner).channel)) in
      record {
        answered = omega (arith, out_append (answering r) x told (last ∷ []), k.answered, one.answered);
        unasked = omega (arith, out_append (asking r) x told (last ∷ []), k.unasked, one.unasked);
      }
  owner_answers polls from (lines.DelAnswer n status info) s = none_made (x == from) [] nothing
  owner_answers polls from (lines.Gone c subs) s = none_made (x == from) [] nothing
  owner_answers polls from (lines.InfoAnswer n status info) s = none_made (x == from) [] nothing
