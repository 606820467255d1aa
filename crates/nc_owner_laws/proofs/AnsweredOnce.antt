-- Each look is answered once.
use Rattle.std.proofs.Common.{◌≡◌, inl, inr, ℕ, ◌+◌, ◌<◌, ◌≤◌, Bool, true, false, cond, List, [], ◌∷◌, ◌++◌, Option, Some, None, refl, sym, ap, ◌∙◌, subst, arith, length, map}
use Rattle.std.specs.Prelude.{◌==◌}
use Rattle.std.specs.List.{AllByRecursion}
use Rattle.std.proofs.lemmas.Bool.{eqb-true}
use Rattle.nc_types.specs.Id.{Id}
use Rattle.nc_types.specs.Message.{Message}
use Rattle.nc_types.specs.declared.info.Info.{Info}
use Rattle.nc_journal.specs.History.{onto, Along}
use Rattle.nc_journal.specs.declared.event.Event.{Event}
use Rattle.nc_journal.specs.declared.event.Event.TheVariants.{Left, Edged, Joined, Parted, Granted, Looked, Made, Removed}
use Rattle.nc_journal.specs.declared.word.LeftCause.{LeftCause}
use Rattle.nc_journal.specs.declared.word.LeftCause.TheVariants.{Expired, Spent, Length}
use Rattle.nc_journal.specs.declared.alert.AlertLine.{AlertLine}
use Rattle.nc_journal.specs.declared.alert.AlertLine.TheVariants as lines
use Rattle.nc_buffer.specs.declared.entry.Entry.{Entry}
use Rattle.nc_buffer.specs.Buffer.{is_expired, is_spent}
use Rattle.nc_slots.specs.declared.slot.Slot.{Slot}
use Rattle.nc_owner.specs.declared.desk.Desk.{Desk}
use Rattle.nc_owner.specs.declared.member.Member.{Member}
use Rattle.nc_owner.specs.declared.order.Order.{Order}
use Rattle.nc_owner.specs.Members.{has_member}
use Rattle.nc_owner.specs.AlertLines.{OutLine}
use Rattle.nc_owner.specs.State.{OwnerAt, opened, exists, bench_of}
use Rattle.nc_owner.specs.Leave.{left_event, leavers, spend_events}
use Rattle.nc_owner.specs.Poll.{free_slots, freed_event, freed_events}
use Rattle.nc_owner.specs.Publish.{Polls, Outcome, late, full, stored, asked, roomy, leaving, lowest_slot, granted_events, notices, answer, stored_status, info_of, store_bench, stored_event, stamp, post_events, post_alerts, publish_cleared, publish_outcome, publish_events, publish_alerts, cleared_events}
use Rattle.nc_owner.specs.Look.{found_on, looked_event, found_events, found_line, look_ready, look_events, look_alerts}
use Rattle.nc_owner.specs.OtherSteps.{touched_of, touch_events_of, info_alerts, polled_events, parted_events}
use Rattle.nc_owner_laws.specs.Used.{times, bit}
use Rattle.nc_owner_laws.specs.Filters.{new_desk}
use Rattle.nc_owner_laws.specs.Wake.{made_to}
use Rattle.nc_owner_laws.specs.Weave.{weave, makes, numbered}
use Rattle.nc_owner_laws.specs.OwnerStanding.{Stands}
use Rattle.nc_owner_laws.specs.InOrder.{InOrder, next_look, DrawsNext, HasLook, AnswersLook, AnswersAt}
use Rattle.nc_owner_laws.specs.AnsweredOnce.{answer_numbers, IsNewAnswer, AnswersNew, AnsweredOnce, OthersAnswerNew, PublishAnswersNew, RemovalAnswersNew}
use Rattle.nc_owner_laws.specs.Removal.{IsLeft, IsOfRemoval}
use Rattle.nc_owner_laws.proofs.Kept.{all_append}
use Rattle.nc_owner_laws.proofs.InOrder.{looks_law}
use Rattle.nc_owner_laws.proofs.OwnerSteps.{behind}
use Rattle.nc_owner_laws.proofs.Hearing as hearing

answers_append : (q : ℕ) (xs ys : List AlertLine) → times q (answer_numbers (xs ++ ys)) ≡ times q (answer_numbers xs) + times q (answer_numbers ys)
answers_append q [] ys = omega arith
answers_append q (lines.LookAnswer number p floor found g slot ∷ xs) ys = omega (arith, answers_append q xs ys)
answers_append q (x ∷ xs) ys = answers_append q xs ys

-- how often an alert answers a look
abbrev answers : ℕ → AlertLine → ℕ
answers q a = times q (answer_numbers (a ∷ []))

-- ---- answered once

once_more : (b : Bool) (q n : ℕ) (xs : List AlertLine) (a : AlertLine) → times q (answer_numbers xs) ≤ n → times q (answer_numbers xs) + answers q a ≤ n → times q (answer_numbers (cond b (xs ++ a ∷ []) xs)) ≤ n
once_more true q n xs a le more = omega (arith, more, answers_append q xs (a ∷ []))
once_more false q n xs a le more = le

answers_few : (q : ℕ) (l : List Event) (w : ℕ) (a : AlertLine) → IsNewAnswer l a → times q (answer_numbers (made_to w l)) ≤ 1 → times q (answer_numbers (made_to w l)) + answers q a ≤ 1
answers_few q l w (lines.LookAnswer number p floor found g slot) new le = by (p == q) refl
  where
    by : (b : Bool) → (p == q) ≡ b → times q (answer_numbers (made_to w l)) + (bit b + 0) ≤ 1
    by true is = omega (arith, subst (λ n. times n (answer_numbers (made_to w l)) ≡ 0) (eqb-true p q is) (new w))
    by false is = omega (arith, le)
answers_few q l w a new le = omega (arith, le)

pub answered_once : AnsweredOnce
answered_once [] a w q = omega arith
answered_once (Made v to n x ∷ l) a w q = once_more (to == w) q 1 (made_to w l) x (answered_once l a.0 w q) (answers_few q l w x a.1 (answered_once l a.0 w q))
answered_once (e ∷ l) a w q = answered_once l a.0 w q

-- ---- new answers

abbrev IsNoMade : Event → Type 0
IsNoMade (Made v to n a) = ⊥
IsNoMade _ = Unit {0}

look_below : (first : ℕ) (v q u number floor : ℕ) (found : Option Id) (l : List Event) → Along (DrawsNext first) l → HasLook v q u number floor found l → q < next_look first l
look_below first v q u number floor found [] d has = absurd has
look_below first v q u number floor found (Looked w p from n c after f past ∷ l) d (inl is) = omega (arith, is.1)
look_below first v q u number floor found (Looked w p from n c after f past ∷ l) d (inr has) = omega (arith, d.1, look_below first v q u number floor found l d.0 has)
look_below first v q u number floor found (Edged w p from n k c f last ∷ l) d has = omega (arith, d.1, look_below first v q u number floor found l d.0 has)
look_below first v q u number floor found (e ∷ l) d has = look_below first v q u number floor found l d.0 has

-- the next number doesn't fall
next_more : (first : ℕ) (e : Event) (l : List Event) → DrawsNext first l e → next_look first l ≤ next_look first (e ∷ l)
next_more first (Looked w p from n c after f past) l d = omega (arith, d)
next_more first (Edged w p from n k c f last) l d = omega (arith, d)
next_more first e l d = omega arith

answers_none : (first q : ℕ) (l : List Event) (v to : ℕ) (a : AlertLine) → Along (DrawsNext first) l → AnswersLook v to l a → next_look first l ≤ q → answers q a ≡ 0
answers_none first q l v to (lines.LookAnswer number p floor found g slot) d has le = by (p == q) refl
  where
    by : (b : Bool) → (p == q) ≡ b → bit b + 0 ≡ 0
    by true is = absurd (omega (arith, le, eqb-true p q is, look_below first v p to number floor found l d has))
    by false is = refl
answers_none first q l v to a d has le = refl

none_more : (b : Bool) (q : ℕ) (xs : List AlertLine) (a : AlertLine) → times q (answer_numbers xs) ≡ 0 → answers q a ≡ 0 → times q (answer_numbers (cond b (xs ++ a ∷ []) xs)) ≡ 0
none_more true q xs a old new = omega (arith, old, new, answers_append q xs (a ∷ []))
none_more false q xs a old new = old

new_number : (first q : ℕ) (l : List Event) → Along (DrawsNext first) l → Along AnswersAt l → next_look first l ≤ q → (w : ℕ) → times q (answer_numbers (made_to w l)) ≡ 0
new_number first q [] d a le w = refl
new_number first q (Made v to n x ∷ l) d a le w = none_more (to == w) q (made_to w l) x (new_number first q l d.0 a.0 le w) (answers_none first q l v to x d.0 a.1 le)
new_number first q (e ∷ l) d a le w = new_number first q l d.0 a.0 (omega (arith, le, next_more first e l d.1)) w

made_none : (w : ℕ) (e : Event) (l : List Event) → IsNoMade e → made_to w (e ∷ l) ≡ made_to w l
made_none w (Made v to n a) l none = absurd none
made_none w e l none = refl

made_onto : (w : ℕ) (es l : List Event) → AllByRecursion IsNoMade es → made_to w (onto es l) ≡ made_to w l
made_onto w [] l none = refl
made_onto w (e ∷ es) l none = made_onto w es (e ∷ l) none.1 ∙ made_none w e l none.0

-- the answer to a look that draws the next number is new
answer_is_new : (first : ℕ) (es l : List Event) → InOrder first l → AllByRecursion IsNoMade es → (w : ℕ) → times (next_look first l) (answer_numbers (made_to w (onto es l))) ≡ 0
answer_is_new first es l k none w = ap (λ (xs : List AlertLine). times (next_look first l) (answer_numbers xs)) (made_onto w es l none) ∙ new_number first (next_look first l) l k.draws k.answers (omega arith) w

-- ---- steps that answer no look

abbrev IsNoAnswer : AlertLine → Type 0
IsNoAnswer (lines.LookAnswer number q floor past g slot) = ⊥
IsNoAnswer _ = Unit {0}

abbrev IsQuiet : Event → Type 0
IsQuiet (Made v to n a) = IsNoAnswer a
IsQuiet _ = Unit {0}

quiet_answer : (l : List Event) (a : AlertLine) → IsNoAnswer a → IsNewAnswer l a
quiet_answer l (lines.LookAnswer number q floor past g slot) p = absurd p
quiet_answer l a p = tt

quiet_one : (e : Event) (l : List Event) → IsQuiet e → AnswersNew l e
quiet_one (Made v to n a) l p = quiet_answer l a p
quiet_one e l p = tt

quiet_onto : (es h : List Event) → AllByRecursion IsQuiet es → Along AnswersNew h → Along AnswersNew (onto es h)
quiet_onto [] h p a = a
quiet_onto (e ∷ es) h p a = quiet_onto es (e ∷ h) p.1 (a, quiet_one e h p.0)

quiet_makes : (v : ℕ) (next : ℕ → ℕ) (alerts : List OutLine) → AllByRecursion (λ a. IsNoAnswer a.line) alerts → AllByRecursion IsQuiet (makes v next alerts)
quiet_makes v next [] n = tt
quiet_makes v next (a ∷ alerts) n = (n.0, quiet_makes v (numbered next a.to) alerts n.1)

quiet_event : (e : Event) → IsNoMade e → IsQuiet e
quiet_event (Made v to n a) p = absurd p
quiet_event e p = tt

quiet_weave : (v : ℕ) (next : ℕ → ℕ) (es : List Event) (alerts : List OutLine) → AllByRecursion IsNoMade es → AllByRecursion (λ a. IsNoAnswer a.line) alerts → AllByRecursion IsQuiet (weave v next es alerts)
quiet_weave v next [] alerts p n = quiet_makes v next alerts n
quiet_weave v next (Granted w g slot to ∷ es) (a ∷ alerts) p n = (tt, (n.0, quiet_weave v (numbered next a.to) es alerts p.1 n.1))
quiet_weave v next (e ∷ es) alerts p n = (quiet_event e p.0, quiet_weave v next es alerts p.1 n)

quiet_step : (v : ℕ) (next : ℕ → ℕ) (es : List Event) (alerts : List OutLine) (h : List Event) → AllByRecursion IsNoMade es → AllByRecursion (λ a. IsNoAnswer a.line) alerts → Along AnswersNew h → Along AnswersNew (onto (weave v next es alerts) h)
quiet_step v next es alerts h p n a = quiet_onto (weave v next es alerts) h (quiet_weave v next es alerts p n) a

makes_left : (w : ℕ) (c : List ℕ) (cause : LeftCause) (es : List Entry) → AllByRecursion IsNoMade (map (left_event w c cause) es)
makes_left w c cause [] = tt
makes_left w c cause (e ∷ es) = (tt, makes_left w c cause es)

makes_freed : (w : ℕ) (ks : List ℕ) → AllByRecursion IsNoMade (map (freed_event w) ks)
makes_freed w [] = tt
makes_freed w (k ∷ ks) = (tt, makes_freed w ks)

makes_parted : (b : Bool) (w : ℕ) (c : List ℕ) (m : Member) → AllByRecursion IsNoMade (cond b (Parted w c m.from m.k ∷ []) [])
makes_parted true w c m = (tt, tt)
makes_parted false w c m = tt

makes_granted : (w slot g : ℕ) (marks : List ℕ) → AllByRecursion IsNoMade (granted_events w slot g marks)
makes_granted w slot g [] = tt
makes_granted w slot g (to ∷ marks) = (tt, makes_granted w slot (g + 1) marks)

makes_touch : (c : List ℕ) (row : List (Slot Message)) (s : OwnerAt) → AllByRecursion IsNoMade (touch_events_of c row s)
makes_touch c row s = makes_left s.desk.me c Expired (leavers (is_expired s.desk.clock) (bench_of c row s))

info_none : (b : Bool) (r : ℕ) (info : Info) → IsNoAnswer (cond b (lines.InfoAnswer r 200 (Some info)) (lines.InfoAnswer r 404 None))
info_none true r info = tt
info_none false r info = tt

-- ---- a look

found_new : (v : ℕ) (next : ℕ → ℕ) (from number : ℕ) (c : List ℕ) (id : Id) (x : Option Entry) (d : Desk) (h : List Event) → ((w : ℕ) → times d.looks (answer_numbers (made_to w h)) ≡ 0) → Along AnswersNew h
    → Along AnswersNew (onto (weave v next (looked_event from number c id x d ∷ found_events from x d) (found_line from number x d ∷ [])) h)
found_new v next from number c id None d h new a = ((a, tt), new)
found_new v next from number c id (Some e) d h new a = (((a, tt), tt), new)

look_new : (me workers slots first : ℕ) (next : ℕ → ℕ) (row : List (Slot Message)) (h : List Event) (s : OwnerAt) → Stands me workers slots first row h s → InOrder first h → Along AnswersNew h
    → (from number : ℕ) (c : List ℕ) (id : Id) → Along AnswersNew (onto (weave s.desk.me next (look_events from number c id row s) (look_alerts from number c id row s)) h)
look_new me workers slots first next row h s k o a from number c id =
    let b = look_ready c row s in
    let x = found_on id b in
    let spend = spend_events c (touched_of c row s) in
    let front = touch_events_of c row s ++ spend in
    let p : AllByRecursion IsNoMade front = all_append IsNoMade (touch_events_of c row s) spend (makes_touch c row s) (makes_left s.desk.me c Spent (leavers is_spent (touched_of c row s))) in
    let number_is : s.desk.looks ≡ next_look first h = ap (λ (d : Desk). d.looks) k.tells.desk ∙ looks_law (new_desk me workers slots first) h in
    behind (Along AnswersNew) s.desk.me next front (looked_event from number c id x b.desk ∷ found_events from x b.desk) (found_line from number x b.desk ∷ []) h
    (hearing.still_append (touch_events_of c row s) spend (hearing.still_touch c row s) (hearing.still_left s.desk.me c Spent (leavers is_spent (touched_of c row s))))
    (found_new s.desk.me next from number c id x b.desk (onto front h) (λ w. subst (λ n. times n (answer_numbers (made_to w (onto front h))) ≡ 0) (sym number_is) (answer_is_new first front h o p w))
    (quiet_onto front h (quiets front p) a))
  where
    quiets : (es : List Event) → AllByRecursion IsNoMade es → AllByRecursion IsQuiet es
    quiets [] p = tt
    quiets (e ∷ es) p = (quiet_event e p.0, quiets es p.1)

pub others_answer_new : OthersAnswerNew
others_answer_new me workers slots first next row h s k o a = record {
  join = λ m c. quiet_step s.desk.me next (touch_events_of c row s ++ Joined s.desk.me c m.from m.k ∷ []) [] h (all_append IsNoMade (touch_events_of c row s) (Joined s.desk.me c m.from m.k ∷ []) (makes_touch c row s) (tt, tt)) tt a;
  part = λ m c. quiet_step s.desk.me next (touch_events_of c row s ++ parted_events s.desk.me m c (opened c s)) [] h (all_append IsNoMade (touch_events_of c row s) (parted_events s.desk.me m c (opened c s)) (makes_touch c row s) (makes_parted (has_member m (opened c s).members) s.desk.me c m)) tt a;
  info = λ from r c. quiet_step s.desk.me next (touch_events_of c row s) (info_alerts from r c row s) h (makes_touch c row s) (info_none (exists c s) r (info_of (touched_of c row s).channel), tt) a;
  sweep = λ c. quiet_step s.desk.me next (touch_events_of c row s) [] h (makes_touch c row s) tt a;
  look = look_new me workers slots first next row h s k o a;
  clock = λ now. (a, tt);
  polled = λ answers. quiet_step s.desk.me next (polled_events answers s) [] h (makes_freed s.desk.me (free_slots answers)) tt a;
}

-- ---- a publish

notices_none : (c : List ℕ) (id : Id) (slot g : ℕ) (marks : List ℕ) → AllByRecursion (λ a. IsNoAnswer a.line) (notices c id slot g marks)
notices_none c id slot g [] = tt
notices_none c id slot g (to ∷ marks) = (tt, notices_none c id slot (g + 1) marks)

post_makes : (y : Outcome) (from : ℕ) (o : Order) (polls : Polls) (row : List (Slot Message)) (s : OwnerAt) → AllByRecursion IsNoMade (post_events y from o polls (publish_cleared o polls row s))
post_makes late from o polls row s = tt
post_makes (full usage) from o polls row s = tt
post_makes stored from o polls row s =
    let c = o.chan in
    let a = asked polls.leaving (publish_cleared o polls row s) in
    let r = roomy o.length polls.left a in
    all_append IsNoMade (map (left_event s.desk.me c Length) (leaving o.length a) ++ freed_events s.desk.me polls.left) (stored_event from o (stamp r) (lowest_slot r.row) (length (opened c s).members) r.desk ∷ granted_events s.desk.me (lowest_slot r.row) s.desk.grants (opened c s).marks)
    (all_append IsNoMade (map (left_event s.desk.me c Length) (leaving o.length a)) (freed_events s.desk.me polls.left) (makes_left s.desk.me c Length (leaving o.length a)) (makes_freed s.desk.me (free_slots polls.left)))
    (tt, makes_granted s.desk.me (lowest_slot r.row) s.desk.grants (opened c s).marks)

post_none : (y : Outcome) (from : ℕ) (o : Order) (polls : Polls) (row : List (Slot Message)) (s : OwnerAt) → AllByRecursion (λ a. IsNoAnswer a.line) (post_alerts y from o polls (publish_cleared o polls row s))
post_none late from o polls row s = (tt, tt)
post_none (full usage) from o polls row s = (tt, tt)
post_none stored from o polls row s =
    let b = publish_cleared o polls row s in
    let a = asked polls.leaving b in
    let r = roomy o.length polls.left a in
    all_append (λ x. IsNoAnswer x.line) (notices o.chan (stamp a) (lowest_slot r.row) s.desk.grants (opened o.chan s).marks) (answer from o.r (stored_status a.channel) (Some (info_of (store_bench o polls.left a).channel)) None ∷ [])
    (notices_none o.chan (stamp a) (lowest_slot r.row) s.desk.grants (opened o.chan s).marks) (tt, tt)

pub publish_answers_new : PublishAnswersNew
publish_answers_new next from o polls row h s a =
    quiet_step s.desk.me next (publish_events from o polls row s) (publish_alerts from o polls row s) h
    (all_append IsNoMade (cleared_events polls.retired o.chan (bench_of o.chan row s)) (post_events (publish_outcome o polls row s) from o polls (publish_cleared o polls row s))
    (all_append IsNoMade (touch_events_of o.chan row s) (freed_events s.desk.me polls.retired) (makes_touch o.chan row s) (makes_freed s.desk.me (free_slots polls.retired)))
    (post_makes (publish_outcome o polls row s) from o polls row s))
    (post_none (publish_outcome o polls row s) from o polls row s) a

-- ---- a removal

left_made : (es : List Event) → AllByRecursion IsLeft es → AllByRecursion IsNoMade es
left_made [] a = tt
left_made (Left w c id slot cause ∷ es) a = (tt, left_made es a.1)
left_made (e ∷ es) a = absurd a.0

gone_none : (c : List ℕ) (alerts : List OutLine) → AllByRecursion (λ a. IsOfRemoval c a.line) alerts → AllByRecursion (λ a. IsNoAnswer a.line) alerts
gone_none c [] a = tt
gone_none c (x ∷ alerts) a = (one x.line a.0, gone_none c alerts a.1)
  where
    one : (l : AlertLine) → IsOfRemoval c l → IsNoAnswer l
    one (lines.LookAnswer number q floor past g slot) p = absurd p
    one l p = tt

pub removal_answers_new : RemovalAnswersNew
removal_answers_new h v next c last cause lefts alerts left gone a =
    quiet_step v next (lefts ++ Removed v c last cause ∷ []) alerts h (all_append IsNoMade lefts (Removed v c last cause ∷ []) (left_made lefts left) (tt, tt)) (gone_none c alerts gone) a
