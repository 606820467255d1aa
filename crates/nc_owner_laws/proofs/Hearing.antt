-- What a worker heard of its look is what happened to it.
use Rattle.std.proofs.Common.{◌≡◌, ℕ, ◌+◌, Bool, true, false, cond, not, List, [], ◌∷◌, ◌++◌, Option, Some, None, refl, sym, ap, ◌∙◌, subst, length, map}
use Rattle.std.specs.Prelude.{◌&&◌, ◌||◌, ◌==◌, bytes_eq}
use Rattle.std.specs.List.{AllByRecursion}
use Rattle.std.specs.Cmp.Lexicographic.{same_text}
use Rattle.std.proofs.lemmas.Bool.{true≢false, eqb-true}
use Rattle.std.proofs.lemmas.List.{append-nil}
use Rattle.nc_types.specs.Id.{Id}
use Rattle.nc_types.specs.Message.{Message}
use Rattle.nc_types.specs.declared.info.Info.{Info}
use Rattle.nc_journal.specs.History.{onto}
use Rattle.nc_journal.specs.declared.event.Event.{Event}
use Rattle.nc_journal.specs.declared.event.Event.TheVariants.{Stored, Granted, Looked, Joined, Parted, Removed, Made}
use Rattle.nc_journal.specs.declared.word.LeftCause.{LeftCause}
use Rattle.nc_journal.specs.declared.word.LeftCause.TheVariants.{Expired, Spent, Length}
use Rattle.nc_journal.specs.declared.alert.AlertLine.{AlertLine}
use Rattle.nc_journal.specs.declared.alert.AlertLine.TheVariants as lines
use Rattle.nc_buffer.specs.declared.entry.Entry.{Entry}
use Rattle.nc_buffer.specs.Buffer.{is_expired, is_spent}
use Rattle.nc_slots.specs.declared.slot.Slot.{Slot}
use Rattle.nc_owner.specs.declared.desk.Desk.{Desk}
use Rattle.nc_owner.specs.declared.member.Member.{Member}
use Rattle.nc_owner.specs.declared.order.Order.{Order}
use Rattle.nc_owner.specs.Ascending.{has_number}
use Rattle.nc_owner.specs.Members.{has_member}
use Rattle.nc_owner.specs.AlertLines.{OutLine}
use Rattle.nc_owner.specs.State.{OwnerAt, found, opened, exists, bench_of}
use Rattle.nc_owner.specs.Leave.{left_event, leavers, touch_events, spend_events}
use Rattle.nc_owner.specs.Poll.{free_slots, freed_event, freed_events}
use Rattle.nc_owner.specs.Publish.{Polls, Outcome, late, full, stored, asked, roomy, leaving, lowest_slot, granted_events, notices, answer, info_of, stored_status, store_bench, stored_event, stamp, post_events, post_alerts, publish_cleared, publish_outcome, cleared_events}
use Rattle.nc_owner.specs.Look.{found_on, looked_event, found_events, found_line, look_ready}
use Rattle.nc_owner.specs.OtherSteps.{touched_of, touch_events_of, info_line}
use Rattle.nc_owner_laws.specs.OwnerTold.{HistoryTells}
use Rattle.nc_owner_laws.specs.Filters.{new_desk, is_marked, marks_in}
use Rattle.nc_owner_laws.specs.Weave.{weave, numbered}
use Rattle.nc_owner_laws.specs.Wake.{Wake, NotYet, Waiting, ByNotice, ByGone, woken, wake, hear, hears, made_to, IsOnlyAt, Wakes, NewWakes, LookWakes, PublishWakes, OthersWake}
use Rattle.nc_owner_laws.proofs.Used.{eqb_turn}
use Rattle.nc_owner_laws.proofs.Filtering.{made_marks, marks_law}
use Rattle.nc_owner_laws.proofs.Stamping.{onto_append}
use Rattle.nc_owner_laws.proofs.Weaving.{GrantsNot, weave_first}

-- ---- what was heard, event by event

abbrev pub heard : ℕ → List ℕ → ℕ → List Event → Wake
heard w c q [] = NotYet
heard w c q (Made v to n a ∷ h) = cond (to == w) (hear c q (heard w c q h) a) (heard w c q h)
heard w c q (e ∷ h) = heard w c q h

pub hears_append : (c : List ℕ) (q : ℕ) (s : Wake) (xs ys : List AlertLine) → hears c q s (xs ++ ys) ≡ hears c q (hears c q s xs) ys
hears_append c q s [] ys = refl
hears_append c q s (x ∷ xs) ys = hears_append c q (hear c q s x) xs ys

made_heard : (b : Bool) (c : List ℕ) (q : ℕ) (l : List AlertLine) (a : AlertLine) (s : Wake) → hears c q NotYet l ≡ s → hears c q NotYet (cond b (l ++ a ∷ []) l) ≡ cond b (hear c q s a) s
made_heard true c q l a s e = hears_append c q NotYet l (a ∷ []) ∙ ap (λ t. hear c q t a) e
made_heard false c q l a s e = e

pub hears_is : (w : ℕ) (c : List ℕ) (q : ℕ) (h : List Event) → hears c q NotYet (made_to w h) ≡ heard w c q h
hears_is w c q [] = refl
hears_is w c q (Made v to n a ∷ h) = made_heard (to == w) c q (made_to w h) a (heard w c q h) (hears_is w c q h)
hears_is w c q (e ∷ h) = hears_is w c q h

pub record Heard (h : List Event) : Type 0 where
  pub same : (w : ℕ) (c : List ℕ) (q : ℕ) → IsOnlyAt c q h → heard w c q h ≡ wake w c q h
  pub waits : (w : ℕ) (c : List ℕ) (q : ℕ) → wake w c q h ≡ Waiting → is_marked c w h ≡ true

pub heard_of : (h : List Event) → Wakes h → Heard h
heard_of h k = record { same = λ w c q o. sym (hears_is w c q h) ∙ k.same w c q o; waits = k.waits }

pub wakes_of : (h : List Event) → Heard h → Wakes h
wakes_of h k = record { same = λ w c q o. hears_is w c q h ∙ k.same w c q o; waits = k.waits }

-- ---- events that wake nobody

abbrev pub WakesNobody : Event → Type 0
WakesNobody (Stored w c id slot len exp kept members from r ct body) = ⊥
WakesNobody (Looked w q from number c after floor past) = ⊥
WakesNobody (Removed w c last cause) = ⊥
WakesNobody (Made v to n a) = ⊥
WakesNobody _ = Unit {0}

still_one : (e : Event) (h : List Event) → WakesNobody e → Heard h → Heard (e ∷ h)
still_one (Stored w c id slot len exp kept members from r ct body) h n k = absurd n
still_one (Looked w q from number c after floor past) h n k = absurd n
still_one (Removed w c last cause) h n k = absurd n
still_one (Made v to j a) h n k = absurd n
still_one e h n k = record { same = k.same; waits = k.waits }

pub still_onto : (es h : List Event) → AllByRecursion WakesNobody es → Heard h → Heard (onto es h)
still_onto [] h n k = k
still_onto (e ∷ es) h n k = still_onto es (e ∷ h) n.1 (still_one e h n.0 k)

still_marked : (c : List ℕ) (u : ℕ) (e : Event) (h : List Event) → WakesNobody e → is_marked c u (e ∷ h) ≡ is_marked c u h
still_marked c u (Stored w d id slot len exp kept members from r ct body) h n = absurd n
still_marked c u (Looked w q from number d after floor past) h n = absurd n
still_marked c u (Removed w d last cause) h n = absurd n
still_marked c u (Made v to j a) h n = absurd n
still_marked c u e h n = refl

pub onto_marked : (c : List ℕ) (u : ℕ) (es h : List Event) → AllByRecursion WakesNobody es → is_marked c u (onto es h) ≡ is_marked c u h
onto_marked c u [] h n = refl
onto_marked c u (e ∷ es) h n = onto_marked c u es (e ∷ h) n.1 ∙ still_marked c u e h n.0

-- neither wakes anybody nor grants a hold
abbrev pub IsStill : Event → Type 0
IsStill e = WakesNobody e × GrantsNot e

pub stills : (es : List Event) → AllByRecursion IsStill es → AllByRecursion WakesNobody es × AllByRecursion GrantsNot es
stills [] a = (tt, tt)
stills (e ∷ es) a = let r = stills es a.1 in ((a.0.0, r.0), (a.0.1, r.1))

pub still_append : (xs ys : List Event) → AllByRecursion IsStill xs → AllByRecursion IsStill ys → AllByRecursion IsStill (xs ++ ys)
still_append [] ys a b = b
still_append (x ∷ xs) ys a b = (a.0, still_append xs ys a.1 b)

pub still_left : (w : ℕ) (c : List ℕ) (cause : LeftCause) (es : List Entry) → AllByRecursion IsStill (map (left_event w c cause) es)
still_left w c cause [] = tt
still_left w c cause (e ∷ es) = ((tt, tt), still_left w c cause es)

pub still_freed : (w : ℕ) (ks : List ℕ) → AllByRecursion IsStill (map (freed_event w) ks)
still_freed w [] = tt
still_freed w (k ∷ ks) = ((tt, tt), still_freed w ks)

pub still_parted : (b : Bool) (w : ℕ) (c : List ℕ) (m : Member) → AllByRecursion IsStill (cond b (Parted w c m.from m.k ∷ []) [])
still_parted true w c m = ((tt, tt), tt)
still_parted false w c m = tt

-- ---- alerts that wake nobody

cond_both_same : (b : Bool) (s t : Wake) → t ≡ s → cond b t s ≡ s
cond_both_same true s t e = e
cond_both_same false s t e = refl

silent_one : (v to n : ℕ) (a : AlertLine) (h : List Event) → ((c : List ℕ) (q : ℕ) (s : Wake) → hear c q s a ≡ s) → Heard h → Heard (Made v to n a ∷ h)
silent_one v to n a h silent k = record { same = λ w c q o. cond_both_same (to == w) (heard w c q h) (hear c q (heard w c q h) a) (silent c q (heard w c q h)) ∙ k.same w c q o; waits = k.waits }

-- a front of still events, and then one silent alert
still_then : (v : ℕ) (next : ℕ → ℕ) (es h : List Event) (out : OutLine) → AllByRecursion IsStill es → ((c : List ℕ) (q : ℕ) (s : Wake) → hear c q s out.line ≡ s) → Heard h → Heard (onto (weave v next es (out ∷ [])) h)
still_then v next es h out a silent k =
    let r = stills es a in
    let woven : weave v next es (out ∷ []) ≡ es ++ Made v out.to (next out.to) out.line ∷ [] = ap (λ l. weave v next l (out ∷ [])) (sym (append-nil es)) ∙ weave_first v next es [] (out ∷ []) r.1 in
    subst (λ (l : List Event). Heard (onto l h)) (sym woven)
    (subst Heard (sym (onto_append es (Made v out.to (next out.to) out.line ∷ []) h)) (silent_one v out.to (next out.to) out.line (onto es h) silent (still_onto es h r.0 k)))

still_alone : (v : ℕ) (next : ℕ → ℕ) (es h : List Event) → AllByRecursion IsStill es → Heard h → Heard (onto (weave v next es []) h)
still_alone v next es h a k =
    let r = stills es a in
    let woven : weave v next es [] ≡ es = ap (λ l. weave v next l []) (sym (append-nil es)) ∙ weave_first v next es [] [] r.1 ∙ append-nil es in
    subst (λ (l : List Event). Heard (onto l h)) (sym woven) (still_onto es h r.0 k)

-- ---- a look

none_same : (a b n : Bool) (s t : Wake) → (a ≡ true → n ≡ true) → s ≡ t → cond b (cond a Waiting s) s ≡ cond (a && (b && n)) Waiting t
none_same true true true s t f e = refl
none_same true true false s t f e = absurd (true≢false (sym (f refl)))
none_same true false n s t f e = e
none_same false true n s t f e = e
none_same false false n s t f e = e

none_waits : (a b n m : Bool) (t : Wake) → (t ≡ Waiting → m ≡ true) → cond (a && (b && n)) Waiting t ≡ Waiting → ((n && b) || m) ≡ true
none_waits true true true m t f e = refl
none_waits true true false m t f e = f e
none_waits true false n m t f e = or_last (n && false) m (f e)
  where
    or_last : (x y : Bool) → y ≡ true → (x || y) ≡ true
    or_last true y e = refl
    or_last false y e = e
none_waits false b n m t f e = or_last (n && b) m (f e)
  where
    or_last : (x y : Bool) → y ≡ true → (x || y) ≡ true
    or_last true y e = refl
    or_last false y e = e

look_none : (v v' p from number k floor floor' : ℕ) (c : List ℕ) (after : Id) (h : List Event) → Heard h → Heard (Made v from k (lines.LookAnswer number p floor None None None) ∷ Looked v' p from number c after floor' None ∷ h)
look_none v v' p from number k floor floor' c after h g = record {
  same = λ w d q o. none_same (p == q) (from == w) (bytes_eq c d) (heard w d q h) (wake w d q h) (λ e. o.0 (eqb-true p q e)) (g.same w d q o.1);
  waits = λ w d q e. ap (λ b. (bytes_eq c d && b) || is_marked d w h) (eqb_turn w from) ∙ none_waits (p == q) (from == w) (bytes_eq c d) (is_marked d w h) (wake w d q h) (g.waits w d q) e;
}

look_some : (v v' v'' p from number k floor floor' g slot g' slot' : ℕ) (c : List ℕ) (after id id' : Id) (h : List Event) → Heard h → Heard (Made v from k (lines.LookAnswer number p floor (Some id) (Some g) (Some slot)) ∷ Granted v'' g' slot' from ∷ Looked v' p from number c after floor' (Some id') ∷ h)
look_some v v' v'' p from number k floor floor' g slot g' slot' c after id id' h t = record {
  same = λ w d q o. cond_both_same (from == w) (heard w d q h) (heard w d q h) refl ∙ t.same w d q o.1;
  waits = t.waits;
}

found_wakes : (v : ℕ) (next : ℕ → ℕ) (from number : ℕ) (c : List ℕ) (id : Id) (x : Option Entry) (d : Desk) (h : List Event) → Heard h → Heard (onto (weave v next (looked_event from number c id x d ∷ found_events from x d) (found_line from number x d ∷ [])) h)
found_wakes v next from number c id None d h k = look_none v d.me d.looks from number (next from) d.floor d.floor c id h k
found_wakes v next from number c id (Some e) d h k = look_some v d.me d.me d.looks from number (next from) d.floor d.floor d.grants e.slot d.grants e.slot c id e.id e.id h k

pub look_wakes : LookWakes
look_wakes h next from number c id row s k =
    let b = look_ready c row s in
    let x = found_on id b in
    let front = touch_events c (bench_of c row s) ++ spend_events c (touched_of c row s) in
    let last = looked_event from number c id x b.desk ∷ found_events from x b.desk in
    let still : AllByRecursion IsStill front = still_append (touch_events c (bench_of c row s)) (spend_events c (touched_of c row s)) (still_left s.desk.me c Expired (leavers (is_expired s.desk.clock) (bench_of c row s))) (still_left s.desk.me c Spent (leavers is_spent (touched_of c row s))) in
    let r = stills front still in
    wakes_of _ (subst (λ (l : List Event). Heard (onto l h)) (sym (weave_first s.desk.me next front last (found_line from number x b.desk ∷ []) r.1))
    (subst Heard (sym (onto_append front (weave s.desk.me next last (found_line from number x b.desk ∷ [])) h)) (found_wakes s.desk.me next from number c id x b.desk (onto front h) (still_onto front h r.0 (heard_of h k)))))

-- ---- the steps that wake nobody

pub still_touch : (c : List ℕ) (row : List (Slot Message)) (s : OwnerAt) → AllByRecursion IsStill (touch_events_of c row s)
still_touch c row s = still_left s.desk.me c Expired (leavers (is_expired s.desk.clock) (bench_of c row s))

info_silent : (from r : ℕ) (b : Bool) (info : Info) (c : List ℕ) (q : ℕ) (s : Wake) → hear c q s (cond b (lines.InfoAnswer r 200 (Some info)) (lines.InfoAnswer r 404 None)) ≡ s
info_silent from r true info c q s = refl
info_silent from r false info c q s = refl

pub others_wake : OthersWake
others_wake h next c row s k =
    let g = heard_of h k in
    record {
      join = λ m. wakes_of _ (still_alone s.desk.me next (touch_events_of c row s ++ Joined s.desk.me c m.from m.k ∷ []) h (still_append (touch_events_of c row s) (Joined s.desk.me c m.from m.k ∷ []) (still_touch c row s) ((tt, tt), tt)) g);
      part = λ m. wakes_of _ (still_alone s.desk.me next _ h (still_append (touch_events_of c row s) _ (still_touch c row s) (still_parted (has_member m (opened c s).members) s.desk.me c m)) g);
      info = λ from r. wakes_of _ (still_then s.desk.me next (touch_events_of c row s) h (info_line from r c row s) (still_touch c row s) (info_silent from r (exists c s) (info_of (touched_of c row s).channel)) g);
      polled = λ answers. wakes_of _ (still_alone s.desk.me next (freed_events s.desk.me answers) h (still_freed s.desk.me (free_slots answers)) g);
    }

-- a sweep tells nobody
pub sweep_wakes : (h : List Event) (next : ℕ → ℕ) (c : List ℕ) (row : List (Slot Message)) (s : OwnerAt) → Wakes h → Wakes (onto (weave s.desk.me next (touch_events_of c row s) []) h)
sweep_wakes h next c row s k = wakes_of _ (still_alone s.desk.me next (touch_events_of c row s) h (still_touch c row s) (heard_of h k))

pub new_wakes : NewWakes
new_wakes = record { same = λ w c q o. refl; waits = λ w c q e. cc }

-- ---- a publish

woken_idle : (by s : Wake) → (s ≡ Waiting → ⊥) → woken by s ≡ s
woken_idle by NotYet n = refl
woken_idle by Waiting n = absurd (n refl)
woken_idle by (ByNotice id) n = refl
woken_idle by ByGone n = refl

woken_twice : (id : Id) (s : Wake) → woken (ByNotice id) (woken (ByNotice id) s) ≡ woken (ByNotice id) s
woken_twice id NotYet = refl
woken_twice id Waiting = refl
woken_twice id (ByNotice other) = refl
woken_twice id ByGone = refl

woken_wakes : (id : Id) (s : Wake) → woken (ByNotice id) s ≡ Waiting → ⊥
woken_wakes id NotYet e = cc
woken_wakes id Waiting e = cc
woken_wakes id (ByNotice other) e = cc
woken_wakes id ByGone e = cc

-- the notices that are woven with their grants, and an answer that wakes nobody
abbrev pub told_events : ℕ → ℕ → (ℕ → ℕ) → List ℕ → Id → ℕ → ℕ → List ℕ → OutLine → List Event
told_events v v' next c id slot g marks out = weave v next (granted_events v' slot g marks) (notices c id slot g marks ++ out ∷ [])

noticed : (here more n : Bool) (id : Id) (s : Wake) → cond (more && n) (woken (ByNotice id) (cond here (cond n (woken (ByNotice id) s) s) s)) (cond here (cond n (woken (ByNotice id) s) s) s) ≡ cond ((here || more) && n) (woken (ByNotice id) s) s
noticed true true true id s = woken_twice id s
noticed true true false id s = refl
noticed true false true id s = refl
noticed true false false id s = refl
noticed false true true id s = refl
noticed false true false id s = refl
noticed false false n id s = refl

told_heard : (v v' : ℕ) (next : ℕ → ℕ) (c : List ℕ) (id : Id) (slot g : ℕ) (marks : List ℕ) (out : OutLine) (h : List Event) (w : ℕ) (d : List ℕ) (q : ℕ) → ((c : List ℕ) (q : ℕ) (s : Wake) → hear c q s out.line ≡ s)
    → heard w d q (onto (told_events v v' next c id slot g marks out) h) ≡ cond (has_number w marks && bytes_eq c d) (woken (ByNotice id) (heard w d q h)) (heard w d q h)
told_heard v v' next c id slot g [] out h w d q silent = cond_both_same (out.to == w) (heard w d q h) (hear d q (heard w d q h) out.line) (silent d q (heard w d q h))
told_heard v v' next c id slot g (to ∷ marks) out h w d q silent =
    told_heard v v' (numbered next to) c id slot (g + 1) marks out (Made v to (next to) (lines.Notice c id g slot) ∷ Granted v' g slot to ∷ h) w d q silent
    ∙ noticed (to == w) (has_number w marks) (bytes_eq c d) id (heard w d q h)
    ∙ ap (λ b. cond ((b || has_number w marks) && bytes_eq c d) (woken (ByNotice id) (heard w d q h)) (heard w d q h)) (eqb_turn to w)

told_wake : (v v' : ℕ) (next : ℕ → ℕ) (c : List ℕ) (id : Id) (slot g : ℕ) (marks : List ℕ) (out : OutLine) (h : List Event) (w : ℕ) (d : List ℕ) (q : ℕ) → wake w d q (onto (told_events v v' next c id slot g marks out) h) ≡ wake w d q h
told_wake v v' next c id slot g [] out h w d q = refl
told_wake v v' next c id slot g (to ∷ marks) out h w d q = told_wake v v' (numbered next to) c id slot (g + 1) marks out (Made v to (next to) (lines.Notice c id g slot) ∷ Granted v' g slot to ∷ h) w d q

told_marked : (v v' : ℕ) (next : ℕ → ℕ) (c : List ℕ) (id : Id) (slot g : ℕ) (marks : List ℕ) (out : OutLine) (h : List Event) (w : ℕ) (d : List ℕ) → is_marked d w (onto (told_events v v' next c id slot g marks out) h) ≡ is_marked d w h
told_marked v v' next c id slot g [] out h w d = refl
told_marked v v' next c id slot g (to ∷ marks) out h w d = told_marked v v' (numbered next to) c id slot (g + 1) marks out (Made v to (next to) (lines.Notice c id g slot) ∷ Granted v' g slot to ∷ h) w d

told_only : (v v' : ℕ) (next : ℕ → ℕ) (c : List ℕ) (id : Id) (slot g : ℕ) (marks : List ℕ) (out : OutLine) (h : List Event) (d : List ℕ) (q : ℕ) → IsOnlyAt d q (onto (told_events v v' next c id slot g marks out) h) → IsOnlyAt d q h
told_only v v' next c id slot g [] out h d q o = o
told_only v v' next c id slot g (to ∷ marks) out h d q o = told_only v v' (numbered next to) c id slot (g + 1) marks out (Made v to (next to) (lines.Notice c id g slot) ∷ Granted v' g slot to ∷ h) d q o

-- whoever waits there is marked, and is told
stored_same : (has n : Bool) (id : Id) (s t : Wake) → s ≡ t → (n ≡ true → has ≡ false → t ≡ Waiting → ⊥) → cond (has && n) (woken (ByNotice id) s) s ≡ cond n (woken (ByNotice id) t) t
stored_same true true id s t e f = ap (woken (ByNotice id)) e
stored_same true false id s t e f = e
stored_same false true id s t e f = e ∙ sym (woken_idle (ByNotice id) t (f refl refl))
stored_same false false id s t e f = e

stored_waits : (n m : Bool) (id : Id) (t : Wake) → (t ≡ Waiting → m ≡ true) → cond n (woken (ByNotice id) t) t ≡ Waiting → (not n && m) ≡ true
stored_waits true m id t f e = absurd (woken_wakes id t e)
stored_waits false m id t f e = f e

stored_wakes : (v v' v'' : ℕ) (next : ℕ → ℕ) (c : List ℕ) (id : Id) (slot len exp : ℕ) (kept : Bool) (members from r : ℕ) (ct : Option (List ℕ)) (body : List ℕ) (g : ℕ) (marks : List ℕ) (out : OutLine) (h : List Event)
    → ((c : List ℕ) (q : ℕ) (s : Wake) → hear c q s out.line ≡ s) → ((w : ℕ) → has_number w marks ≡ is_marked c w h) → Heard h
    → Heard (onto (told_events v v' next c id slot g marks out) (Stored v'' c id slot len exp kept members from r ct body ∷ h))
stored_wakes v v' v'' next c id slot len exp kept members from r ct body g marks out h silent are k =
    let h1 = Stored v'' c id slot len exp kept members from r ct body ∷ h in
    let not_waits = λ (w : ℕ) (d : List ℕ) (q : ℕ) (n : bytes_eq c d ≡ true) (unmarked : has_number w marks ≡ false) (e : wake w d q h ≡ Waiting).
    true≢false (sym (subst (λ (x : List ℕ). is_marked x w h ≡ true) (sym (same_text c d (sym n))) (k.waits w d q e)) ∙ sym (are w) ∙ unmarked) in
    record {
      same = λ w d q o.
          told_heard v v' next c id slot g marks out h1 w d q silent
          ∙ stored_same (has_number w marks) (bytes_eq c d) id (heard w d q h) (wake w d q h) (k.same w d q (told_only v v' next c id slot g marks out h1 d q o)) (not_waits w d q)
          ∙ sym (told_wake v v' next c id slot g marks out h1 w d q);
      waits = λ w d q e.
          told_marked v v' next c id slot g marks out h1 w d
          ∙ stored_waits (bytes_eq c d) (is_marked d w h) id (wake w d q h) (k.waits w d q) (sym (told_wake v v' next c id slot g marks out h1 w d q) ∙ e);
    }

-- the marks of a channel are those of the history
marks_are : (me workers slots first : ℕ) (h : List Event) (c : List ℕ) (s : OwnerAt) → HistoryTells (new_desk me workers slots first) h s → (w : ℕ) → has_number w (opened c s).marks ≡ is_marked c w h
marks_are me workers slots first h c s t w =
    ap (has_number w) (made_marks (found c s) s.desk.spent) ∙ ap (λ o. has_number w (marks_in o)) (t.channels c) ∙ marks_law (new_desk me workers slots first) c w h

post_wakes : (y : Outcome) (me workers slots first : ℕ) (h : List Event) (next : ℕ → ℕ) (from : ℕ) (o : Order) (row : List (Slot Message)) (s : OwnerAt) (polls : Polls) → HistoryTells (new_desk me workers slots first) h s → Heard h
    → Heard (onto (weave s.desk.me next (cleared_events polls.retired o.chan (bench_of o.chan row s) ++ post_events y from o polls (publish_cleared o polls row s)) (post_alerts y from o polls (publish_cleared o polls row s))) h)
post_wakes late me workers slots first h next from o row s polls t k =
    still_then s.desk.me next _ h (answer from o.r 503 None None) (still_append (cleared_events polls.retired o.chan (bench_of o.chan row s)) [] (still_append (touch_events_of o.chan row s) _ (still_touch o.chan row s) (still_freed s.desk.me (free_slots polls.retired))) tt) (λ c q x. refl) k
post_wakes (full usage) me workers slots first h next from o row s polls t k =
    still_then s.desk.me next _ h (answer from o.r 507 None (Some usage)) (still_append (cleared_events polls.retired o.chan (bench_of o.chan row s)) [] (still_append (touch_events_of o.chan row s) _ (still_touch o.chan row s) (still_freed s.desk.me (free_slots polls.retired))) tt) (λ c q x. refl) k
post_wakes stored me workers slots first h next from o row s polls t k =
    let c = o.chan in
    let b = publish_cleared o polls row s in
    let a = asked polls.leaving b in
    let r = roomy o.length polls.left a in
    let slot = lowest_slot r.row in
    let marks = (opened c s).marks in
    let clear = cleared_events polls.retired c (bench_of c row s) in
    let room = map (left_event s.desk.me c Length) (leaving o.length a) ++ freed_events s.desk.me polls.left in
    let e = stored_event from o (stamp r) slot (length (opened c s).members) r.desk in
    let out = answer from o.r (stored_status b.channel) (Some (info_of (store_bench o polls.left a).channel)) None in
    let alerts = notices c (stamp r) slot s.desk.grants marks ++ out ∷ [] in
    let rest = e ∷ granted_events s.desk.me slot s.desk.grants marks in
    let still1 : AllByRecursion IsStill clear = still_append (touch_events_of c row s) _ (still_touch c row s) (still_freed s.desk.me (free_slots polls.retired)) in
    let still2 : AllByRecursion IsStill room = still_append (map (left_event s.desk.me c Length) (leaving o.length a)) _ (still_left s.desk.me c Length (leaving o.length a)) (still_freed s.desk.me (free_slots polls.left)) in
    let r1 = stills clear still1 in
    let r2 = stills room still2 in
    let h2 = onto room (onto clear h) in
    let woven : weave s.desk.me next (clear ++ (room ++ rest)) alerts ≡ clear ++ (room ++ weave s.desk.me next rest alerts) =
    weave_first s.desk.me next clear (room ++ rest) alerts r1.1 ∙ ap (λ (l : List Event). clear ++ l) (weave_first s.desk.me next room rest alerts r2.1) in
    let history : onto (clear ++ (room ++ weave s.desk.me next rest alerts)) h ≡ onto (weave s.desk.me next rest alerts) h2 =
    onto_append clear (room ++ weave s.desk.me next rest alerts) h ∙ onto_append room (weave s.desk.me next rest alerts) (onto clear h) in
    subst (λ (l : List Event). Heard (onto l h)) (sym woven) (subst Heard (sym history)
    (stored_wakes s.desk.me s.desk.me s.desk.me next c (stamp r) slot o.length _ _ _ from o.r o.content_type o.body s.desk.grants marks out h2 (λ d q x. refl)
    (λ w. marks_are me workers slots first h c s t w ∙ sym (onto_marked c w clear h r1.0) ∙ sym (onto_marked c w room (onto clear h) r2.0))
    (still_onto room (onto clear h) r2.0 (still_onto clear h r1.0 k))))

pub publish_wakes : PublishWakes
publish_wakes me workers slots first h next from o row s polls t k = wakes_of _ (post_wakes (publish_outcome o polls row s) me workers slots first h next from o row s polls t (heard_of h k))
