-- Entries leave a bench one by one.
use Rattle.std.proofs.Common.{◌≡◌, ◌-◌, ◌<◌, ℕ, zero, suc, Bool, true, false, List, [], ◌∷◌, ◌++◌, refl, sym, ap, ◌∙◌, subst, length, take, drop, map, filter, find, Some, None, cond, arith, append_assoc, le_refl, take_all}
use Rattle.std.proofs.lemmas.List.{append-nil}
use Rattle.std.specs.Prelude.{fold}
use Rattle.nc_types.specs.Message.{Message}
use Rattle.nc_journal.specs.declared.event.Event.{Event}
use Rattle.nc_journal.specs.declared.word.LeftCause.{LeftCause}
use Rattle.nc_buffer.specs.declared.entry.Entry.{Entry}
use Rattle.nc_buffer.specs.Buffer.{without_first, oldest, without_oldest}
use Rattle.nc_buffer.proofs.BufferLaws.{takes-one}
use Rattle.nc_slots.specs.declared.slot.Slot.{Slot}
use Rattle.nc_owner.specs.declared.channel.Channel.{Channel}
use Rattle.nc_owner.specs.declared.desk.Desk.{Desk}
use Rattle.nc_owner.specs.Backlog.{BacklogAt}
use Rattle.nc_owner.specs.State.{Bench, bench_from, with_entries}
use Rattle.nc_owner.specs.Leave.{left_event, left_desk, left_row, left_by, let_go, shed}

sub_suc : (a n : ℕ) → a - suc n ≡ (a - 1) - n
sub_suc a n = omega arith

left_cons : (d : Desk) (e : Entry) (es : List Entry) → left_by (e ∷ es) d ≡ left_by es (left_desk d e)
left_cons d e es = ap (λ (n : ℕ). record (left_by (e ∷ es) d) { buffered = n }) (sub_suc d.buffered (length es))

minus_none : (a : ℕ) → a - 0 ≡ a
minus_none a = omega arith

left_none : (d : Desk) → left_by [] d ≡ d
left_none d = ap (λ (n : ℕ). record d { buffered = n }) (minus_none d.buffered)

none_leaves : (test : Entry → Bool) (es : List Entry) → find test es ≡ None → filter test es ≡ []
none_leaves test [] h = refl
none_leaves test (e ∷ es) h = by (test e) h (none_leaves test es)
  where
    by : (b : Bool) → cond b (Some e) (find test es) ≡ None → (find test es ≡ None → filter test es ≡ []) → cond b (e ∷ filter test es) (filter test es) ≡ []
    by true none rest = absurd cc
    by false none rest = rest none

-- one entry has left, and the backlog is this
abbrev pub left_one : Entry → BacklogAt → Desk → List (Slot Message) → Channel → Bench
left_one e rest d row ch = record { desk = left_desk d e; row = left_row row e; channel = record ch { backlog = rest } }

abbrev pub with_rest : List Entry → BacklogAt → BacklogAt
with_rest es b = record b { entries = es }

one_go : (test : Entry → Bool) (e : Entry) (d : Desk) (row : List (Slot Message)) (ch : Channel) → find test ch.backlog.entries ≡ Some e
    → let_go test (left_one e (with_rest (without_first test ch.backlog.entries) ch.backlog) d row ch) ≡ let_go test (bench_from d row ch)
one_go test e d row ch is =
    let es = ch.backlog.entries in
    let rest = without_first test es in
    let split : e ∷ filter test rest ≡ filter test es = sym ((takes-one test es).in_order e is) in
    λ i. record {
      desk = (sym (left_cons d e (filter test rest)) ∙ ap (λ (l : List Entry). left_by l d) split) i;
      row = (ap (λ (l : List Entry). fold left_row row l) split) i;
      channel = with_entries ((takes-one test es).others_stay i) ch;
    }

-- an entry that passes the test has left: the others that pass are still to leave
pub let_go-one : (test : Entry → Bool) (me : ℕ) (before after : ℕ → List (Slot Message)) (e : Entry) (rest : BacklogAt) (d d2 : Desk) (ch : Channel)
    → d.me ≡ me → Some e ≡ find test ch.backlog.entries → rest ≡ with_rest (without_first test ch.backlog.entries) ch.backlog → d2 ≡ left_desk d e → after d.me ≡ left_row (before d.me) e
    → let_go test (bench_from d2 (after me) (record ch { backlog = rest })) ≡ let_go test (bench_from d (before me) ch)
let_go-one test me before after e rest d d2 ch is_me is kept desk row =
    subst (λ (m : ℕ). let_go test (bench_from d2 (after m) (record ch { backlog = rest })) ≡ let_go test (bench_from d (before m) ch)) is_me
    ((λ i. let_go test (bench_from (desk i) (row i) (record ch { backlog = kept i }))) ∙ one_go test e d (before d.me) ch (sym is))

pub let_go_events-one : (test : Entry → Bool) (cause : LeftCause) (c : List ℕ) (me old : ℕ) (e : Entry) (rest b : BacklogAt) (events later all : List Event)
    → old ≡ me → Some e ≡ find test b.entries → rest ≡ with_rest (without_first test b.entries) b → later ≡ events ++ left_event old c cause e ∷ []
    → events ++ map (left_event me c cause) (filter test b.entries) ≡ all
    → later ++ map (left_event me c cause) (filter test rest.entries) ≡ all
let_go_events-one test cause c me old e rest b events later all is_me is kept pushed whole =
    let split : filter test b.entries ≡ e ∷ filter test (without_first test b.entries) = (takes-one test b.entries).in_order e (sym is) in
    ap (λ (r : BacklogAt). later ++ map (left_event me c cause) (filter test r.entries)) kept
    ∙ (ap (λ (l : List Event). l ++ map (left_event me c cause) (filter test (without_first test b.entries))) pushed
    ∙ (append_assoc events (left_event old c cause e ∷ []) _
    ∙ (ap (λ (m : ℕ). events ++ left_event m c cause e ∷ map (left_event me c cause) (filter test (without_first test b.entries))) is_me
    ∙ (ap (λ (l : List Entry). events ++ map (left_event me c cause) l) (sym split) ∙ whole))))

-- nothing passes the test
pub let_go-none : (test : Entry → Bool) (rest : BacklogAt) (d : Desk) (row : List (Slot Message)) (ch : Channel)
    → None ≡ find test ch.backlog.entries → rest ≡ with_rest (without_first test ch.backlog.entries) ch.backlog
    → let_go test (bench_from d row ch) ≡ bench_from d row (record ch { backlog = rest })
let_go-none test rest d row ch is kept =
    let es = ch.backlog.entries in
    let t = takes-one test es in
    let none = none_leaves test es (sym is) in
    λ i. record {
      desk = (ap (λ (l : List Entry). left_by l d) none ∙ left_none d) i;
      row = (ap (λ (l : List Entry). fold left_row row l) none) i;
      channel = (ap (λ (l : List Entry). with_entries l ch) (t.all_others (sym is) ∙ sym (t.none_leaves (sym is))) ∙ ap (λ (b : BacklogAt). record ch { backlog = b }) (sym kept)) i;
    }

pub let_go_events-none : (test : Entry → Bool) (cause : LeftCause) (c : List ℕ) (me : ℕ) (es : List Entry) (events all : List Event)
    → None ≡ find test es → events ++ map (left_event me c cause) (filter test es) ≡ all → events ≡ all
let_go_events-none test cause c me es events all is whole =
    sym (append-nil events) ∙ (ap (λ (l : List Entry). events ++ map (left_event me c cause) l) (sym (none_leaves test es (sym is))) ∙ whole)

-- the oldest entry has left, and one fewer is still to leave
one_sheds : (n : ℕ) (e : Entry) (es : List Entry) (d : Desk) (row : List (Slot Message)) (ch : Channel) → oldest es ≡ Some e
    → shed n (left_one e (with_rest (without_oldest es) ch.backlog) d row ch) ≡ shed (suc n) (bench_from d row (with_entries es ch))
one_sheds n e [] d row ch is = absurd cc
one_sheds n e (x ∷ es) d row ch is =
    let same : e ≡ x = cc in
    λ i. record {
      desk = (sym (left_cons d e (take n es)) ∙ ap (λ (y : Entry). left_by (y ∷ take n es) d) same) i;
      row = (ap (λ (y : Entry). fold left_row row (y ∷ take n es)) same) i;
      channel = with_entries (drop n es) ch;
    }

one_less : (n : ℕ) → 0 < n → n ≡ suc (n - 1)
one_less n some = omega arith

pub shed-one : (n : ℕ) (me : ℕ) (before after : ℕ → List (Slot Message)) (e : Entry) (rest : BacklogAt) (d d2 : Desk) (ch : Channel)
    → 0 < n → d.me ≡ me → Some e ≡ oldest ch.backlog.entries → rest ≡ with_rest (without_oldest ch.backlog.entries) ch.backlog → d2 ≡ left_desk d e → after d.me ≡ left_row (before d.me) e
    → shed (n - 1) (bench_from d2 (after me) (record ch { backlog = rest })) ≡ shed n (bench_from d (before me) ch)
shed-one n me before after e rest d d2 ch some is_me is kept desk row =
    subst (λ (m : ℕ). shed (n - 1) (bench_from d2 (after m) (record ch { backlog = rest })) ≡ shed n (bench_from d (before m) ch)) is_me
    ((λ i. shed (n - 1) (bench_from (desk i) (row i) (record ch { backlog = kept i })))
    ∙ (one_sheds (n - 1) e ch.backlog.entries d (before d.me) ch (sym is)
    ∙ ap (λ (k : ℕ). shed k (bench_from d (before d.me) ch)) (sym (one_less n some))))

oldest_first : (n : ℕ) (e : Entry) (es : List Entry) → oldest es ≡ Some e → take (suc n) es ≡ e ∷ take n (without_oldest es)
oldest_first n e [] is = absurd cc
oldest_first n e (x ∷ es) is = let same : x ≡ e = cc in ap (λ (y : Entry). y ∷ take n es) same

pub shed_events-one : (n : ℕ) (cause : LeftCause) (c : List ℕ) (me old : ℕ) (e : Entry) (rest b : BacklogAt) (events later all : List Event)
    → 0 < n → old ≡ me → Some e ≡ oldest b.entries → rest ≡ with_rest (without_oldest b.entries) b → later ≡ events ++ left_event old c cause e ∷ []
    → events ++ map (left_event me c cause) (take n b.entries) ≡ all
    → later ++ map (left_event me c cause) (take (n - 1) rest.entries) ≡ all
shed_events-one n cause c me old e rest b events later all some is_me is kept pushed whole =
    let split : take n b.entries ≡ e ∷ take (n - 1) (without_oldest b.entries) = ap (λ (k : ℕ). take k b.entries) (one_less n some) ∙ oldest_first (n - 1) e b.entries (sym is) in
    ap (λ (r : BacklogAt). later ++ map (left_event me c cause) (take (n - 1) r.entries)) kept
    ∙ (ap (λ (l : List Event). l ++ map (left_event me c cause) (take (n - 1) (without_oldest b.entries))) pushed
    ∙ (append_assoc events (left_event old c cause e ∷ []) _
    ∙ (ap (λ (m : ℕ). events ++ left_event m c cause e ∷ map (left_event me c cause) (take (n - 1) (without_oldest b.entries))) is_me
    ∙ (ap (λ (l : List Entry). events ++ map (left_event me c cause) l) (sym split) ∙ whole))))

take_none : (n : ℕ) (es : List Entry) → oldest es ≡ None → take n es ≡ []
take_none zero es is = refl
take_none (suc n) [] is = refl
take_none (suc n) (e ∷ es) is = absurd cc

drop_none : (n : ℕ) (es : List Entry) → oldest es ≡ None → drop n es ≡ without_oldest es
drop_none zero [] is = refl
drop_none (suc n) [] is = refl
drop_none zero (e ∷ es) is = absurd cc
drop_none (suc n) (e ∷ es) is = absurd cc

-- no entry is there any more
pub shed-none : (n : ℕ) (rest : BacklogAt) (d : Desk) (row : List (Slot Message)) (ch : Channel)
    → None ≡ oldest ch.backlog.entries → rest ≡ with_rest (without_oldest ch.backlog.entries) ch.backlog
    → shed n (bench_from d row ch) ≡ bench_from d row (record ch { backlog = rest })
shed-none n rest d row ch is kept =
    let none = take_none n ch.backlog.entries (sym is) in
    λ i. record {
      desk = (ap (λ (l : List Entry). left_by l d) none ∙ left_none d) i;
      row = (ap (λ (l : List Entry). fold left_row row l) none) i;
      channel = (ap (λ (l : List Entry). with_entries l ch) (drop_none n ch.backlog.entries (sym is)) ∙ ap (λ (b : BacklogAt). record ch { backlog = b }) (sym kept)) i;
    }

pub shed_events-none : (n : ℕ) (cause : LeftCause) (c : List ℕ) (me : ℕ) (es : List Entry) (events all : List Event)
    → None ≡ oldest es → events ++ map (left_event me c cause) (take n es) ≡ all → events ≡ all
shed_events-none n cause c me es events all is whole =
    sym (append-nil events) ∙ (ap (λ (l : List Entry). events ++ map (left_event me c cause) l) (sym (take_none n es (sym is))) ∙ whole)

-- none is still to leave
pub shed-end : (n : ℕ) (b : Bench) → n ≡ 0 → shed n b ≡ b
shed-end n b is = ap (λ (k : ℕ). shed k b) is ∙ λ i. record { desk = left_none b.desk i; row = b.row; channel = b.channel }

pub shed_events-end : (n : ℕ) (cause : LeftCause) (c : List ℕ) (me : ℕ) (es : List Entry) (events all : List Event)
    → n ≡ 0 → events ++ map (left_event me c cause) (take n es) ≡ all → events ≡ all
shed_events-end n cause c me es events all is whole =
    sym (append-nil events) ∙ (ap (λ (k : ℕ). events ++ map (left_event me c cause) (take k es)) (sym is) ∙ whole)

-- all leave
pub all_of : (n : ℕ) (es : List Entry) → n ≡ length es → take n es ≡ es
all_of n es is = ap (λ (k : ℕ). take k es) is ∙ take_all (length es) es (le_refl (length es))

pub shed-all : (n : ℕ) (d d2 : Desk) (row row2 : List (Slot Message)) (ch ch2 : Channel) → n ≡ length ch.backlog.entries → bench_from d2 row2 ch2 ≡ shed n (bench_from d row ch)
    → (d2 ≡ left_by ch.backlog.entries d) × (row2 ≡ fold left_row row ch.backlog.entries)
shed-all n d d2 row row2 ch ch2 is bench =
    let all = all_of n ch.backlog.entries is in (
      ap (λ (b : Bench). b.desk) bench ∙ ap (λ (l : List Entry). left_by l d) all,
      ap (λ (b : Bench). b.row) bench ∙ ap (λ (l : List Entry). fold left_row row l) all,
    )
