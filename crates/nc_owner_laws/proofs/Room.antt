-- A publish that is not full finds an unused slot.
use Rattle.std.proofs.Common.{◌≡◌, ◌≢◌, ⊎_elim, ℕ, suc, ◌+◌, ◌-◌, ◌<◌, ◌≤◌, Bool, true, false, cond, not, List, [], ◌∷◌, ◌++◌, refl, sym, ap, ◌∙◌, arith, length, take, drop, map, filter, fold, eqb, length-append}
use Rattle.std.specs.Prelude.{is_some}
use Rattle.std.proofs.lemmas.Bool.{cases_lt, eqb-true, eqb-false}
use Rattle.std.proofs.lemmas.List.{length-map, take-append-drop}
use Rattle.std.proofs.lemmas.List.Sums.{length-filter}
use Rattle.nc_types.specs.Message.{Message}
use Rattle.nc_types.specs.declared.info.FullLine.{FullLine}
use Rattle.nc_buffer.specs.declared.entry.Entry.{Entry}
use Rattle.nc_slots.specs.Slot.{slot_at, is_buffered, lowest_unused}
use Rattle.nc_slots.specs.declared.slot.Slot.{Slot}
use Rattle.nc_slots.specs.declared.slot.Slot.TheVariants.{Unused, Buffered, Retired}
use Rattle.nc_owner.specs.declared.poll.PollAnswer.{PollAnswer}
use Rattle.nc_owner.specs.Ascending.{place_above, with_number, without_number, ascending}
use Rattle.nc_owner.specs.State.{Bench, entries_of, with_entries}
use Rattle.nc_owner.specs.Leave.{left_by, left_row, with_slot}
use Rattle.nc_owner.specs.Poll.{polled_slot, polled_all, slot_of, is_held, is_free, held_slots, free_slots, held_count}
use Rattle.nc_owner.specs.Publish.{Polls, leaving, leaving_count, slots_of, usage_of, is_full, outcome, outcome_by, stored, asked, roomy}
use Rattle.nc_owner_laws.specs.Used.{is_retired, bit, times, Agrees}
use Rattle.nc_owner_laws.specs.Kept.{slots_in}
use Rattle.nc_owner_laws.proofs.Benches.{BenchFits}
use Rattle.nc_owner_laws.specs.Keeping.{HoldsFall}
use Rattle.nc_owner_laws.proofs.Used.{times-append, times_here, agrees-same, unless_free, polled_one, used_fit, room}
use Rattle.nc_owner_laws.proofs.Kept.{times-insert, times-without, bit_le}
use Rattle.nc_owner_laws.proofs.Leaving.{times-with_slot, oldest_leave, slots_append}
use Rattle.nc_owner_laws.proofs.Polling.{length_polled, in_polled_all, freed_fits}

-- ---- numbers in lists

pub times-ascending : (s : ℕ) (xs : List ℕ) → times s (ascending xs) ≡ times s xs
times-ascending s xs = omega (arith, each xs [])
  where
    each : (xs ys : List ℕ) → times s (fold with_number ys xs) ≡ times s ys + times s xs
    each [] ys = omega arith
    each (x ∷ xs) ys = omega (arith, each xs (with_number ys x), times-insert s ys (place_above x ys) x)

-- held and free slots are all
pub times-answers : (s : ℕ) (answers : List PollAnswer) → times s (held_slots answers) + times s (free_slots answers) ≡ times s (map slot_of answers)
times-answers s [] = refl
times-answers s (a ∷ answers) = by a.held (times-answers s answers)
  where
    by : (b : Bool) → times s (held_slots answers) + times s (free_slots answers) ≡ times s (map slot_of answers)
        → times s (map slot_of (cond b (a ∷ filter is_held answers) (filter is_held answers))) + times s (map slot_of (cond (not b) (a ∷ filter is_free answers) (filter is_free answers))) ≡ bit (eqb a.slot s) + times s (map slot_of answers)
    by true e = omega arith
    by false e = omega arith

without-le : (s k : ℕ) (xs : List ℕ) → times s (without_number xs k) ≤ times s xs
without-le s k xs = by (eqb k s) (times-without s k xs)
  where
    by : (b : Bool) → times s (without_number xs k) ≡ cond b 0 (times s xs) → times s (without_number xs k) ≤ times s xs
    by true e = omega arith
    by false e = omega arith

all_without-le : (s : ℕ) (ks xs : List ℕ) → times s (fold without_number xs ks) ≤ times s xs
all_without-le s [] xs = omega arith
all_without-le s (k ∷ ks) xs = omega (arith, all_without-le s ks (without_number xs k), without-le s k xs)

all_without-none : (s : ℕ) (ks xs : List ℕ) → 0 < times s ks → times s (fold without_number xs ks) ≡ 0
all_without-none s [] xs lt = absurd (omega arith)
all_without-none s (k ∷ ks) xs lt = by (eqb k s) refl (all_without-none s ks (without_number xs k))
  where
    by : (b : Bool) → eqb k s ≡ b → (0 < times s ks → times s (fold without_number (without_number xs k) ks) ≡ 0) → times s (fold without_number (without_number xs k) ks) ≡ 0
    by true e rest = omega (arith, all_without-le s ks (without_number xs k), times-without s k xs, ap (λ b. cond b 0 (times s xs)) e)
    by false e rest = rest (omega (arith, lt, ap bit e))

-- a list without one of its numbers
abbrev less_one : ℕ → List ℕ → List ℕ
less_one x [] = []
less_one x (y ∷ ys) = cond (eqb y x) ys (y ∷ less_one x ys)

length_less : (x : ℕ) (ys : List ℕ) → 0 < times x ys → length ys ≡ suc (length (less_one x ys))
length_less x [] lt = absurd (omega arith)
length_less x (y ∷ ys) lt = by (eqb y x) refl (length_less x ys)
  where
    by : (b : Bool) → eqb y x ≡ b → (0 < times x ys → length ys ≡ suc (length (less_one x ys))) → suc (length ys) ≡ suc (length (cond b ys (y ∷ less_one x ys)))
    by true e rest = refl
    by false e rest = ap suc (rest (omega (arith, lt, ap bit e)))

times_less : (s x : ℕ) (ys : List ℕ) → times s ys ≤ times s (less_one x ys) + bit (eqb x s)
times_less s x [] = omega arith
times_less s x (y ∷ ys) = by (eqb y x) refl (times_less s x ys)
  where
    by : (b : Bool) → eqb y x ≡ b → times s ys ≤ times s (less_one x ys) + bit (eqb x s) → bit (eqb y s) + times s ys ≤ times s (cond b ys (y ∷ less_one x ys)) + bit (eqb x s)
    by true e rest = omega (arith, ap (λ k. bit (eqb k s)) (eqb-true y x e))
    by false e rest = omega arith

-- fewer of each number are fewer numbers
pub fewer : (xs ys : List ℕ) → ((s : ℕ) → times s xs ≤ times s ys) → length xs ≤ length ys
fewer [] ys f = omega arith
fewer (x ∷ xs) ys f =
    let lt : 0 < times x ys = omega (arith, f x, times_here x xs) in
    omega (arith, length_less x ys lt, fewer xs (less_one x ys) (λ s. omega (arith, f s, times_less s x ys)))

-- ---- buffered slots are polled

not_both : (x : Slot Message) → 0 < bit (is_buffered x) → is_retired x ≡ false
not_both Unused lt = refl
not_both (Buffered message clear grants) lt = refl
not_both (Retired clear grants) lt = absurd (omega arith)

-- polls of slots that aren't retired leave what the slots are used for
pub asked_agree : (B R : ℕ → ℕ) (answers : List PollAnswer) (row : List (Slot Message)) → ((s : ℕ) → 0 < times s (map slot_of answers) → R s ≡ 0) → Agrees B R row → Agrees B R (polled_all answers row)
asked_agree B R [] row none a = a
asked_agree B R (x ∷ answers) row none a =
    asked_agree B R answers (polled_slot row x) (λ s lt. none s (omega (arith, lt)))
    (agrees-same _ _ _ _ _ (λ s. refl) (λ s. stays x.held s (none s)) (polled_one B R row x.slot x.held a))
  where
    stays : (held : Bool) (s : ℕ) → (0 < bit (eqb x.slot s) + times s (map slot_of answers) → R s ≡ 0) → unless_free held x.slot (R s) s ≡ R s
    stays true s f = refl
    stays false s f = by (eqb x.slot s) f
      where
        by : (b : Bool) → (0 < bit b + times s (map slot_of answers) → R s ≡ 0) → cond b 0 (R s) ≡ R s
        by true g = sym (g (omega arith))
        by false g = refl

pub asked_fits : (rest : List Entry) (n : ℕ) (answers : List PollAnswer) (b : Bench) → map slot_of answers ≡ slots_in (take n (entries_of b.channel)) → BenchFits rest b → BenchFits rest (asked answers b)
asked_fits rest n answers b each f = record {
  slots = length_polled answers b.row ∙ f.slots;
  apart = asked_agree _ _ answers b.row (λ s lt. none s (omega (arith, lt, ap (times s) each))) f.apart;
  number = f.number;
  others = in_polled_all answers b.row rest f.others;
  kept = in_polled_all answers b.row (entries_of b.channel) f.kept;
  regular = f.regular;
}
  where
    es : List Entry
    es = entries_of b.channel

    none : (s : ℕ) → 0 < times s (slots_in (take n es)) → times s b.desk.retired ≡ 0
    none s lt =
        let whole : times s (slots_in (take n es)) + times s (slots_in (drop n es)) ≡ times s (slots_in es) =
        sym (times-append s (slots_in (take n es)) (slots_in (drop n es))) ∙ ap (times s) (sym (slots_append (take n es) (drop n es))) ∙ ap (λ l. times s (slots_in l)) (take-append-drop n es) in
        f.apart.of_retired s ∙ ap bit (not_both (slot_at b.row s) (omega (arith, lt, whole, f.apart.of_buffered s)))

pub roomy_fits : (rest : List Entry) (len : ℕ) (answers : List PollAnswer) (b : Bench) → BenchFits rest b → BenchFits rest (roomy len answers b)
roomy_fits rest len answers b f = freed_fits rest answers (record { desk = left_by (leaving len b) b.desk; row = fold left_row b.row (leaving len b); channel = with_entries (drop (leaving_count len (entries_of b.channel)) (entries_of b.channel)) b.channel }) (oldest_leave rest (leaving_count len (entries_of b.channel)) b f)

-- ---- how many slots are used

pub length-held : (answers : List PollAnswer) → length (held_slots answers) ≡ held_count answers
length-held answers = length-map (filter is_held answers) slot_of ∙ length-filter is_held answers

not_full : (t f : Bool) (usage : FullLine) → outcome_by t f usage ≡ stored → f ≡ false
not_full false f usage e = absurd cc
not_full true true usage e = absurd cc
not_full true false usage e = refl

-- what stays retired is held
retired_le : (s : ℕ) (rs ls : List ℕ) (polls : Polls) → HoldsFall polls → map slot_of polls.left ≡ ascending ls → times s ls ≤ 1
    → times s (fold without_number rs (free_slots polls.left)) ≤ times s rs → (q : ℕ) → times s rs ≡ q + times s ls → times s (fold without_number rs (free_slots polls.left)) ≤ q + times s (held_slots polls.leaving)
retired_le s rs ls polls falls each once le q is =
    ⊎_elim
    (λ (lt : 0 < times s (free_slots polls.left)). omega (arith, all_without-none s (free_slots polls.left) rs lt))
    (λ (ge : times s (free_slots polls.left) ≤ 0).
    let parts : times s (held_slots polls.left) + times s (free_slots polls.left) ≡ times s ls = times-answers s polls.left ∙ ap (times s) each ∙ times-ascending s ls in
    ⊎_elim
    (λ (lt : 0 < times s ls). omega (arith, falls s (omega (arith, parts, ge, lt))))
    (λ (none : times s ls ≤ 0). omega arith)
    (cases_lt 0 (times s ls)))
    (cases_lt 0 (times s (free_slots polls.left)))

-- a bench on which the channel was touched and the retired slots were polled
pub record Ready (rest : List Entry) (len : ℕ) (polls : Polls) (b : Bench) : Type 0 where
  pub fits : BenchFits rest b
  pub retired : b.desk.retired ≡ held_slots polls.retired
  pub before : map slot_of polls.leaving ≡ slots_of (leaving len b)
  pub left : map slot_of polls.left ≡ ascending (slots_of (leaving len b))
  pub falls : outcome len polls b ≡ stored → HoldsFall polls

pub room_of : (rest : List Entry) (len : ℕ) (polls : Polls) (b : Bench) → Ready rest len polls b → outcome len polls b ≡ stored → is_some (lowest_unused (roomy len polls.left (asked polls.leaving b)).row) ≡ true
room_of rest len polls b r is =
    let es = entries_of b.channel in
    let n = leaving_count len es in
    let gs = take n es in
    let bench = roomy len polls.left (asked polls.leaving b) in
    let f = roomy_fits rest len polls.left (asked polls.leaving b) (asked_fits rest n polls.leaving b r.before r.fits) in
    let as_one : Agrees (λ s. times s (slots_in rest ++ slots_in (drop n es))) (λ s. times s bench.desk.retired) bench.row = agrees-same _ _ _ _ bench.row (λ s. sym (times-append s (slots_in rest) (slots_in (drop n es)))) (λ s. refl) f.apart in
    let old_one : Agrees (λ s. times s (slots_in rest ++ slots_in es)) (λ s. times s b.desk.retired) b.row = agrees-same _ _ _ _ b.row (λ s. sym (times-append s (slots_in rest) (slots_in es))) (λ s. refl) r.fits.apart in
    let once = λ (s : ℕ). (let whole : times s (slots_in gs) + times s (slots_in (drop n es)) ≡ times s (slots_in es) =
    sym (times-append s (slots_in gs) (slots_in (drop n es))) ∙ ap (times s) (sym (slots_append gs (drop n es))) ∙ ap (λ l. times s (slots_in l)) (take-append-drop n es) in
    let h : times s (slots_in gs) ≤ 1 = omega (arith, whole, r.fits.apart.of_buffered s, bit_le (is_buffered (slot_at b.row s))) in h) in
    let each = λ (s : ℕ).
    retired_le s (fold with_slot b.desk.retired gs) (slots_in gs) polls (r.falls is) r.left (once s) (all_without-le s (free_slots polls.left) (fold with_slot b.desk.retired gs)) (times s (held_slots polls.retired))
    (times-with_slot s b.desk.retired gs ∙ ap (λ l. times s l + times s (slots_in gs)) r.retired) in
    let few : length bench.desk.retired ≤ length (held_slots polls.retired ++ held_slots polls.leaving) =
    fewer bench.desk.retired (held_slots polls.retired ++ held_slots polls.leaving) (λ s. omega (arith, each s, times-append s (held_slots polls.retired) (held_slots polls.leaving))) in
    let usage = usage_of len polls b in
    let not_all : usage.buffered + usage.held ≢ b.desk.slots = eqb-false (usage.buffered + usage.held) b.desk.slots (not_full _ (is_full b.desk.slots usage) usage is) in
    let sizes : length gs + length (drop n es) ≡ length es = sym (length-append gs (drop n es)) ∙ ap length (take-append-drop n es) in
    let asked_few : held_count polls.leaving ≤ length gs = held_le polls.leaving (slots_in gs) r.before (length-map gs (λ e. e.slot)) in
    let old_fit : length (slots_in rest ++ slots_in es) + length b.desk.retired ≤ length b.row = used_fit (slots_in rest ++ slots_in es) b.desk.retired b.row old_one in
    let lens : length (slots_in rest ++ slots_in es) ≡ length rest + length es = length-append (slots_in rest) (slots_in es) ∙ (λ i. (length-map rest (λ e. e.slot)) i + (length-map es (λ e. e.slot)) i) in
    let lens2 : length (slots_in rest ++ slots_in (drop n es)) ≡ length rest + length (drop n es) = length-append (slots_in rest) (slots_in (drop n es)) ∙ (λ i. (length-map rest (λ e. e.slot)) i + (length-map (drop n es) (λ e. e.slot)) i) in
    let few2 : length bench.desk.retired ≤ held_count polls.retired + held_count polls.leaving = omega (arith, few, length-append (held_slots polls.retired) (held_slots polls.leaving), length-held polls.retired, length-held polls.leaving) in
    let old_few : length b.desk.retired ≡ held_count polls.retired = ap length r.retired ∙ length-held polls.retired in
    room (slots_in rest ++ slots_in (drop n es)) bench.desk.retired bench.row as_one
    (less (length rest) (length gs) (length (drop n es)) (length es) b.desk.buffered b.desk.slots (length b.row) (length bench.row) (held_count polls.retired) (held_count polls.leaving) (length bench.desk.retired) (length b.desk.retired) (length (slots_in rest ++ slots_in es)) (length (slots_in rest ++ slots_in (drop n es)))
    sizes r.fits.number r.fits.slots f.slots asked_few old_fit lens lens2 few2 old_few not_all)
  where
    held_le : (answers : List PollAnswer) (ks : List ℕ) → map slot_of answers ≡ ks → {m : ℕ} → length ks ≡ m → held_count answers ≤ m
    held_le answers ks each {m} e = omega (arith, length-held answers, fewer (held_slots answers) (map slot_of answers) (λ s. omega (arith, times-answers s answers)), ap length each, e)

    less : (rest gs ds es buffered slots row row2 hr hl rs2 rs used used2 : ℕ) → gs + ds ≡ es → buffered ≡ rest + es → row ≡ slots → row2 ≡ slots → hl ≤ gs → used + rs ≤ row → used ≡ rest + es → used2 ≡ rest + ds → rs2 ≤ hr + hl → rs ≡ hr → (buffered - gs) + (hr + hl) ≢ slots → used2 + rs2 < row2
    less rest gs ds es buffered slots row row2 hr hl rs2 rs used used2 a b c d e f g h i j k = omega arith
