-- A bench fits where entries left it.
use Rattle.std.proofs.Common.{◌≡◌, ℕ, zero, suc, ◌+◌, ◌<◌, ◌≤◌, Bool, not, List, [], ◌∷◌, ◌++◌, refl, sym, ap, ◌∙◌, subst, arith, length, take, drop, fold, length-append}
use Rattle.std.specs.List.{AllByRecursion}
use Rattle.std.proofs.lemmas.List.{take-append-drop}
use Rattle.nc_types.specs.Message.{Message}
use Rattle.nc_buffer.specs.declared.entry.Entry.{Entry}
use Rattle.nc_buffer.specs.Buffer.{IsRising}
use Rattle.nc_slots.specs.Slot.{slot_at, is_buffered}
use Rattle.nc_slots.specs.declared.slot.Slot.{Slot}
use Rattle.nc_owner.specs.Ascending.{place_above, with_number}
use Rattle.nc_owner.specs.State.{Bench, entries_of, with_entries}
use Rattle.nc_owner.specs.Leave.{left_row, left_by, with_slot, let_go, leavers, stayers}
use Rattle.nc_owner_laws.specs.Used.{times, Agrees}
use Rattle.nc_owner_laws.specs.Kept.{slots_in, IsIn, AreIn}
use Rattle.nc_owner_laws.specs.OwnerFits.{IsRegular}
use Rattle.nc_owner_laws.proofs.Benches.{BenchFits}
use Rattle.nc_owner_laws.proofs.Used.{leaves_row, times-append, agrees-same, left_all}
use Rattle.nc_owner_laws.proofs.Kept.{times-insert, times-filter, length-filter, all_filtered, rising-filter, in_where, stays_left, length_left, bit_le}

-- rows that entries leave, by their slots
left_slots : (row : List (Slot Message)) (es : List Entry) → fold left_row row es ≡ fold leaves_row row (slots_in es)
left_slots row [] = refl
left_slots row (e ∷ es) = left_slots (left_row row e) es

pub times-with_slot : (s : ℕ) (xs : List ℕ) (es : List Entry) → times s (fold with_slot xs es) ≡ times s xs + times s (slots_in es)
times-with_slot s xs [] = omega arith
times-with_slot s xs (e ∷ es) = omega (arith, times-with_slot s (with_number xs e.slot) es, times-insert s xs (place_above e.slot xs) e.slot)

-- what stands among all entries stands at most once
pub at_most_once : (B R : ℕ → ℕ) (row : List (Slot Message)) (s : ℕ) → Agrees B R row → B s ≤ 1
at_most_once B R row s a = omega (arith, a.of_buffered s, bit_le (is_buffered (slot_at row s)))

-- some entries leave and the others stay
pub leave_fits : (rest stay go es : List Entry) (b : Bench) → es ≡ entries_of b.channel → ((s : ℕ) → times s (slots_in stay) + times s (slots_in go) ≡ times s (slots_in es)) → length stay + length go ≡ length es
    → (AreIn b.row es → AreIn b.row stay) → (IsRegular b.channel → IsRegular (with_entries stay b.channel)) → BenchFits rest b
    → BenchFits rest (record { desk = left_by go b.desk; row = fold left_row b.row go; channel = with_entries stay b.channel })
leave_fits rest stay go es b is parts whole stays regular f =
    let split : Agrees (λ s. (times s (slots_in rest) + times s (slots_in stay)) + times s (slots_in go)) (λ s. times s b.desk.retired) b.row =
    agrees-same _ _ _ _ b.row (λ s. omega (arith, parts s, ap (λ l. times s (slots_in l)) is)) (λ s. refl) f.apart in
    let left = left_all (λ s. times s (slots_in rest) + times s (slots_in stay)) (λ s. times s b.desk.retired) b.row (slots_in go) split in
    let none : (s : ℕ) → 0 < times s (slots_in rest) + times s (slots_in stay) → slot_at (fold left_row b.row go) s ≡ slot_at b.row s =
    λ s lt. ap (λ r. slot_at r s) (left_slots b.row go) ∙ stays_left b.row (slots_in go) s (omega (arith, at_most_once _ _ b.row s split)) in
    record {
      slots = ap length (left_slots b.row go) ∙ length_left b.row (slots_in go) ∙ f.slots;
      apart = subst (Agrees _ _) (sym (left_slots b.row go)) (agrees-same _ _ _ _ _ (λ s. refl) (λ s. sym (times-with_slot s b.desk.retired go)) left);
      number = omega (arith, f.number, whole, ap length is);
      others = in_where b.row (fold left_row b.row go) rest (λ s lt. none s (omega (arith, lt))) f.others;
      kept = in_where b.row (fold left_row b.row go) stay (λ s lt. none s (omega (arith, lt))) (stays (subst (AreIn b.row) (sym is) f.kept));
      regular = regular f.regular;
    }

-- those that pass a test leave
pub let_go_fits : (rest : List Entry) (test : Entry → Bool) (b : Bench) → BenchFits rest b → BenchFits rest (let_go test b)
let_go_fits rest test b f = leave_fits rest (stayers test (entries_of b.channel)) (leavers test b) (entries_of b.channel) b refl
    (λ s. times-filter (λ e. e.slot) test s (entries_of b.channel))
    (length-filter test (entries_of b.channel))
    (λ a. all_filtered (λ e. IsIn (slot_at b.row e.slot) e) (λ e. not (test e)) (entries_of b.channel) a)
    (λ r. record { rises = rising-filter (λ e. not (test e)) (entries_of b.channel) r.rises; below = all_filtered _ (λ e. not (test e)) (entries_of b.channel) r.below })
    f

pub slots_append : (xs ys : List Entry) → slots_in (xs ++ ys) ≡ slots_in xs ++ slots_in ys
slots_append [] ys = refl
slots_append (x ∷ xs) ys = ap (λ (l : List ℕ). x.slot ∷ l) (slots_append xs ys)

pub all_drop : {X : Type 0} (P : X → Type 0) (n : ℕ) (xs : List X) → AllByRecursion P xs → AllByRecursion P (drop n xs)
all_drop P zero xs a = a
all_drop P (suc n) [] a = tt
all_drop P (suc n) (x ∷ xs) a = all_drop P n xs a.1

rising_drop : (n : ℕ) (es : List Entry) → IsRising es → IsRising (drop n es)
rising_drop zero es r = r
rising_drop (suc n) [] r = tt
rising_drop (suc n) (e ∷ es) r = rising_drop n es r.1

-- the oldest leave
pub oldest_leave : (rest : List Entry) (n : ℕ) (b : Bench) → BenchFits rest b
    → BenchFits rest (record { desk = left_by (take n (entries_of b.channel)) b.desk; row = fold left_row b.row (take n (entries_of b.channel)); channel = with_entries (drop n (entries_of b.channel)) b.channel })
oldest_leave rest n b f = leave_fits rest (drop n es) (take n es) es b refl
    (λ s. omega (arith, times-append s (slots_in (take n es)) (slots_in (drop n es)), ap (times s) (slots_append (take n es) (drop n es)), ap (λ l. times s (slots_in l)) (take-append-drop n es)))
    (omega (arith, length-append (take n es) (drop n es), ap length (take-append-drop n es)))
    (λ a. all_drop (λ e. IsIn (slot_at b.row e.slot) e) n es a)
    (λ r. record { rises = rising_drop n es r.rises; below = all_drop _ n es r.below })
    f
  where
    es : List Entry
    es = entries_of b.channel
