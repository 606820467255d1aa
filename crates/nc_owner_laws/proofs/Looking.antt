-- A bench fits where a message was looked for in it.
use Rattle.std.proofs.Common.{◌≡◌, ◌≢◌, ℕ, zero, suc, ◌+◌, ◌<◌, ◌≤◌, false, List, [], ◌∷◌, Option, Some, None, refl, sym, ap, ◌∙◌, subst, arith, length, set, eqb}
use Rattle.std.specs.Prelude.{MatchOption}
use Rattle.std.specs.List.{AllByRecursion, slice_get}
use Rattle.std.proofs.lemmas.Bool.{eq-eqb}
use Rattle.std.proofs.lemmas.List.{length-set, get_or-set_same, get_or-set_other}
use Rattle.nc_types.specs.Id.{Id, IsPast, is_past}
use Rattle.nc_types.specs.Message.{Message}
use Rattle.nc_buffer.specs.declared.entry.Entry.{Entry}
use Rattle.nc_buffer.specs.Buffer.{IsRising, with_grant, first_past, granted as granted_entry}
use Rattle.nc_buffer.proofs.BufferLaws.{look-finds}
use Rattle.nc_slots.specs.Slot.{slot_at, is_unused, is_buffered, granted}
use Rattle.nc_slots.specs.declared.slot.Slot.{Slot}
use Rattle.nc_slots.specs.declared.slot.Slot.TheVariants.{Unused, Buffered, Retired}
use Rattle.nc_owner.specs.Backlog.{IsBacklog}
use Rattle.nc_owner.specs.State.{Bench, entries_of, with_entries}
use Rattle.nc_owner.specs.Look.{found_on, counted_at, found_desk, found_row, found_marks, answered}
use Rattle.nc_owner_laws.specs.Used.{bit, times}
use Rattle.nc_owner_laws.specs.Kept.{slots_in, IsIn, AreIn}
use Rattle.nc_owner_laws.proofs.Benches.{BenchFits}
use Rattle.nc_owner_laws.proofs.Used.{agrees-same, granted_one, in_row, times_here}
use Rattle.nc_owner_laws.proofs.Kept.{in_where, bit_le}

-- ---- one entry counts a grant

pub same_slots : (place : ℕ) (es : List Entry) → slots_in (with_grant place es) ≡ slots_in es
same_slots zero [] = refl
same_slots (suc place) [] = refl
same_slots zero (e ∷ es) = refl
same_slots (suc place) (e ∷ es) = ap (λ (l : List ℕ). e.slot ∷ l) (same_slots place es)

pub same_length : (place : ℕ) (es : List Entry) → length (with_grant place es) ≡ length es
same_length zero [] = refl
same_length (suc place) [] = refl
same_length zero (e ∷ es) = refl
same_length (suc place) (e ∷ es) = ap suc (same_length place es)

-- what holds of ids holds on
pub same_ids : (P : Id → Type 0) (place : ℕ) (es : List Entry) → AllByRecursion (λ e. P e.id) es → AllByRecursion (λ e. P e.id) (with_grant place es)
same_ids P zero [] a = tt
same_ids P (suc place) [] a = tt
same_ids P zero (e ∷ es) a = a
same_ids P (suc place) (e ∷ es) a = (a.0, same_ids P place es a.1)

same_rising : (place : ℕ) (es : List Entry) → IsRising es → IsRising (with_grant place es)
same_rising zero [] r = tt
same_rising (suc place) [] r = tt
same_rising zero (e ∷ es) r = r
same_rising (suc place) (e ∷ es) r = (same_ids (λ id. IsPast id e.id) place es r.0, same_rising place es r.1)

pub none_counted : (place : ℕ) (es : List Entry) → slice_get es place ≡ None → with_grant place es ≡ es
none_counted zero [] n = refl
none_counted (suc place) [] n = refl
none_counted zero (e ∷ es) n = absurd cc
none_counted (suc place) (e ∷ es) n = ap (λ (l : List Entry). e ∷ l) (none_counted place es n)

pub stands : (place : ℕ) (es : List Entry) (e : Entry) → slice_get es place ≡ Some e → 0 < times e.slot (slots_in es)
stands zero [] e is = absurd cc
stands (suc place) [] e is = absurd cc
stands zero (x ∷ es) e is = (let h : x ≡ e = cc in subst (λ (y : Entry). 0 < times y.slot (slots_in (x ∷ es))) h (omega (arith, times_here x.slot (slots_in es))))
stands (suc place) (x ∷ es) e is = omega (arith, stands place es e is)

in_granted : (x : Slot Message) (e : Entry) → IsIn x e → IsIn (granted x) (granted_entry e)
in_granted Unused e i = i
in_granted (Buffered message clear grants) e i = (i.0, i.1, ap (λ n. n + 1) i.2)
in_granted (Retired clear grants) e i = i

in_used : (x : Slot Message) (e : Entry) → IsIn x e → is_unused x ≡ false
in_used Unused e i = absurd i
in_used (Buffered message clear grants) e i = refl
in_used (Retired clear grants) e i = absurd i

other_slot : (k s : ℕ) (n m : ℕ) → bit (eqb k s) + n ≤ 1 → 0 < n → s ≢ k
other_slot k s n m le lt is = absurd (omega (arith, ap bit (eq-eqb k s (sym is))))

pub counted_in : (place : ℕ) (es : List Entry) (e : Entry) (row : List (Slot Message)) → slice_get es place ≡ Some e → times e.slot (slots_in es) ≤ 1 → AreIn row es → AreIn (set row e.slot (granted (slot_at row e.slot))) (with_grant place es)
counted_in zero [] e row is once a = tt
counted_in (suc place) [] e row is once a = tt
counted_in zero (x ∷ es) e row is once a =
    let h : x ≡ e = cc in
    let here : times x.slot (slots_in (x ∷ es)) ≤ 1 = subst (λ (y : Entry). times y.slot (slots_in (x ∷ es)) ≤ 1) (sym h) once in
    subst (λ (y : Entry). AreIn (set row y.slot (granted (slot_at row y.slot))) (granted_entry x ∷ es)) h (
      subst (λ (y : Slot Message). IsIn y (granted_entry x)) (sym (get_or-set_same row x.slot (granted (slot_at row x.slot)) Unused (in_row row x.slot (in_used (slot_at row x.slot) x a.0)))) (in_granted (slot_at row x.slot) x a.0),
      in_where row (set row x.slot (granted (slot_at row x.slot))) es
          (λ s lt. get_or-set_other row x.slot s (granted (slot_at row x.slot)) Unused (λ (same : s ≡ x.slot). absurd (omega (arith, here, times_here x.slot (slots_in es), ap (λ k. times k (slots_in es)) same)))) a.1,
    )
counted_in (suc place) (x ∷ es) e row is once a =
    let here : 0 < times e.slot (slots_in es) = stands place es e is in
    let apart : x.slot ≢ e.slot = λ same. absurd (omega (arith, once, ap bit (eq-eqb x.slot e.slot same))) in (
      subst (λ (y : Slot Message). IsIn y x) (sym (get_or-set_other row e.slot x.slot (granted (slot_at row e.slot)) Unused apart)) a.0,
      counted_in place es e row is (omega (arith, once)) a.1,
    )

-- ---- the bench

-- a bench after a look that found this entry at this place
abbrev pub answered_by : Option ℕ → Option Entry → ℕ → Bench → Bench
answered_by place found from b = record {
  desk = found_desk found b.desk;
  row = found_row from found b.row;
  channel = record (with_entries (counted_at place (entries_of b.channel)) b.channel) { marks = found_marks from found b.channel.marks };
}

none_fits : (rest : List Entry) (from : ℕ) (b : Bench) (es : List Entry) → es ≡ entries_of b.channel → BenchFits rest b
    → BenchFits rest (record { desk = found_desk None b.desk; row = b.row; channel = record (with_entries es b.channel) { marks = found_marks from None b.channel.marks } })
none_fits rest from b es is f = record {
  slots = f.slots;
  apart = agrees-same _ _ _ _ b.row (λ s. ap (λ l. times s (slots_in rest) + times s (slots_in l)) (sym is)) (λ s. refl) f.apart;
  number = f.number ∙ ap (λ l. length rest + length l) (sym is);
  others = f.others;
  kept = subst (AreIn b.row) (sym is) f.kept;
  regular = record { rises = subst IsRising (sym is) f.regular.rises; below = subst (IsBacklog b.channel.backlog.last) (sym is) f.regular.below };
}

place_fits : (rest : List Entry) (place : ℕ) (found : Option Entry) (from : ℕ) (b : Bench) → slice_get (entries_of b.channel) place ≡ found → BenchFits rest b → BenchFits rest (answered_by (Some place) found from b)
place_fits rest place None from b is f = none_fits rest from b (with_grant place (entries_of b.channel)) (none_counted place (entries_of b.channel) is) f
place_fits rest place (Some e) from b is f =
    let es = entries_of b.channel in
    let row2 = set b.row e.slot (granted (slot_at b.row e.slot)) in
    let once : times e.slot (slots_in rest) + times e.slot (slots_in es) ≤ 1 = omega (arith, f.apart.of_buffered e.slot, bit_le (is_buffered (slot_at b.row e.slot))) in
    let here : 0 < times e.slot (slots_in es) = stands place es e is in
    record {
      slots = length-set b.row e.slot (granted (slot_at b.row e.slot)) ∙ f.slots;
      apart = agrees-same _ _ _ _ row2 (λ s. ap (λ l. times s (slots_in rest) + times s l) (sym (same_slots place es))) (λ s. refl) (granted_one _ _ b.row e.slot f.apart);
      number = f.number ∙ ap (λ n. length rest + n) (sym (same_length place es));
      others = in_where b.row row2 rest (λ s lt. get_or-set_other b.row e.slot s (granted (slot_at b.row e.slot)) Unused (λ (same : s ≡ e.slot). absurd (omega (arith, once, here, lt, ap (λ k. times k (slots_in rest)) same)))) f.others;
      kept = counted_in place es e b.row is (omega (arith, once)) f.kept;
      regular = record { rises = same_rising place es f.regular.rises; below = same_ids (λ id. is_past id b.channel.backlog.last ≡ false) place es f.regular.below };
    }

look_case : (rest : List Entry) (place : Option ℕ) (found : Option Entry) (from : ℕ) (b : Bench) → MatchOption place (found ≡ None) (λ k. slice_get (entries_of b.channel) k ≡ found) → BenchFits rest b → BenchFits rest (answered_by place found from b)
look_case rest None found from b is f = subst (λ (x : Option Entry). BenchFits rest (answered_by None x from b)) (sym is) (none_fits rest from b (entries_of b.channel) refl f)
look_case rest (Some place) found from b is f = place_fits rest place found from b is f

pub look_fits : (rest : List Entry) (from : ℕ) (id : Id) (b : Bench) → BenchFits rest b → BenchFits rest (answered from id b)
look_fits rest from id b f = look_case rest (first_past id (entries_of b.channel)) (found_on id b) from b (look-finds id (entries_of b.channel)) f
