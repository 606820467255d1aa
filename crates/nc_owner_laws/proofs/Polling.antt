-- A bench fits where slots of it were polled.
use Rattle.std.proofs.Common.{◌≡◌, ℕ, ◌+◌, ◌≤◌, Bool, true, false, cond, not, List, [], ◌∷◌, refl, sym, ap, ◌∙◌, arith, length, map, filter, fold, eqb}
use Rattle.std.proofs.lemmas.Bool.{eqb-true}
use Rattle.std.proofs.lemmas.List.{length-set}
use Rattle.nc_types.specs.Message.{Message}
use Rattle.nc_buffer.specs.declared.entry.Entry.{Entry}
use Rattle.nc_slots.specs.Slot.{slot_at, polled}
use Rattle.nc_slots.specs.declared.slot.Slot.{Slot}
use Rattle.nc_owner.specs.declared.poll.PollAnswer.{PollAnswer}
use Rattle.nc_owner.specs.Ascending.{without_number}
use Rattle.nc_owner.specs.State.{Bench, entries_of}
use Rattle.nc_owner.specs.Poll.{polled_slot, polled_all, slot_of, is_held, is_free, held_slots, free_slots, freed_desk}
use Rattle.nc_owner.specs.Publish.{polled_bench}
use Rattle.nc_owner_laws.specs.Used.{is_retired, bit, times, Agrees}
use Rattle.nc_owner_laws.specs.Kept.{slots_in, AreIn}
use Rattle.nc_owner_laws.proofs.Benches.{BenchFits}
use Rattle.nc_owner_laws.proofs.Used.{agrees-same, unless_free, polled_one, eqb_self}
use Rattle.nc_owner_laws.proofs.Kept.{times-without, in_poll, bit_le}

pub length_polled : (answers : List PollAnswer) (row : List (Slot Message)) → length (polled_all answers row) ≡ length row
length_polled [] row = refl
length_polled (a ∷ answers) row = length_polled answers (polled_slot row a) ∙ length-set row a.slot (polled a.held (slot_at row a.slot))

pub in_polled_all : (answers : List PollAnswer) (row : List (Slot Message)) (es : List Entry) → AreIn row es → AreIn (polled_all answers row) es
in_polled_all [] row es a = a
in_polled_all (x ∷ answers) row es a = in_polled_all answers (polled_slot row x) es (in_poll row x.slot x.held es a)

-- free slots go from the retired ones
free_case : (a : PollAnswer) (b : Bool) (xs : List ℕ) (answers : List PollAnswer) → map slot_of (cond (not b) (a ∷ filter is_free answers) (filter is_free answers)) ≡ cond b (free_slots answers) (a.slot ∷ free_slots answers)
free_case a true xs answers = refl
free_case a false xs answers = refl

goes : (a : PollAnswer) (b : Bool) (xs fs : List ℕ) (s : ℕ) → unless_free b a.slot (times s xs) s ≡ times s (cond b xs (without_number xs a.slot))
goes a true xs fs s = refl
goes a false xs fs s = sym (times-without s a.slot xs)

folded : (a : PollAnswer) (b : Bool) (xs fs : List ℕ) → fold without_number (cond b xs (without_number xs a.slot)) fs ≡ fold without_number xs (cond b fs (a.slot ∷ fs))
folded a true xs fs = refl
folded a false xs fs = refl

pub freed_agree : (B : ℕ → ℕ) (xs : List ℕ) (answers : List PollAnswer) (row : List (Slot Message)) → Agrees B (λ s. times s xs) row → Agrees B (λ s. times s (fold without_number xs (free_slots answers))) (polled_all answers row)
freed_agree B xs [] row a = a
freed_agree B xs (x ∷ answers) row a =
    let ys = cond x.held xs (without_number xs x.slot) in
    let first : Agrees B (λ s. times s ys) (polled_slot row x) = agrees-same _ _ _ _ _ (λ s. refl) (λ s. goes x x.held xs (free_slots answers) s) (polled_one B (λ s. times s xs) row x.slot x.held a) in
    let rest = freed_agree B ys answers (polled_slot row x) first in
    agrees-same _ _ _ _ _ (λ s. refl) (λ s. ap (times s) (folded x x.held xs (free_slots answers) ∙ ap (fold without_number xs) (sym (free_case x x.held xs answers)))) rest

-- all retired slots are polled: those that are held stay
held_case : (a : PollAnswer) (b : Bool) (answers : List PollAnswer) (s : ℕ) → times s (map slot_of (cond b (a ∷ filter is_held answers) (filter is_held answers))) ≡ cond b (bit (eqb a.slot s)) 0 + times s (held_slots answers)
held_case a true answers s = refl
held_case a false answers s = omega arith

poll_case : (P : ℕ → ℕ) (k n s : ℕ) (b : Bool) → (s ≡ k → P s + (1 + n) ≤ 1) → unless_free b k (P s + (bit (eqb k s) + n)) s ≡ (P s + cond b (bit (eqb k s)) 0) + n
poll_case P k n s true le = omega arith
poll_case P k n s false le = by (eqb k s) refl
  where
    by : (c : Bool) → eqb k s ≡ c → cond c 0 (P s + (bit c + n)) ≡ (P s + 0) + n
    by true e = (let le2 = le (sym (eqb-true k s e)) in omega arith)
    by false e = omega arith

pub held_agree : (B P : ℕ → ℕ) (answers : List PollAnswer) (row : List (Slot Message)) → Agrees B (λ s. P s + times s (map slot_of answers)) row → Agrees B (λ s. P s + times s (held_slots answers)) (polled_all answers row)
held_agree B P [] row a = a
held_agree B P (x ∷ answers) row a =
    let Q = λ (s : ℕ). P s + cond x.held (bit (eqb x.slot s)) 0 in
    let once : (s : ℕ) → s ≡ x.slot → P s + (1 + times s (map slot_of answers)) ≤ 1 =
    λ s is. omega (arith, a.of_retired s, bit_le (is_retired (slot_at row s)), ap bit (ap (eqb x.slot) is ∙ eqb_self x.slot)) in
    let first : Agrees B (λ s. Q s + times s (map slot_of answers)) (polled_slot row x) =
    agrees-same _ _ _ _ _ (λ s. refl) (λ s. poll_case P x.slot (times s (map slot_of answers)) s x.held (once s)) (polled_one B (λ s. P s + (bit (eqb x.slot s) + times s (map slot_of answers))) row x.slot x.held a) in
    agrees-same _ _ _ _ _ (λ s. refl) (λ s. omega (arith, held_case x x.held answers s)) (held_agree B Q answers (polled_slot row x) first)

none_more : (n : ℕ) → 0 + n ≡ n
none_more n = omega arith

pub polled_fits : (rest : List Entry) (answers : List PollAnswer) (b : Bench) → map slot_of answers ≡ b.desk.retired → BenchFits rest b → BenchFits rest (polled_bench answers b)
polled_fits rest answers b each f = record {
  slots = length_polled answers b.row ∙ f.slots;
  apart = agrees-same _ _ _ _ _ (λ s. refl) (λ s. none_more (times s (held_slots answers))) (held_agree (λ k. times k (slots_in rest) + times k (slots_in (entries_of b.channel))) (λ s. 0) answers b.row (agrees-same _ _ _ _ _ (λ s. refl) (λ s. omega (arith, ap (times s) each)) f.apart));
  number = f.number;
  others = in_polled_all answers b.row rest f.others;
  kept = in_polled_all answers b.row (entries_of b.channel) f.kept;
  regular = f.regular;
}

-- some retired slots are polled: those that are free go
pub freed_fits : (rest : List Entry) (answers : List PollAnswer) (b : Bench) → BenchFits rest b → BenchFits rest (record b { desk = freed_desk answers b.desk; row = polled_all answers b.row })
freed_fits rest answers b f = record {
  slots = length_polled answers b.row ∙ f.slots;
  apart = freed_agree (λ k. times k (slots_in rest) + times k (slots_in (entries_of b.channel))) b.desk.retired answers b.row f.apart;
  number = f.number;
  others = in_polled_all answers b.row rest f.others;
  kept = in_polled_all answers b.row (entries_of b.channel) f.kept;
  regular = f.regular;
}
