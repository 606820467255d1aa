-- How the slots of workers are cut off a new set.
use Rattle.std.proofs.Common.{◌≡◌, ◌<◌, ◌≤◌, ◌+◌, ◌-◌, ◌*◌, ◌^◌, ℕ, zero, suc, List, [], ◌∷◌, ◌++◌, refl, sym, ap, ◌∙◌, arith, subst, length, take, drop, replicate}
use Rattle.std.proofs.lemmas.List.{length-replicate, take-replicate, drop-replicate}
use native.Mathlib.Nat.{suc-mul}
use Rattle.std.specs.declared.sync.Arc.{Arc}
use Rattle.atomic_table.specs.Seated.{TableId}
use Rattle.nc_types.specs.Message.{Message}
use Rattle.nc_slots.specs.declared.slot.Slot.{Slot}
use Rattle.nc_slots.specs.declared.slot.Slot.TheVariants.{Unused}
use Rattle.nc_slot_rule.specs.Views.{Bare, all_unused, rest_of, part_of}
use Rattle.nc_slot_rule.specs.declared.view.Seen.{Seen}
use Rattle.nc_shared_slots.specs.Shared.{SharedAt, bare, told, IsRow}
use Rattle.nc_shared_slots.specs.Opened.{IsRest, new_handles}

bare_unused : (M : Type 0) (n : ℕ) → bare {M = M} (replicate n Unused) ≡ replicate n Unused
bare_unused M zero = refl
bare_unused M (suc n) = ap (λ (rest : List Bare). Unused ∷ rest) (bare_unused M n)

pub told_unused : (Z : Type 0) (n : ℕ) → told {Z = Z} (replicate n Unused) ≡ replicate n Unused
told_unused Z zero = refl
told_unused Z (suc n) = ap (λ (rest : List (Slot Message)). Unused ∷ rest) (told_unused Z n)

pub told_new : {Z : Type 0} (slots : List (Slot (Arc Message Z))) (n : ℕ) → slots ≡ replicate n Unused → told slots ≡ replicate n Unused
told_new {Z = Z} slots n is = ap told is ∙ told_unused Z n

-- all slots of a new set
pub rest_new : (words seat : TableId) (v : Seen) (per count : ℕ) → seat ≡ words → v ≡ all_unused per count → words.words ≡ count → 0 < count → count < 2 ^ 64 → IsRest words seat v 0 per
rest_new words seat v per count sits is counted some bound =
    let row : v.row ≡ replicate count Unused = ap (λ (u : Seen). u.row) is in
    let unused : Bare = Unused in
    let len : length v.row ≡ count = ap length row ∙ length-replicate count unused in
    record {
      sits = sits;
      begins = ap (λ (u : Seen). u.first) is;
      cuts = ap (λ (u : Seen). u.per) is;
      knows = row ∙ ap (λ (n : ℕ). replicate n unused) (sym len);
      idle = ap (λ (u : Seen). u.granting) is;
      there = omega arith;
      some = omega arith;
      bound = omega arith;
    }

-- one worker's slots are cut off
pub rest_cut : (words seat now : TableId) (v w : Seen) (first per after : ℕ) → IsRest words seat v first per → now ≡ seat → w ≡ rest_of v → per ≤ length v.row → after ≡ first + per → (IsRest words now w after per) × (length w.row ≡ length v.row - per)
rest_cut words seat now v w first per after rest same is le after_is =
    let unused : Bare = Unused in
    let cut : w.row ≡ drop per v.row = ap (λ (u : Seen). u.row) is ∙ ap (λ (n : ℕ). drop n v.row) rest.cuts in
    let row : w.row ≡ replicate (length v.row - per) unused = cut ∙ ap (drop per) rest.knows ∙ drop-replicate per (length v.row) unused in
    let len : length w.row ≡ length v.row - per = ap length row ∙ length-replicate (length v.row - per) unused in (
      record {
        sits = same ∙ rest.sits;
        begins = ap (λ (u : Seen). u.first) is ∙ omega (arith, rest.begins, rest.cuts);
        cuts = ap (λ (u : Seen). u.per) is ∙ rest.cuts;
        knows = row ∙ ap (λ (n : ℕ). replicate n unused) (sym len);
        idle = ap (λ (u : Seen). u.granting) is ∙ rest.idle;
        there = omega (arith, rest.there);
        some = rest.some;
        bound = rest.bound;
      },
      len,
    )

pub row_cut : {M : Type 0} (table words mine seat now : TableId) (v w : Seen) (first per : ℕ) (slots : List (Slot M)) → IsRest words seat v first per → words ≡ table → mine ≡ words → now ≡ seat → w ≡ part_of v → per ≤ length v.row
    → slots ≡ replicate per Unused → IsRow table mine now w first slots
row_cut {M = M} table words mine seat now v w first per slots rest named shared same is le slots_are =
    let unused : Bare = Unused in let none : Slot M = Unused in
    let cut : w.row ≡ take per v.row = ap (λ (u : Seen). u.row) is ∙ ap (λ (n : ℕ). take n v.row) rest.cuts in
    let row : w.row ≡ replicate per unused = cut ∙ ap (take per) rest.knows ∙ take-replicate per (length v.row) unused le in
    let len : length slots ≡ per = ap length slots_are ∙ length-replicate per none in
    let counted = ap (λ (t : TableId). t.words) named in
    record {
      set = shared ∙ named;
      sits = same ∙ rest.sits ∙ named;
      begins = ap (λ (u : Seen). u.first) is ∙ rest.begins;
      knows = row ∙ sym (ap bare slots_are ∙ bare_unused M per);
      idle = ap (λ (u : Seen). u.granting) is;
      there = omega (arith, rest.there);
      bound = omega (arith, rest.bound);
    }

-- so many workers more have their slots
pub next_cut : (workers n per left : ℕ) → n < workers → (workers - n) * per ≤ left → (per ≤ left) × ((workers - (n + 1)) * per ≤ left - per)
next_cut workers n per left lt le =
    let m = workers - (n + 1) in
    let one_more : workers - n ≡ suc m = omega arith in
    let le' : m * per + per ≤ left = subst (λ (k : ℕ). k ≤ left) (suc-mul m per) (subst (λ (k : ℕ). k * per ≤ left) one_more le) in
    (omega (arith, le'), omega (arith, le'))

-- one worker's handle more
pub handles_next : (handles after : List SharedAt) (n slots per : ℕ) (row : List (Slot Message)) (item : SharedAt) → handles ≡ new_handles n slots → after ≡ handles ++ item ∷ [] → item ≡ record { owner = n; slots = row }
    → row ≡ replicate per Unused → per ≡ slots → after ≡ new_handles (n + 1) slots
handles_next handles after n slots per row item are is item_is row_is per_is =
    let next : suc n ≡ n + 1 = omega arith in
    let unused : row ≡ replicate slots Unused = row_is ∙ ap (λ (k : ℕ). replicate k Unused) per_is in
    is ∙ ap (λ (h : List SharedAt). h ++ item ∷ []) are ∙ ap (λ (x : SharedAt). new_handles n slots ++ x ∷ []) item_is
    ∙ ap (λ (r : List (Slot Message)). new_handles n slots ++ record { owner = n; slots = r } ∷ []) unused ∙ ap (λ (k : ℕ). new_handles k slots) next
