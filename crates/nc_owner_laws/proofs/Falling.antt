-- A leaving slot that is held once it has left was held before.
use Rattle.std.proofs.Common.{◌≡◌, ⊎_elim, ℕ, ◌<◌, ◌≤◌, Bool, true, false, cond, List, [], ◌∷◌, refl, sym, ap, ◌∙◌, subst, arith, length, set, map, filter, fold, eqb}
use Rattle.std.proofs.lemmas.Bool.{cases_eq, cases_lt, eqb-true}
use Rattle.std.proofs.lemmas.List.{get_or-set_same, get_or-set_other, get_or_past, set_past}
use Rattle.nc_types.specs.Message.{Message}
use Rattle.nc_buffer.specs.declared.entry.Entry.{Entry}
use Rattle.nc_slots.specs.Slot.{slot_at, retired, polled, cleared, most_holds}
use Rattle.nc_slots.specs.declared.slot.Slot.{Slot}
use Rattle.nc_slots.specs.declared.slot.Slot.TheVariants.{Unused, Buffered, Retired}
use Rattle.nc_owner.specs.declared.poll.PollAnswer.{PollAnswer}
use Rattle.nc_owner.specs.Leave.{left_row}
use Rattle.nc_owner.specs.Poll.{AnswersFit, polled_slot, polled_all, slot_of, is_held, held_slots}
use Rattle.nc_owner.specs.Publish.{is_stored, asked, leaving, left_slots, slots_of, publish_cleared}
use Rattle.nc_owner_laws.specs.Used.{bit, times}
use Rattle.nc_owner_laws.specs.Keeping.{HoldsFallLaw}
use Rattle.nc_owner_laws.proofs.Room.{times-ascending, times-answers}

-- how many holds a slot of a row can have
abbrev most : List (Slot Message) → ℕ → ℕ
most row s = most_holds (slot_at row s)

-- ---- one slot

polling_le : (held : Bool) (x : Slot Message) → most_holds (polled held x) ≤ most_holds x
polling_le true x = omega arith
polling_le false Unused = omega arith
polling_le false (Buffered message clear grants) = omega arith
polling_le false (Retired clear grants) = omega arith

retiring_le : (x : Slot Message) → most_holds (retired x) ≤ most_holds x
retiring_le Unused = omega arith
retiring_le (Buffered message clear grants) = omega arith
retiring_le (Retired clear grants) = omega arith

cleared_none : (x : Slot Message) → most_holds (cleared x) ≡ 0
cleared_none Unused = refl
cleared_none (Buffered message clear grants) = refl
cleared_none (Retired clear grants) = refl

-- where a slot can have no more holds than before, no slot of the row can
set_le : (row : List (Slot Message)) (k : ℕ) (x : Slot Message) (s : ℕ) → most_holds x ≤ most row k → most (set row k x) s ≤ most row s
set_le row k x s le = ⊎_elim
    (λ (is : s ≡ k). subst (λ (j : ℕ). most (set row k x) j ≤ most row j) (sym is) here)
    (λ (n : s ≡ k → ⊥). let same : most (set row k x) s ≡ most row s = ap most_holds (get_or-set_other row k s x Unused n) in omega (arith, same))
    (cases_eq s k)
  where
    here : most (set row k x) k ≤ most row k
    here = ⊎_elim
        (λ (lt : k < length row). let same : most (set row k x) k ≡ most_holds x = ap most_holds (get_or-set_same row k x Unused lt) in omega (arith, same, le))
        (λ (ge : length row ≤ k). let same : most (set row k x) k ≡ most row k = ap (λ (r : List (Slot Message)). most r k) (set_past row k x ge) in omega (arith, same))
        (cases_lt k (length row))

-- ---- polls

poll_le : (row : List (Slot Message)) (a : PollAnswer) (s : ℕ) → most (polled_slot row a) s ≤ most row s
poll_le row a s = set_le row a.slot (polled a.held (slot_at row a.slot)) s (polling_le a.held (slot_at row a.slot))

polls_le : (answers : List PollAnswer) (row : List (Slot Message)) (s : ℕ) → most (polled_all answers row) s ≤ most row s
polls_le [] row s = omega arith
polls_le (a ∷ answers) row s = let rest : most (polled_all answers (polled_slot row a)) s ≤ most (polled_slot row a) s = polls_le answers (polled_slot row a) s in omega (arith, rest, poll_le row a s)

-- a slot that a poll found free can't be held
free_none : (row : List (Slot Message)) (a : PollAnswer) → a.held ≡ false → most (polled_slot row a) a.slot ≡ 0
free_none row a free = ⊎_elim
    (λ (lt : a.slot < length row). ap most_holds (get_or-set_same row a.slot (polled a.held (slot_at row a.slot)) Unused lt) ∙ (ap (λ (h : Bool). most_holds (polled h (slot_at row a.slot))) free ∙ cleared_none (slot_at row a.slot)))
    (λ (ge : length row ≤ a.slot). ap (λ (r : List (Slot Message)). most r a.slot) (set_past row a.slot (polled a.held (slot_at row a.slot)) ge) ∙ ap most_holds (get_or_past row a.slot Unused ge))
    (cases_lt a.slot (length row))

-- a polled slot that can still be held was found held
stays_held : (answers : List PollAnswer) (row : List (Slot Message)) (s : ℕ) → 0 < most (polled_all answers row) s → 0 < times s (map slot_of answers) → 0 < times s (held_slots answers)
stays_held [] row s can lt = absurd (omega (arith, lt))
stays_held (a ∷ answers) row s can lt = by a.held (eqb a.slot s) refl refl (stays_held answers (polled_slot row a) s can)
  where
    by : (h c : Bool) → a.held ≡ h → eqb a.slot s ≡ c → (0 < times s (map slot_of answers) → 0 < times s (held_slots answers)) → 0 < times s (map slot_of (cond h (a ∷ filter is_held answers) (filter is_held answers)))
    by true true held at rest = omega (arith, ap bit at)
    by true false held at rest = omega (arith, rest (omega (arith, lt, ap bit at)))
    by false true free at rest =
        let none : most (polled_slot row a) s ≡ 0 = ap (most (polled_slot row a)) (sym (eqb-true a.slot s at)) ∙ free_none row a free in
        absurd (omega (arith, can, polls_le answers (polled_slot row a) s, none))
    by false false free at rest = rest (omega (arith, lt, ap bit at))

-- a slot that polls find held can be held
can_hold : (answers : List PollAnswer) (row : List (Slot Message)) (s : ℕ) → AnswersFit row answers → 0 < times s (held_slots answers) → 0 < most row s
can_hold [] row s fit lt = absurd (omega (arith, lt))
can_hold (a ∷ answers) row s fit lt = by a.held (eqb a.slot s) refl refl lt (can_hold answers (polled_slot row a) s fit.1)
  where
    by : (h c : Bool) → a.held ≡ h → eqb a.slot s ≡ c → 0 < times s (map slot_of (cond h (a ∷ filter is_held answers) (filter is_held answers)))
        → (0 < times s (held_slots answers) → 0 < most (polled_slot row a) s) → 0 < most row s
    by true true held at some rest = subst (λ (k : ℕ). 0 < most row k) (eqb-true a.slot s at) (fit.0 held)
    by true false held at some rest = omega (arith, rest (omega (arith, some, ap bit at)), poll_le row a s)
    by false c free at some rest = omega (arith, rest some, poll_le row a s)

-- ---- entries leave

left_le : (es : List Entry) (row : List (Slot Message)) (s : ℕ) → most (fold left_row row es) s ≤ most row s
left_le [] row s = omega arith
left_le (e ∷ es) row s =
    let rest : most (fold left_row (left_row row e) es) s ≤ most (left_row row e) s = left_le es (left_row row e) s in
    let one : most (left_row row e) s ≤ most row s = set_le row e.slot (retired (slot_at row e.slot)) s (retiring_le (slot_at row e.slot)) in
    omega (arith, rest, one)

-- the slots were polled before too, and one that was found free then could not be held later
pub holds_fall : HoldsFallLaw
holds_fall exact counts o row s polls p is slot lt =
    let b = publish_cleared o polls row s in
    let before = polled_all polls.leaving b.row in
    let later : 0 < most (left_slots o.length (asked polls.leaving b)) slot = can_hold polls.left (left_slots o.length (asked polls.leaving b)) slot (p.others.after_leaving_fit (ap is_stored is)) lt in
    let fewer : most (left_slots o.length (asked polls.leaving b)) slot ≤ most before slot = left_le (leaving o.length b) before slot in
    let left : times slot (map slot_of polls.left) ≡ times slot (slots_of (leaving o.length b)) = ap (times slot) p.others.after_leaving.each ∙ times-ascending slot (slots_of (leaving o.length b)) in
    let asked_slots : times slot (map slot_of polls.leaving) ≡ times slot (slots_of (leaving o.length b)) = ap (times slot) p.others.before.each in
    stays_held polls.leaving b.row slot (omega (arith, later, fewer)) (omega (arith, lt, times-answers slot polls.left, left, asked_slots))
