use Rattle.std.proofs.Common.{◌+◌, ◌*◌, ◌∙◌, ap, sym, arith, length, take, drop, List}
use Rattle.std.specs.Prelude.{position}
use Rattle.nc_slots.specs.Slot.{is_unused}
use Rattle.nc_slots.specs.declared.slot.Slot.{Slot}
use Rattle.nc_slots.proofs.Runs.{told, begins_within, no_lowest, lowest_found, never_none, lowest_within}
use Rattle.nc_slots.proofs.row.SlotRow.lowest_unused.Goals as goal

pub returns-in_err-first : goal.returns-in_err-first
returns-in_err-first g c =
    let runs = ap (position told) (sym c.deref.ensures.value) ∙ sym c.first_run.ensures ∙ c.in_err-first.was in
    c.from_residual.ensures ∙ no_lowest c.self.inside.slots.items c.self.inside.runs.items c.self.invariant.told runs ∙ ap (position is_unused) c.self.view_is

pub overflow_mul-first : goal.overflow_mul-first
overflow_mul-first g c =
    let runs = ap (position told) (sym c.deref.ensures.value) ∙ sym c.first_run.ensures ∙ c.in_ok-first.was in
    let within = begins_within c.self.inside.slots.items c.self.inside.runs.items c.in_ok-first.field-0 c.self.invariant.told runs in
    omega (arith, within, c.self.invariant.few)

pub run_from-requires : goal.run_from-requires
run_from-requires g c =
    let runs = ap (position told) (sym c.deref.ensures.value) ∙ sym c.first_run.ensures ∙ c.in_ok-first.was in
    let within = begins_within c.self.inside.slots.items c.self.inside.runs.items c.in_ok-first.field-0 c.self.invariant.told runs in
    let same = ap length c.deref-2.ensures.value in
    omega (arith, within, same)

pub returns-in_err-place : goal.returns-in_err-place
returns-in_err-place g c =
    let runs = ap (position told) (sym c.deref.ensures.value) ∙ sym c.first_run.ensures ∙ c.in_ok-first.was in
    let r = c.in_ok-first.field-0 in
    let place = ap (λ (xs : List (Slot g.row.M.Denot)). position is_unused (take 64 (drop (r * 64) xs))) (sym c.deref-2.ensures.value) ∙ ap (position is_unused) (sym c.run_from.ensures) ∙ sym c.first_unused.ensures ∙ c.in_err-place.was in
    absurd (never_none c.self.inside.slots.items c.self.inside.runs.items r c.self.invariant.told runs place)

pub overflow_add-result : goal.overflow_add-result
overflow_add-result g c =
    let runs = ap (position told) (sym c.deref.ensures.value) ∙ sym c.first_run.ensures ∙ c.in_ok-first.was in
    let r = c.in_ok-first.field-0 in
    let place = ap (λ (xs : List (Slot g.row.M.Denot)). position is_unused (take 64 (drop (r * 64) xs))) (sym c.deref-2.ensures.value) ∙ ap (position is_unused) (sym c.run_from.ensures) ∙ sym c.first_unused.ensures ∙ c.in_ok-place.was in
    let found = lowest_found c.self.inside.slots.items c.self.inside.runs.items r c.in_ok-place.place c.self.invariant.told runs place in
    let within = lowest_within c.self.inside.slots.items (r * 64 + c.in_ok-place.place) found in
    omega (arith, within, c.self.invariant.few)

pub overflow_cast-result : goal.overflow_cast-result
overflow_cast-result g c =
    let runs = ap (position told) (sym c.deref.ensures.value) ∙ sym c.first_run.ensures ∙ c.in_ok-first.was in
    let r = c.in_ok-first.field-0 in
    let place = ap (λ (xs : List (Slot g.row.M.Denot)). position is_unused (take 64 (drop (r * 64) xs))) (sym c.deref-2.ensures.value) ∙ ap (position is_unused) (sym c.run_from.ensures) ∙ sym c.first_unused.ensures ∙ c.in_ok-place.was in
    let found = lowest_found c.self.inside.slots.items c.self.inside.runs.items r c.in_ok-place.place c.self.invariant.told runs place in
    let within = lowest_within c.self.inside.slots.items (r * 64 + c.in_ok-place.place) found in
    omega (arith, within, c.self.invariant.few)

pub returns : goal.returns
returns g c =
    let runs = ap (position told) (sym c.deref.ensures.value) ∙ sym c.first_run.ensures ∙ c.in_ok-first.was in
    let r = c.in_ok-first.field-0 in
    let place = ap (λ (xs : List (Slot g.row.M.Denot)). position is_unused (take 64 (drop (r * 64) xs))) (sym c.deref-2.ensures.value) ∙ ap (position is_unused) (sym c.run_from.ensures) ∙ sym c.first_unused.ensures ∙ c.in_ok-place.was in
    lowest_found c.self.inside.slots.items c.self.inside.runs.items r c.in_ok-place.place c.self.invariant.told runs place ∙ ap (position is_unused) c.self.view_is
