use Rattle.std.proofs.Common.{rules, ◌≡◌, ◌-◌, ◌∙◌, ap, sym, arith}
use Rattle.std.specs.List.{position}
use Rattle.nc_spool_state.specs.Uses.{one_use, counted, tells_use}
use Rattle.nc_spool_state.proofs.Counting.{some_place, count_goes, count_falls, none_goes}
use Rattle.nc_spool_state.proofs.uses.uncount.Goals as goal

pub returns-in_default-place_telling : goal.returns-in_default-place_telling
returns-in_default-place_telling c o n =
    let owner = c.in-Found.owner in
    let g = c.in-Found.g in
    let items = c.args.counts.now.items in
    let none = sym (ap (position (tells_use owner g)) (sym c.deref.ensures.value) ∙ sym c.place_telling.ensures.place ∙ c.in_default-place_telling.is) in
    none_goes o n owner g items none
    ∙ ap (λ place. counted o n items - one_use o n place) (sym c.in-Found.is)

pub overflow_sub-places : goal.overflow_sub-places
overflow_sub-places c =
    let owner = c.in-Found.owner in
    let g = c.in-Found.g in
    let found = ap (position (tells_use owner g)) (sym c.deref.ensures.value) ∙ sym c.place_telling.ensures.place ∙ c.in-Some.is in
    some_place owner g owner g c.args.counts.now.items c.in-Some.at c.index.result.now found c.index.ensures

pub returns-then-places-eq0 : goal.returns-then-places-eq0
returns-then-places-eq0 c o n =
    let owner = c.in-Found.owner in
    let g = c.in-Found.g in
    let items = c.args.counts.now.items in
    let u = c.index.result.now in
    let found = ap (position (tells_use owner g)) (sym c.deref.ensures.value) ∙ sym c.place_telling.ensures.place ∙ c.in-Some.is in
    let some = some_place o n owner g items c.in-Some.at u found c.index.ensures in
    let last : u.places ≡ 1 = omega (arith, some, c.if-places-eq0.true) in
    ap (counted o n) c.remove.ensures.items
    ∙ count_goes o n owner g items c.in-Some.at u found c.index.ensures last
    ∙ ap (λ place. counted o n items - one_use o n place) (sym c.in-Found.is)

pub returns-else-places-eq0 : goal.returns-else-places-eq0
returns-else-places-eq0 c o n =
    let owner = c.in-Found.owner in
    let g = c.in-Found.g in
    let items = c.args.counts.now.items in
    let found = ap (position (tells_use owner g)) (sym c.deref.ensures.value) ∙ sym c.place_telling.ensures.place ∙ c.in-Some.is in
    count_falls o n owner g items c.in-Some.at c.index.result.now found c.index.ensures
    ∙ ap (λ place. counted o n items - one_use o n place) (sym c.in-Found.is)
