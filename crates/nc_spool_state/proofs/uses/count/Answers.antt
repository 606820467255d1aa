use Rattle.std.proofs.Common.{rules, ◌≡◌, ◌+◌, ◌∙◌, ap, sym, slice_set}
use Rattle.std.specs.List.{position}
use Rattle.nc_spool_state.specs.Uses.{one_use, is_count, counted}
use Rattle.nc_spool_state.proofs.Counting.{as_count, count_rises}
use Rattle.nc_spool_state.proofs.uses.count.Goals as goal

pub returns-in-Some-checked_add-clause-ok : goal.returns-in-Some-checked_add-clause-ok
returns-in-Some-checked_add-clause-ok c o n =
    let owner = c.in-Found.owner in
    let g = c.in-Found.g in
    let items = c.args.counts.now.items in
    let u = c.index.result.now in
    let found = ap (position (is_count owner g)) (sym c.deref.ensures.value) ∙ sym c.place_of.ensures.place ∙ c.in-Some.is in
    let more : c.in-Some-checked_add.places ≡ u.places + 1 = search rules in
    ap (λ p. counted o n (slice_set items c.in-Some.at (as_count owner g p))) more
    ∙ count_rises o n owner g items c.in-Some.at u found c.index.ensures
    ∙ ap (λ place. counted o n items + one_use o n place) (sym c.in-Found.is)
