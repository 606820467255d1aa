use Rattle.std.proofs.Common.{◌∙◌, ap, length, take, drop, ℕ, ◌-◌}
use Rattle.std.proofs.lemmas.List.{take_min, take_rest}
use Rattle.nc_slots.proofs.row.run_from.Goals as goal

pub returns : goal.returns
returns g c =
    let slots = c.args.slots.now in
    let rest = take (length slots - c.args.first) (drop c.args.first slots) in
    ap (λ (n : ℕ). take n rest) c.min.ensures ∙ take_min 64 rest ∙ ap (take 64) (take_rest slots c.args.first)
