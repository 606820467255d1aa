use Rattle.std.specs.Prelude.{bytes_eq}
use Rattle.std.proofs.Common.{◌∙◌, sym, ap, length, take, min}
use Rattle.std.specs.List.{list_any}
use Rattle.nc_types.proofs.LaterNames.{not_before}
use Rattle.nc_types.proofs.seen.SeenNames.has.Goals as goal

pub returns-else-is_among : goal.returns-else-is_among
returns-else-is_among c =
    let first = ap (λ l. list_any (bytes_eq c.args.name.now) (take c.min-few.result l)) (sym c.deref.ensures.value) ∙ sym c.is_among.ensures ∙ c.if-is_among.false in
    c.contains.ensures ∙ c.self.invariant c.args.name.now
    ∙ not_before c.self.inside.names.items c.args.name.now c.min-few.result (c.min-few.ensures ∙ ap (λ n. min n 8) (c.len.ensures ∙ sym c.deref.ensures.len ∙ ap length c.deref.ensures.value)) first
    ∙ ap (list_any (bytes_eq c.args.name.now)) c.self.view_is
