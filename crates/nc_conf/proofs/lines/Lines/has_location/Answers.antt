use Rattle.std.proofs.Common.{true, false, sym, ◌∙◌, ap}
use Rattle.std.specs.List.{list_any}
use Rattle.nc_conf.specs.Lines.{is_location_at}
use Rattle.nc_conf.proofs.lines.Lines.has_location.Goals as goal

pub returns-then-exact : goal.returns-then-exact
returns-then-exact c =
    c.contains.ensures
    ∙ c.self.invariant.1 (record { block = c.args.block; text = c.args.path })
    ∙ ap (list_any (is_location_at true c.args.block c.args.path.now)) c.self.view_is
    ∙ ap (λ exact. list_any (is_location_at exact c.args.block c.args.path.now) c.args.self.now) (sym c.if-exact.true)

pub returns-else-exact : goal.returns-else-exact
returns-else-exact c =
    c.contains-else-exact.ensures
    ∙ c.self.invariant.2 (record { block = c.args.block; text = c.args.path })
    ∙ ap (list_any (is_location_at false c.args.block c.args.path.now)) c.self.view_is
    ∙ ap (λ exact. list_any (is_location_at exact c.args.block c.args.path.now) c.args.self.now) (sym c.if-exact.false)
