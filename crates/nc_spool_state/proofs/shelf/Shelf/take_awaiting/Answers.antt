use Rattle.std.proofs.Common.{refl, ◌∙◌}
use Rattle.nc_spool_state.specs.Spool.{awaits}
use Rattle.nc_spool_state.proofs.Firsts.{found-taken, found-left, missed-taken, missed-left}
use Rattle.nc_spool_state.proofs.shelf.Shelf.take_awaiting.Goals as goal

pub returns-in_err-place-clause-taken : goal.returns-in_err-place-clause-taken
returns-in_err-place-clause-taken c = c.from_residual.ensures ∙ missed-taken (awaits c.args.number) _ _ _ c.in_err-place.ensures.place c.deref.ensures.value c.self.view_is

pub returns-in_err-place-clause-others : goal.returns-in_err-place-clause-others
returns-in_err-place-clause-others c = missed-left (awaits c.args.number) _ _ _ c.in_err-place.ensures.place c.deref.ensures.value c.self.view_is

pub returns-clause-taken : goal.returns-clause-taken
returns-clause-taken c = found-taken (awaits c.args.number) _ _ _ _ _ c.in_ok-place.ensures.place (c.deref.ensures.value ∙ c.self.view_is) refl c.take_at.ensures.value

pub returns-clause-others : goal.returns-clause-others
returns-clause-others c = found-left (awaits c.args.number) _ _ _ _ _ c.in_ok-place.ensures.place (c.deref.ensures.value ∙ c.self.view_is) refl c.take_at.ensures.items
