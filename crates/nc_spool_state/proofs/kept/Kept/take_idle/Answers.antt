use Rattle.std.proofs.Common.{◌∙◌}
use Rattle.nc_spool_state.specs.Kept.{is_idle}
use Rattle.nc_spool_state.proofs.Firsts.{found-taken, found-left, missed-taken, missed-left}
use Rattle.nc_spool_state.proofs.kept.Kept.take_idle.Goals as goal

pub returns-in_err-place-clause-taken : goal.returns-in_err-place-clause-taken
returns-in_err-place-clause-taken g c = c.from_residual.ensures ∙ missed-taken (is_idle c.args.shelf.now) _ _ _ c.in_err-place.ensures.place c.deref.ensures.value c.self.view_is

pub returns-in_err-place-clause-others : goal.returns-in_err-place-clause-others
returns-in_err-place-clause-others g c = missed-left (is_idle c.args.shelf.now) _ _ _ c.in_err-place.ensures.place c.deref.ensures.value c.self.view_is

pub returns-clause-taken : goal.returns-clause-taken
returns-clause-taken g c = found-taken (is_idle c.args.shelf.now) _ _ _ _ _ c.in_ok-place.ensures.place c.deref.ensures.value c.self.view_is c.remove.ensures.value

pub returns-clause-others : goal.returns-clause-others
returns-clause-others g c = found-left (is_idle c.args.shelf.now) _ _ _ _ _ c.in_ok-place.ensures.place c.deref.ensures.value c.self.view_is c.remove.ensures.items
