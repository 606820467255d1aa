use Rattle.std.proofs.Common.{ap, sym}
use Rattle.std.specs.Option.{option_map}
use Rattle.nc_spool_state.specs.Kept.{is_grant, own_hold}
use Rattle.nc_spool_state.proofs.Firsts.{found-taken, any-is_found}
use Rattle.nc_spool_state.proofs.kept.Kept.holding.Goals as goal

pub returns : goal.returns
returns g c = ap (option_map own_hold) (sym (found-taken (is_grant c.args.owner c.args.g) _ _ _ _ _ c.in-Some.ensures.place c.deref.ensures.value c.self.view_is c.index.ensures))

pub unreachable-requires : goal.unreachable-requires
unreachable-requires g c = any-is_found (is_grant c.args.owner c.args.g) _ _ _ c.in-None.ensures.place c.deref.ensures.value c.self.view_is c.requires
