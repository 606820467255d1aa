use Rattle.std.proofs.Common.{◌∙◌, ap, Some}
use Rattle.nc_route.proofs.Steps.{subscribed}
use Rattle.nc_route.proofs.route.with_list.Goals as goal

pub returns-in-Subscribe : goal.returns-in-Subscribe
returns-in-Subscribe c = subscribed c.args.location.now c.args.request.now c.subscribe.result (c.requires.kind ∙ ap Some c.in-Subscribe.is) c.subscribe.ensures
