use Rattle.std.proofs.Common.{rules}
use Rattle.std.proofs.lemmas.Iterator.Consumers.{map_from_collect}
use Rattle.std.proofs.lemmas.Iterator.Splits.{YieldsList-from_slice_split}
use Rattle.nc_conf.specs.Value.{is_dollar}
use Rattle.nc_conf.proofs.config.pieces.Goals as goal

pub returns : goal.returns
returns c =
    map_from_collect _ c.collect.ensures.ran (YieldsList-from_slice_split _ is_dollar c.args.text.now c.split.ensures.rest c.split.ensures.done c.split.ensures.closure (λ x b q h. (search rules, search rules)))
