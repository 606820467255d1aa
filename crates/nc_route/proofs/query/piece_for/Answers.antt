use Rattle.std.proofs.Common.{rules}
use Rattle.std.proofs.lemmas.Iterator.Search.{find_from_yields_List}
use Rattle.std.proofs.lemmas.Iterator.Splits.{YieldsList-from_slice_split}
use Rattle.nc_route.specs.Query.{is_and, gives}
use Rattle.nc_route.proofs.query.piece_for.Goals as goal

pub returns : goal.returns
returns c =
    find_from_yields_List (gives c.args.name.now) _ _ _ c.find.ensures.ran
    (YieldsList-from_slice_split _ is_and c.args.query.now c.split.ensures.rest c.split.ensures.done c.split.ensures.closure (λ x b q h. (search rules, search rules)))
    (λ x b q h. (search rules, search rules))
