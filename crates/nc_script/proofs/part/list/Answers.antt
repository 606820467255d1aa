use Rattle.std.proofs.Common.{ℕ, List, length, ◌<◌, subst, sym}
use Rattle.nc_script.proofs.Parts.{some_name}
use Rattle.nc_script.proofs.part.list.Goals as goal

pub distinct_names-requires : goal.distinct_names-requires
distinct_names-requires c = (c.in_ok-names.ensures.1, subst (λ (names : List (List ℕ)). 0 < length names) (sym c.in_ok-names.ensures.0) (some_name c.args.word.now))
