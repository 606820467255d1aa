use Rattle.std.proofs.Common.{◌∙◌}
use Rattle.nc_slot_rule.proofs.Allowed.{begins}
use Rattle.nc_slot_rule.proofs.steps.unused.Goals as goal

pub of_words-requires : goal.of_words-requires
of_words-requires c = begins c.args.size.per c.args.size.words c.as_slice.result.now (c.as_slice.ensures.value ∙ c.in_ok-zeros.ensures.items_if_clones_equal (λ y h. h))
