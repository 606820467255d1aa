use Rattle.std.proofs.Common.{arith, ◌∙◌}
use Rattle.std.proofs.lemmas.Grind.{common_steps}
use Rattle.nc_types.proofs.Behind.{by-itself, further}
use Rattle.nc_types.proofs.tags.put_more_tags.Goals as goal

pub returns-in_err-put_tag-clause-err : goal.returns-in_err-put_tag-clause-err
returns-in_err-put_tag-clause-err c =
    by-itself c.from_residual-in_err-put_tag.result _
    (further c.args.out.now.items c.loop-tag.out.items c.put_tag.new.out.items _ c.loop-tag.invariant.behind (c.in_err-put_tag.ensures.err ∙ c.in_ok-put.ensures.ok))

pub loop-tag-preserved : goal.loop-tag-preserved
loop-tag-preserved c = record {
  so_far = grind (arith, common_steps);
  behind =
      further c.args.out.now.items c.put.new.out.items c.put_tag.new.out.items _
      (further c.args.out.now.items c.loop-tag.out.items c.put.new.out.items _ c.loop-tag.invariant.behind c.in_ok-put.ensures.ok)
      c.in_ok-put_tag.ensures.ok;
}
