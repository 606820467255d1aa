use Rattle.std.proofs.Common.{arith}
use Rattle.std.proofs.lemmas.Grind.{common_steps}
use Rattle.nc_types.proofs.Behind.{by-itself, further, through}
use Rattle.nc_types.proofs.tags.put_tags_from.Goals as goal

pub returns-in_err-put_bracketed-clause-err : goal.returns-in_err-put_bracketed-clause-err
returns-in_err-put_bracketed-clause-err c =
    by-itself c.from_residual-in_err-put_bracketed.result _
    (through c.args.out.now.items c.put.new.out.items c.put_bracketed.new.out.items
    (further c.args.out.now.items c.loop-j.out.items c.put.new.out.items _ c.loop-j.invariant.behind c.in_ok-put.ensures.ok)
    c.in_err-put_bracketed.ensures.err)

pub loop-j-preserved : goal.loop-j-preserved
loop-j-preserved c = record {
  so_far = grind (arith, common_steps);
  behind =
      further c.args.out.now.items c.put.new.out.items c.put_bracketed.new.out.items _
      (further c.args.out.now.items c.loop-j.out.items c.put.new.out.items _ c.loop-j.invariant.behind c.in_ok-put.ensures.ok)
      c.in_ok-put_bracketed.ensures.ok;
}
