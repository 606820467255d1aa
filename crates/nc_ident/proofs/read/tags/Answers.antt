use Rattle.std.proofs.Common.{arith, sym, ◌∙◌}
use Rattle.nc_grammar.proofs.More.{comma_shorter}
use Rattle.nc_ident.proofs.Tags.{puts_more, puts_shorter}
use Rattle.nc_ident.proofs.read.tags.Goals as goal

pub loop-reader-smaller : goal.loop-reader-smaller
loop-reader-smaller c =
    omega (
      arith,
      puts_shorter c.loop-reader.brackets_left c.loop-reader.tags c.push_tag-in-loop-reader.new.tags c.takes.new.self c.push_tag-in-loop-reader.new.brackets_left c.push_tag-in-loop-reader.new.reader c.in_ok-push_tag-2.ensures.read,
      comma_shorter c.loop-reader.reader c.takes.new.self (sym c.takes.ensures.told ∙ c.loop-reader-test.true) c.takes.ensures.moved,
    )

pub loop-reader-preserved : goal.loop-reader-preserved
loop-reader-preserved c =
    let within = c.in_ok-push_tag-2.ensures.within c.loop-reader.invariant.tags in
    record {
      so_far = puts_more c.loop-reader.brackets_left c.loop-reader.tags c.push_tag-in-loop-reader.new.tags c.loop-reader.reader c.takes.new.self c.push_tag-in-loop-reader.new.brackets_left c.push_tag-in-loop-reader.new.reader _ (sym c.takes.ensures.told ∙ c.loop-reader-test.true) c.takes.ensures.moved c.in_ok-push_tag-2.ensures.read c.loop-reader.invariant.so_far;
      some = within.0;
      tags = within.1;
    }
