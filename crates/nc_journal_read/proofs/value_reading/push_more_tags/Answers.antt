use Rattle.std.proofs.Common.{arith, sym, ◌∙◌}
use Rattle.nc_grammar.proofs.More.{comma_shorter, puts_more, puts_shorter}
use Rattle.nc_journal_read.specs.ValueReader.{tag_at}
use Rattle.nc_journal_read.proofs.Values.{tag_shortens}
use Rattle.nc_journal_read.proofs.value_reading.push_more_tags.Goals as goal

pub loop-reader-smaller : goal.loop-reader-smaller
loop-reader-smaller c =
    omega (
      arith,
      puts_shorter tag_at tag_shortens c.loop-reader.tags c.push_tag.new.tags c.takes.new.self c.push_tag.new.reader c.in_ok-push_tag.ensures.read,
      comma_shorter c.loop-reader.reader c.takes.new.self (sym c.takes.ensures.told ∙ c.loop-reader-test.true) c.takes.ensures.moved,
    )

pub loop-reader-preserved : goal.loop-reader-preserved
loop-reader-preserved c =
    record {
      so_far = puts_more tag_at tag_shortens c.loop-reader.tags c.push_tag.new.tags c.loop-reader.reader c.takes.new.self c.push_tag.new.reader _ (sym c.takes.ensures.told ∙ c.loop-reader-test.true) c.takes.ensures.moved c.in_ok-push_tag.ensures.read c.loop-reader.invariant.so_far;
      within = λ some tags. c.in_ok-push_tag.ensures.within (c.loop-reader.invariant.within some tags).1;
    }
