use Rattle.std.proofs.Common.{arith, sym, ◌∙◌}
use Rattle.nc_grammar.proofs.More.{comma_shorter, puts_more, puts_shorter}
use Rattle.nc_journal_read.specs.ValueReader.{u64_at}
use Rattle.nc_journal_read.proofs.Numbers.{u64_shortens}
use Rattle.nc_journal_read.proofs.value_reading.push_more_numbers.Goals as goal

pub loop-reader-smaller : goal.loop-reader-smaller
loop-reader-smaller c =
    omega (
      arith,
      puts_shorter u64_at u64_shortens c.loop-reader.numbers c.push_number.new.numbers c.takes.new.self c.push_number.new.reader c.in_ok-push_number.ensures,
      comma_shorter c.loop-reader.reader c.takes.new.self (sym c.takes.ensures.told ∙ c.loop-reader-test.true) c.takes.ensures.moved,
    )

pub loop-reader-preserved : goal.loop-reader-preserved
loop-reader-preserved c = puts_more u64_at u64_shortens c.loop-reader.numbers c.push_number.new.numbers c.loop-reader.reader c.takes.new.self c.push_number.new.reader _ (sym c.takes.ensures.told ∙ c.loop-reader-test.true) c.takes.ensures.moved c.in_ok-push_number.ensures c.loop-reader.invariant
