use Rattle.std.proofs.Common.{arith, sym, ◌∙◌}
use Rattle.nc_grammar.proofs.More.{comma_shorter}
use Rattle.nc_journal_list.proofs.Listing.{put_shortens, more_name}
use Rattle.nc_journal_list.proofs.list_reading.any_list.Goals as goal

pub loop-alloc-smaller : goal.loop-alloc-smaller
loop-alloc-smaller c =
    omega (
      arith,
      put_shortens c.loop-alloc.names c.push_new_name-in-loop-alloc.new.names c.takes.new.self c.push_new_name-in-loop-alloc.new.reader c.in_ok-push_new_name-2.ensures.read,
      comma_shorter c.loop-alloc.reader c.takes.new.self (sym c.takes.ensures.told ∙ c.loop-alloc-test.true) c.takes.ensures.moved,
    )

pub loop-alloc-preserved : goal.loop-alloc-preserved
loop-alloc-preserved c =
    let distinct = c.in_ok-push_new_name-2.ensures.distinct c.loop-alloc.invariant.distinct in
    record {
      so_far = more_name c.loop-alloc.names c.push_new_name-in-loop-alloc.new.names c.loop-alloc.reader c.takes.new.self c.push_new_name-in-loop-alloc.new.reader _ (sym c.takes.ensures.told ∙ c.loop-alloc-test.true) c.takes.ensures.moved c.in_ok-push_new_name-2.ensures.read c.loop-alloc.invariant.so_far;
      some = distinct.0;
      distinct = distinct.1;
    }
