use Rattle.std.proofs.Common.{◌≡◌, ◌++◌, ◌+◌, ◌-◌, suc, arith, subst}
use Rattle.nc_grammar.specs.Reading.{map_read}
use Rattle.nc_journal_read.specs.PlaceReader.{bracketed_at}
use Rattle.nc_journal_read.proofs.Steps.{ahead_found, ahead_fault}
use Rattle.nc_journal_read.proofs.place_reading.bracketed_tags.Goals as goal

pub returns-in_err-push_tag_before-clause-read : goal.returns-in_err-push_tag_before-clause-read
returns-in_err-push_tag_before-clause-read c =
    let next : c.args.ahead - c.loop.counter ≡ suc (c.args.ahead - (c.loop.counter + 1)) = omega (arith, c.loop-test.true) in
    let so_far = subst (λ n. map_read (λ more. c.loop.tags ++ more) (bracketed_at n c.loop.reader) ≡ bracketed_at c.args.ahead c.args.reader.now) next c.loop.invariant.so_far in
    ahead_fault (λ u. c.push_tag_before.new.tags) (c.args.ahead - (c.loop.counter + 1)) c.loop.tags c.loop.reader c.push_tag_before.new.reader _ _ c.push_tag_before.result c.from_residual.result c.in_err-push_tag_before.was c.from_residual.ensures.1 c.push_tag_before.ensures.read so_far

pub loop-preserved : goal.loop-preserved
loop-preserved c =
    let next : c.args.ahead - c.loop.counter ≡ suc (c.args.ahead - (c.loop.counter + 1)) = omega (arith, c.loop-test.true) in
    let so_far = subst (λ n. map_read (λ more. c.loop.tags ++ more) (bracketed_at n c.loop.reader) ≡ bracketed_at c.args.ahead c.args.reader.now) next c.loop.invariant.so_far in
    record {
      so_far = ahead_found (c.args.ahead - (c.loop.counter + 1)) c.loop.tags c.push_tag_before.new.tags c.loop.reader c.push_tag_before.new.reader _ c.in_ok-push_tag_before.ensures.read so_far;
      tags = (c.in_ok-push_tag_before.ensures.within c.loop.invariant.tags).1;
    }
