use Rattle.std.proofs.Common.{rules, arith, Some, None}
use Rattle.nc_conf.proofs.SoFar.{read_begin, read_next, read_end}
use Rattle.nc_conf.proofs.Tidy.{tidy_begin, tidy_next}
use Rattle.nc_conf.proofs.Early.{early}
use Rattle.nc_conf.proofs.syntax.read_syntax.Goals as goal

pub loop-syntax-preserved : goal.loop-syntax-preserved
loop-syntax-preserved c =
    let told = rw c.loop-syntax.invariant.same at (rw c.in-Ok-Some.field-0-is at c.in-Ok-Some.ensures.told) in
    record {
      so_far = read_next _ _ _ _ _ _ c.loop-syntax.invariant.so_far told c.in_ok-take-in-Ok-Some.ensures;
      same = search rules;
      within = search rules;
      tidy = tidy_next _ _ _ c.loop-syntax.invariant.tidy c.in_ok-take-in-Ok-Some.ensures;
    }

pub returns-in-Ok-None-clause-part : goal.returns-in-Ok-None-clause-part
returns-in-Ok-None-clause-part c =
    let told = rw c.loop-syntax.invariant.same at (rw c.in-Ok-None.field-0-is at c.in-Ok-None.ensures.told) in
    read_end _ _ _ None c.loop-syntax.invariant.so_far told

pub returns-in-Err-Bad-clause-part : goal.returns-in-Err-Bad-clause-part
returns-in-Err-Bad-clause-part c =
    let told = rw c.loop-syntax.invariant.same at (rw c.in-Err-Bad.field-0-is at c.in-Err-Bad.ensures.told) in
    rw (← c.in-Err-Bad.at-is) at (read_end _ _ _ (Some c.in-Err-Bad.at) c.loop-syntax.invariant.so_far told)

pub returns-then-is_doubtful-clause-part : goal.returns-then-is_doubtful-clause-part
returns-then-is_doubtful-clause-part c f first low =
    early c.one_comes.ensures c.args.text.now c.loop-syntax.lexer.at c.loop-syntax.syntax f c.loop-syntax.invariant.so_far c.loop-syntax.invariant.tidy (search rules) (search rules) c.loop-syntax.invariant.within (rw c.at.ensures at low) first

pub loop-syntax-init : goal.loop-syntax-init
loop-syntax-init c = record {
  so_far = read_begin _ _ _ c.new-lexer.ensures.at c.new-syntax.ensures;
  same = c.new-lexer.ensures.text;
  within = omega (arith, c.new-lexer.ensures.at);
  tidy = tidy_begin _ c.new-syntax.ensures;
}
