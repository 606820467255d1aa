use Rattle.std.proofs.Common.{sym, arith, eq-eqb}
use Rattle.std.proofs.lemmas.List.Sums.{position_or_len_is}
use Rattle.nc_script.proofs.word.place_of_sign.Goals as goal

pub returns-then-byte-sign-clause-first : goal.returns-then-byte-sign-clause-first
returns-then-byte-sign-clause-first c = sym (position_or_len_is _ c.args.text.now c.loop-at.at 0 (omega arith) c.loop-at.invariant (λ h. eq-eqb _ _ c.if-byte-sign.true))

pub returns-clause-first : goal.returns-clause-first
returns-clause-first c = sym (position_or_len_is _ c.args.text.now _ 0 (omega arith) (λ k h. c.loop-at.invariant k (omega arith)) (λ h. absurd (omega arith)))
