use Rattle.std.proofs.Common.{arith, sym, subst, List, ℕ}
use Rattle.nc_types.specs.Unquote.{ReadsTo}
use Rattle.nc_types.proofs.Pieces.{reads-push, reads-within, ends, unquotable}
use Rattle.nc_types.proofs.unquote.unquote.Goals as goal

pub loop-byte-preserved : goal.loop-byte-preserved
loop-byte-preserved c =
    let p = c.in_ok-push.ensures.ok in
    let n = c.in-Some.ensures.some in
    subst (λ (bytes : List ℕ). ReadsTo c.args.text.now bytes c.in-Some.behind.now) (sym p)
    (reads-push c.args.text.now c.loop-byte.bytes c.loop-byte.rest.now c.in-Some.byte c.in-Some.behind.now c.loop-byte.invariant n)

pub place_of_fault-requires : goal.place_of_fault-requires
place_of_fault-requires c = omega (arith, reads-within c.args.text.now c.loop-byte.bytes c.loop-byte.rest.now c.loop-byte.invariant)

pub returns-in-Some-place_of_fault-clause-err : goal.returns-in-Some-place_of_fault-clause-err
returns-in-Some-place_of_fault-clause-err c =
    let s = c.in-Some-place_of_fault.ensures.some in
    unquotable c.args.text.now _ (ends c.args.text.now c.loop-byte.bytes c.loop-byte.rest.now _ c.loop-byte.invariant c.in_default-next_piece.ensures.none s.0 s.1)
