use Rattle.std.proofs.Common.{take, arith}
use Rattle.std.proofs.lemmas.List.{length-take}
use Rattle.nc_replay.proofs.Flows.{always-err, front_taken, reads_one}
use Rattle.nc_replay.proofs.input.read_more.Goals as goal

pub returns-in_err-extend_from_slice-clause-lost : goal.returns-in_err-extend_from_slice-clause-lost
returns-in_err-extend_from_slice-clause-lost g c =
    let left = g.S.Source.left in
    let given = g.S.Source.given in
    let n = c.in_ok-n.n in
    let room = c.read.new.room in
    always-err _ _ (reads_one (take n room) _ (left c.args.input.now) (left c.read.new.self) (given c.args.input.now) (given c.read.new.self)
    (front_taken (left c.args.input.now) (left c.read.new.self) room n c.in_ok-n.ensures.moved) c.in_ok-n.ensures.given (omega (arith, length-take n room)) (omega (arith, length-take n room)))
