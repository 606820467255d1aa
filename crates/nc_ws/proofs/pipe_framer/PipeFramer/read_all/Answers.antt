use Rattle.std.proofs.Common.{sym, ap, ◌∙◌}
use Rattle.nc_ws.specs.declared.pipe.Pipe.{Pipe}
use Rattle.nc_ws.specs.Reads.{is_last}
use Rattle.nc_ws.proofs.Chains.{finished_list, finished_fault, one_more}
use Rattle.nc_ws.proofs.pipe_framer.PipeFramer.read_all.Goals as goal

pub returns-then-is_last-clause-ended : goal.returns-then-is_last-clause-ended
returns-then-is_last-clause-ended c =
    finished_list c.args.self.now.socket c.loop.self.socket c.turn.new.self.socket c.finish.new.self.socket c.in-Ok.told c.loop.list.items c.turn.new.list.items c.finish.result
    c.loop.invariant.so_far c.in-Ok.ensures.told c.in-Ok.ensures.gave
    (ap (λ (p : Pipe). is_last c.in-Ok.told p.bytes.items) (sym c.get_ref.ensures) ∙ sym c.is_last.ensures ∙ c.if-is_last.true)
    c.finish.ensures.finishes

pub returns-then-is_last-clause-failed : goal.returns-then-is_last-clause-failed
returns-then-is_last-clause-failed c =
    finished_fault c.args.self.now.socket c.loop.self.socket c.turn.new.self.socket c.finish.new.self.socket c.in-Ok.told c.loop.list.items c.turn.new.list.items c.finish.result
    c.loop.invariant.so_far c.in-Ok.ensures.told c.finish.ensures.finishes

pub loop-preserved : goal.loop-preserved
loop-preserved c = record {
  faults = c.in-Ok.ensures.faults ∙ c.loop.invariant.faults;
  calls = c.in-Ok.ensures.calls ∙ c.loop.invariant.calls;
  closes = c.in-Ok.ensures.closes ∙ c.loop.invariant.closes;
  so_far =
      one_more c.args.self.now.socket c.loop.self.socket c.turn.new.self.socket c.in-Ok.told c.loop.list.items c.turn.new.list.items
      c.loop.invariant.so_far c.in-Ok.ensures.told
      (ap (λ (p : Pipe). is_last c.in-Ok.told p.bytes.items) (sym c.get_ref.ensures) ∙ sym c.is_last.ensures ∙ c.if-is_last.false)
      c.in-Ok.ensures.gave;
}
