use Rattle.std.proofs.Common.{sym, subst, ◌∙◌}
use Rattle.nc_ws.specs.Reads.{Ended, Fails}
use Rattle.nc_ws.proofs.Chains.{when_ok}
use Rattle.nc_ws.proofs.Lists.{ended_last}
use Rattle.nc_ws.proofs.pipe_framer.PipeFramerFramer.take.Goals as goal

pub returns-in-Ok-clause-gave : goal.returns-in-Ok-clause-gave
returns-in-Ok-clause-gave c = (
  c.feed.new.self.socket,
  when_ok _ c.feed.result (sym c.is_err.ensures.value ∙ c.if-is_err.false) c.feed.ensures.fed,
  subst (λ s. Ended c.feed.new.self.socket s c.in-Ok.list) (sym c.count_list.ensures.socket) c.in-Ok.ensures.ended,
)

pub returns-in-Ok-clause-last : goal.returns-in-Ok-clause-last
returns-in-Ok-clause-last c = ended_last c.feed.new.self.socket c.read_all.new.self.socket c.in-Ok.list c.in-Ok.ensures.ended

pub returns-in-Err-clause-cause : goal.returns-in-Err-clause-cause
returns-in-Err-clause-cause c fails = (
  c.feed.new.self.socket,
  when_ok _ c.feed.result (sym c.is_err.ensures.value ∙ c.if-is_err.false) c.feed.ensures.fed,
  subst (λ s. Fails c.feed.new.self.socket s) (sym c.count_fault.ensures.socket) (c.in-Err.ensures.failed fails),
)
