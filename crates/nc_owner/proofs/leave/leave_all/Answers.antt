use Rattle.std.proofs.Common.{ap, ◌∙◌, ◌++◌, List, map}
use Rattle.nc_journal.specs.declared.word.LeftCause.TheVariants.{Deleted}
use Rattle.nc_buffer.specs.declared.entry.Entry.{Entry}
use Rattle.nc_owner.specs.Leave.{left_event}
use Rattle.nc_owner.proofs.Leaves.{all_of, shed-all}
use Rattle.nc_owner.proofs.leave.leave_all.Goals as goal

pub returns-clause-events : goal.returns-clause-events
returns-clause-events g c = c.in_ok-shed.ensures.events ∙ ap (λ (l : List Entry). c.args.events.now ++ map (left_event c.args.desk.now.me c.args.name.now Deleted) l) (all_of _ _ c.len-count.ensures)

pub returns-clause-desk : goal.returns-clause-desk
returns-clause-desk g c = (shed-all _ _ _ _ _ _ _ c.len-count.ensures c.in_ok-shed.ensures.bench).0

pub returns-clause-row : goal.returns-clause-row
returns-clause-row g c = (shed-all _ _ _ _ _ _ _ c.len-count.ensures c.in_ok-shed.ensures.bench).1
