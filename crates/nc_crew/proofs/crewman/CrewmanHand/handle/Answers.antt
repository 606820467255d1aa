use Rattle.nc_slots.specs.Plain.{row_at}
use Rattle.nc_worker.specs.Parts.{me_of}
use Rattle.nc_crew.proofs.Fitting.{ok_same_rows}
use Rattle.nc_crew.proofs.crewman.CrewmanHand.handle.Goals as goal

pub returns-clause-others : goal.returns-clause-others
returns-clause-others c =
    ok_same_rows (me_of c.args.self.now.worker.parts) (λ o. (row_at c.args.slots.now o).slots) (λ o. (row_at c.handle_unchecked.new.pool o).slots) c.handle_unchecked.result c.handle_unchecked.ensures.others
