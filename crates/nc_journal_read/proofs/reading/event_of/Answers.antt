use Rattle.std.proofs.Common.{subst}
use Rattle.nc_grammar.specs.Gives.{Gives}
use Rattle.nc_journal_read.specs.EventTable.{event_at}
use Rattle.nc_journal_read.proofs.Ends.{line_found, line_bad}
use Rattle.nc_journal_read.proofs.reading.event_of.Goals as goal

pub returns-clause-found : goal.returns-clause-found
returns-clause-found c =
    line_found c.args.line.now c.event-outcome.new.reader c.event-outcome.result c.end.result
    (subst (λ t. Gives c.event-outcome.new.reader c.event-outcome.result (event_at t)) c.new-reader.ensures c.event-outcome.ensures) c.end.ensures

pub returns-clause-bad : goal.returns-clause-bad
returns-clause-bad c =
    line_bad c.args.line.now c.event-outcome.new.reader c.event-outcome.result c.end.result
    (subst (λ t. Gives c.event-outcome.new.reader c.event-outcome.result (event_at t)) c.new-reader.ensures c.event-outcome.ensures) c.end.ensures
