use Rattle.nc_journal_read.proofs.Halves.{stored_found, stored_fault}
use Rattle.nc_journal_read.proofs.stored_reading.stored.Goals as goal

pub returns-in_err-content : goal.returns-in_err-content
returns-in_err-content c =
    stored_fault c.args.reader.now c.front.new.reader c.content.new.reader c.in_ok-front.front _ c.content.result c.from_residual-in_err-content.result
    c.in_ok-front.ensures c.content.ensures c.in_err-content.was c.from_residual-in_err-content.ensures.1

pub returns : goal.returns
returns c =
    stored_found c.args.reader.now c.front.new.reader c.content.new.reader c.in_ok-front.front c.in_ok-content.content c.event_of_parts.result
    c.in_ok-front.ensures c.in_ok-content.ensures c.event_of_parts.ensures
