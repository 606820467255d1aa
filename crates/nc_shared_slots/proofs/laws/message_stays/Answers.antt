use Rattle.std.proofs.Common.{refl}
use Rattle.nc_shared_slots.proofs.Messages.{granted_stays, polled_stays}
use Rattle.nc_shared_slots.proofs.laws.message_stays.Goals as goal

pub returns-clause-put : goal.returns-clause-put
returns-clause-put c message = refl

pub returns-clause-granted : goal.returns-clause-granted
returns-clause-granted c slot = granted_stays slot

pub returns-clause-polled : goal.returns-clause-polled
returns-clause-polled c slot is_held message is = polled_stays slot is_held message is
