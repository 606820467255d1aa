use Rattle.std.proofs.Common.{◌≡◌, ◌+◌, ◌≤◌, take, length}
use Rattle.std.specs.List.{suffix_len}
use Rattle.nc_accept.specs.Fields.{is_blank}
use Rattle.nc_accept.proofs.fields.freed.Given as goal

abbrev pub invariant-loop-end : goal.invariant-loop-end
invariant-loop-end l = record { within : l.end ≤ length l.rest; cut : l.end + suffix_len is_blank l.rest ≡ length l.rest + suffix_len is_blank (take l.end l.rest) }

abbrev pub decreases-loop-end : goal.decreases-loop-end
decreases-loop-end l = l.end
