use Rattle.std.proofs.Common.{◌≡◌, ◌+◌, ◌≤◌, length, take}
use Rattle.std.specs.List.{suffix_len}
use Rattle.nc_conf.specs.Value.{is_no_colon}
use Rattle.nc_conf.proofs.value.port_len.Given as goal

abbrev pub invariant-loop-n : goal.invariant-loop-n
invariant-loop-n l = record { within : l.n ≤ length l.text; cut : l.n + suffix_len is_no_colon l.text ≡ length l.text + suffix_len is_no_colon (take l.n l.text) }

abbrev pub decreases-loop-n : goal.decreases-loop-n
decreases-loop-n l = l.n
