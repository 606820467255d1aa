use Rattle.std.proofs.Common.{◌≡◌, ◌+◌, false, drop}
use Rattle.nc_conf_lex.specs.Scan.{gap_len}
use Rattle.nc_conf_lex.proofs.scan.gap_len.Given as goal

abbrev pub invariant-loop-i : goal.invariant-loop-i
invariant-loop-i l = gap_len false l.text ≡ l.i + gap_len l.comment (drop l.i l.text)
