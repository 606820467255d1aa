use Rattle.std.proofs.Common.{◌≡◌, ◌+◌, drop}
use Rattle.std.specs.List.{prefix_len}
use Rattle.nc_conf_lex.specs.Byte.{goes_on}
use Rattle.nc_conf_lex.proofs.scan.word_len.Given as goal

abbrev pub invariant-loop-i : goal.invariant-loop-i
invariant-loop-i l = prefix_len goes_on l.text ≡ l.i + prefix_len goes_on (drop l.i l.text)
