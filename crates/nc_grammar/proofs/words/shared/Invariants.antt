use Rattle.std.proofs.Common.{◌≡◌, ◌+◌, length, drop}
use Rattle.nc_grammar.specs.Label.{shared}
use Rattle.nc_grammar.proofs.words.shared.Given as goal

abbrev pub invariant-loop-count : goal.invariant-loop-count
invariant-loop-count l = record { count : l.count + shared (drop l.count l.word) l.text ≡ shared l.word l.text-2; within : l.count + length l.text ≡ length l.text-2 }
