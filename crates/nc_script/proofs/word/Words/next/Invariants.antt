use Rattle.std.proofs.Common.{◌≡◌, length, filter}
use Rattle.nc_script.specs.Word.{is_some}
use Rattle.nc_script.proofs.word.Words.next.Given as goal

abbrev pub invariant-loop-word : goal.invariant-loop-word
invariant-loop-word l = filter is_some l.self-inside.pieces ≡ filter is_some l.initial.self-inside.pieces

abbrev pub decreases-loop-word : goal.decreases-loop-word
decreases-loop-word l = length l.self-inside.pieces
