use Rattle.std.proofs.Common.{◌≡◌, ◌≤◌, length, drop, map}
use Rattle.std.specs.Prelude.{max}
use Rattle.nc_grammar.specs.Label.{reach}
use Rattle.nc_grammar.proofs.words.reach.Given as goal

abbrev pub invariant-loop-word : goal.invariant-loop-word
invariant-loop-word l = record { most : max l.most (reach (map (λ w. w.now) (drop l.word-index l.words)) l.text) ≡ reach (map (λ w. w.now) l.words) l.text; within : l.most ≤ length l.text }
