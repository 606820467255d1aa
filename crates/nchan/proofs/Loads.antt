-- The words of a load ask for no other command.
use Rattle.std.proofs.Common.{ℕ, List, inl, inr}
use Rattle.nc_cli.specs.Words.{IsLoad}
use Rattle.nc_replay.specs.Top.{IsRun}

pub no_run : (words : List (List ℕ)) (seed size : ℕ) → IsLoad words seed size → IsRun words → ⊥
no_run words seed size is (inl replay) = let three = is.three in absurd (cc)
no_run words seed size is (inr check) = let three = is.three in absurd (cc)
