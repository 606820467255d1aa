-- Who isn't started yet: only one that begins behind the newest message.
use Rattle.std.specs.Prelude.{◌≡◌, ◌⊎◌, ℕ, Bool, List, [], ◌∷◌, Option}
use Rattle.std.specs.List.{AllByRecursion}
use Rattle.nc_types.specs.Id.{Id}
use Rattle.nc_types.specs.declared.start.Start.{Start}
use Rattle.nc_types.specs.declared.start.Start.TheVariants.{Oldest, Newest, Given}
use Rattle.nc_spool_state.specs.Starting.{StartingAt}
use Rattle.nc_spool.specs.declared.spools.Found.{Found}
use Rattle.nc_spool.specs.Calls.{SpoolsAt, arrive_after, answer_after, edge_after, notice_after, gone_after}

-- where one begins is known as it comes: before the oldest message, or behind a given id
abbrev pub IsKnownStart : Start → Type 0
IsKnownStart Oldest = Unit {0}
IsKnownStart Newest = ⊥
IsKnownStart (Given cursor) = Unit {0}

-- one of those that aren't started yet
abbrev pub IsAmong : StartingAt → List StartingAt → Type 0
IsAmong x [] = ⊥
IsAmong x (start ∷ starts) = (x ≡ start) ⊎ IsAmong x starts

-- then it is started at once; where all are started, a call leaves it so; and a removal leaves some of those that aren't started
pub record StartsStay {H : Type 0} (s : SpoolsAt H) : Type 0 where
  pub arrive : (k : ℕ) (list : List (List ℕ)) (start : Start) (once : Bool) → IsKnownStart start
      → (arrive_after k list start once s).starts ≡ s.starts
  pub answer : (number q floor : ℕ) (found : Option (Found H)) → (answer_after number q floor found s).starts ≡ s.starts
  pub edge_answer : (number floor : ℕ) (last : Id) → s.starts ≡ [] → (edge_after number floor last s).starts ≡ []
  pub notice : (d : List ℕ) (found : Found H) → (notice_after d found s).starts ≡ s.starts
  pub removal : (d members : List ℕ) → AllByRecursion (λ x. IsAmong x s.starts) (gone_after d members s).starts

abbrev pub KeepStarts : Type 0 → Type 0
KeepStarts H = (s : SpoolsAt H) → StartsStay s
