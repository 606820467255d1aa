-- What follows from the definition of decisions.
use Rattle.std.specs.Prelude.{◌≡◌, ◌≢◌, ◌⊎◌, ◌≤◌, ℕ, length}
use Rattle.nc_types.specs.Config.{ConfigAt}
use Rattle.nc_types.specs.declared.request.Request.{Request}
use Rattle.nc_types.specs.declared.request.Allow.TheVariants.{Nothing}
use Rattle.nc_types.specs.declared.start.Start.{Start}
use Rattle.nc_types.specs.declared.start.Start.TheVariants as starts
use Rattle.nc_route.specs.declared.decision.Decision.{Decision}
use Rattle.nc_route.specs.declared.decision.Decision.TheVariants as decisions
use Rattle.nc_route.specs.Rules.{Decides}

-- a request has one decision by a configuration
abbrev pub OneDecision : Type 0
OneDecision = (conf : ConfigAt) (q : Request) (a b : Decision) → Decides conf q a → Decides conf q b → a ≡ b

-- a start is one of so many names
abbrev pub IsStartOf : ℕ → Start → Type 0
IsStartOf n (starts.Given cursor) = length cursor.tags ≡ n
IsStartOf n _ = Unit {0}

-- a status that a rule has
abbrev pub IsStatus : ℕ → Type 0
IsStatus status = (status ≡ 400) ⊎ ((status ≡ 403) ⊎ ((status ≡ 404) ⊎ ((status ≡ 405) ⊎ (status ≡ 413))))

-- a subscription has a start of its names; a refusal has the number and status of a rule, and with the status 405 it names methods
abbrev pub IsSound : Decision → Type 0
IsSound (decisions.LongPoll list start settings) = IsStartOf (length list) start
IsSound (decisions.Socket list start settings opening) = IsStartOf (length list) start
IsSound (decisions.Refuse status rule allow) = IsStatus status × (1 ≤ rule) × (rule ≤ 14) × (status ≡ 405 → allow ≢ Nothing)
IsSound _ = Unit {0}

-- each decision is sound
abbrev pub DecisionsAreSound : Type 0
DecisionsAreSound = (conf : ConfigAt) (q : Request) (d : Decision) → Decides conf q d → IsSound d
