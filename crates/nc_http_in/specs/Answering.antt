-- What a reader does with what its last step found out.
use Rattle.std.specs.Prelude.{ℕ, Bool, true, false, List, []}
use Rattle.nc_http_in.specs.declared.next.Next.{Next}
use Rattle.nc_http_in.specs.declared.next.Next.TheVariants.{Request as Asked, More, Bad}
use Rattle.nc_http_in.specs.declared.stage.Stage.{Stage}
use Rattle.nc_http_in.specs.declared.stage.Stage.TheVariants as stages
use Rattle.nc_http_in.specs.declared.stage.Found.{Found}
use Rattle.nc_http_in.specs.declared.stage.Found.TheVariants as founds

-- the stage that is next
abbrev pub stage_of : Found → Stage
stage_of (founds.On stage) = stage
stage_of (founds.Waits stage) = stage
stage_of (founds.Whole q) = stages.Start
stage_of (founds.Refused status) = stages.Bad status
stage_of (founds.Short stage) = stage

-- what is answered
abbrev pub next_of : Found → Next
next_of (founds.On stage) = More
next_of (founds.Waits stage) = More
next_of (founds.Whole q) = Asked q
next_of (founds.Refused status) = Bad status
next_of (founds.Short stage) = More

-- what is kept of the bytes behind it
abbrev pub left_of : Found → List ℕ → List ℕ
left_of (founds.On stage) rest = rest
left_of (founds.Waits stage) rest = rest
left_of (founds.Whole q) rest = rest
left_of (founds.Refused status) rest = []
left_of (founds.Short stage) rest = rest

-- there was no memory
abbrev pub is_short : Found → Bool
is_short (founds.On stage) = false
is_short (founds.Waits stage) = false
is_short (founds.Whole q) = false
is_short (founds.Refused status) = false
is_short (founds.Short stage) = true
