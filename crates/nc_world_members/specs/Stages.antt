-- Stages of subscribers: by the local history of their worker, and by its spools.
use Rattle.std.specs.Prelude.{◌≡◌, ℕ, Bool, false, List, if◌then◌else◌}
use Rattle.std.specs.List.{AllByRecursion}
use Rattle.nc_journal.specs.History.{own}
use Rattle.nc_journal.specs.Standing.{Stage, Absent, Starting, Standing, Over, stage_of, is_subscribed}
use Rattle.nc_journal.specs.declared.event.Event.{Event}
use Rattle.nc_types.specs.declared.start.Start.TheVariants.{Newest}
use Rattle.nc_spool_state.specs.declared.spool.Reader.{Reader}
use Rattle.nc_spool_state.specs.Key.{is_in}
use Rattle.nc_spool_state.specs.Spool.{SpoolAt}
use Rattle.nc_spool_state.specs.Starting.{StartingAt}
use Rattle.nc_spool_members.specs.Stages.{HasStage}
use Rattle.nc_world.specs.World.{World}
use Rattle.nc_world_members.specs.Members.{spools_at}

-- the stage of one that stands nowhere: over, if it was ever subscribed, and else absent
abbrev pub stage_away : ℕ → List Event → Stage
stage_away k h = if is_subscribed k h then Over else Absent

-- each subscriber has the stage that the spools of its worker say
pub record HasStages (h : List Event) (world : World) : Type 0 where
  pub staged : (w k : ℕ) → HasStage k (stage_away k (own w h)) (stage_of k (own w h)) (spools_at world w)

-- one of this stage stands or starts with a channel
abbrev pub is_with : List ℕ → Stage → Bool
is_with c (Starting list once start) = is_in c list
is_with c (Standing list once cur) = is_in c list
is_with c stage = false

-- each subscriber of a worker's spool stands with the spool's list at its cursor
abbrev pub AllStand : ℕ → List Event → SpoolAt → Type 0
AllStand w h s = AllByRecursion (λ (r : Reader). stage_of r.k (own w h) ≡ Standing s.key.list r.once s.key.cursor) s.readers

-- and each that isn't started yet starts with its list
abbrev pub Starts : ℕ → List Event → StartingAt → Type 0
Starts w h s = stage_of s.reader.k (own w h) ≡ Starting s.list s.reader.once Newest
