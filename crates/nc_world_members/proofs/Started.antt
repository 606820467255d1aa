-- Nobody is starting at a worker whose spools have no start left.
use Rattle.nc_journal.specs.History.{own}
use Rattle.nc_journal.specs.Standing.{stage_of, is_subscribed}
use Rattle.nc_world_members.specs.Laws.{NobodyStarts}
use Rattle.nc_world_members.specs.Members.{spools_at}
use Rattle.nc_world_members.proofs.Staging.{reached_has_stages, starting_listed}

pub nobody_starts : NobodyStarts
nobody_starts setup h world is r w k none was =
    starting_listed k (is_subscribed k (own w h)) (stage_of k (own w h)) (spools_at world w) ((reached_has_stages setup h world is r).staged w k) was none
