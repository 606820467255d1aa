-- Laws of members in reached worlds.
use Rattle.std.specs.Prelude.{◌≡◌, ℕ, true, List, []}
use Rattle.std.specs.List.{AllByRecursion}
use Rattle.nc_types.specs.Channel.{owner_of}
use Rattle.nc_journal.specs.History.{own}
use Rattle.nc_journal.specs.Standing.{IsServed, IsStarting, stage_of}
use Rattle.nc_journal.specs.declared.event.Event.{Event}
use Rattle.nc_owner_laws.specs.Filters.{is_member}
use Rattle.nc_spool_members.specs.Members.{stands_with}
use Rattle.nc_history.specs.Packets.{pending}
use Rattle.nc_worker_state.specs.Setup.{Setup}
use Rattle.nc_worker_state.specs.Owned.{member_of}
use Rattle.nc_world.specs.World.{World}
use Rattle.nc_world.specs.Reached.{IsSetup, Reached}
use Rattle.nc_world_members.specs.Members.{HasMembers, spools_at, ways}
use Rattle.nc_world_members.specs.Stages.{HasStages, AllStand, Starts, is_with}

-- each reached world has its members
abbrev pub ReachedHasMembers : Type 0
ReachedHasMembers = (setup : Setup) (h : List Event) (world : World) → IsSetup setup → Reached setup h world → HasMembers setup h world

-- whoever stands or starts with a channel belongs to it in exactly one way: it is a member, it is about to join, or it is about to hear that the channel is gone
abbrev pub StandsOneWay : Type 0
StandsOneWay = (setup : Setup) (h : List Event) (world : World) → IsSetup setup → Reached setup h world → (w k : ℕ) (c : List ℕ)
    → stands_with c k (spools_at world w) ≡ true → ways setup w k c h ≡ 1

-- where nothing is on its way between a worker and a channel's owner, the members of this worker are those who stand or start with the channel
abbrev pub MembersStand : Type 0
MembersStand = (setup : Setup) (h : List Event) (world : World) → IsSetup setup → Reached setup h world → (w k : ℕ) (c : List ℕ)
    → pending w (owner_of setup.workers c) h ≡ [] → pending (owner_of setup.workers c) w h ≡ []
    → is_member c (member_of w k) (own (owner_of setup.workers c) h) ≡ stands_with c k (spools_at world w)

-- each reached world has its stages
abbrev pub ReachedHasStages : Type 0
ReachedHasStages = (setup : Setup) (h : List Event) (world : World) → IsSetup setup → Reached setup h world → HasStages h world

-- so each subscriber of each spool stands, and each of those that aren't started yet starts
abbrev pub SpoolsStand : Type 0
SpoolsStand = (setup : Setup) (h : List Event) (world : World) → IsSetup setup → Reached setup h world → (w : ℕ)
    → AllByRecursion (AllStand w h) (spools_at world w).shelf × AllByRecursion (Starts w h) (spools_at world w).starts

-- by the journal alone: where nothing is on its way between a worker and a channel's owner, the members of this worker are those who stand or start with
-- the channel
abbrev pub MembersByStages : Type 0
MembersByStages = (setup : Setup) (h : List Event) (world : World) → IsSetup setup → Reached setup h world → (w k : ℕ) (c : List ℕ)
    → pending w (owner_of setup.workers c) h ≡ [] → pending (owner_of setup.workers c) w h ≡ []
    → is_member c (member_of w k) (own (owner_of setup.workers c) h) ≡ is_with c (stage_of k (own w h))

-- and nobody who was sent its one message waits for its end
abbrev pub NobodyWaits : Type 0
NobodyWaits = (setup : Setup) (h : List Event) (world : World) → IsSetup setup → Reached setup h world → (w k : ℕ) → IsServed (stage_of k (own w h))
    → ⊥

-- and where no start is left in the spools of a worker, nobody is starting there
abbrev pub NobodyStarts : Type 0
NobodyStarts = (setup : Setup) (h : List Event) (world : World) → IsSetup setup → Reached setup h world → (w k : ℕ)
    → (spools_at world w).starts ≡ [] → IsStarting (stage_of k (own w h)) → ⊥
