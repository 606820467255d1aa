-- Members at quiet, by the journal alone.
use Rattle.std.specs.Prelude.{◌≡◌, ℕ, Bool, false, List}
use Rattle.nc_types.specs.Channel.{owner_of}
use Rattle.nc_journal.specs.History.{own, Along}
use Rattle.nc_journal.specs.Standing.{Stage, Standing, IsStarting, stage_of}
use Rattle.nc_journal.specs.declared.event.Event.{Event}
use Rattle.nc_journal.specs.declared.event.Event.TheVariants.{Quiet}
use Rattle.nc_owner_laws.specs.Filters.{is_member}
use Rattle.nc_worker_state.specs.Setup.{Setup}
use Rattle.nc_worker_state.specs.Owned.{member_of}
use Rattle.nc_world.specs.World.{World}
use Rattle.nc_world.specs.Reached.{IsSetup, Reached}
use Rattle.nc_spool_state.specs.Key.{is_in}

-- one of this stage stands with a channel in its list
abbrev pub stands_with : List ℕ → Stage → Bool
stands_with c (Standing list once cur) = is_in c list
stands_with c stage = false

-- nobody is starting, and the members of each channel are exactly those who stand with it
pub record HasItsMembers (workers : ℕ) (h : List Event) : Type 0 where
  pub started : (w k : ℕ) → IsStarting (stage_of k (own w h)) → ⊥
  pub members : (w k : ℕ) (c : List ℕ) → is_member c (member_of w k) (own (owner_of workers c) h) ≡ stands_with c (stage_of k (own w h))

-- so it is at quiet
abbrev pub MembersAt : ℕ → List Event → Event → Type 0
MembersAt workers h Quiet = HasItsMembers workers h
MembersAt workers h _ = Unit {0}

-- the member rule, for some number of workers
abbrev pub IsMemberRule : ℕ → List Event → Type 0
IsMemberRule workers h = Along (MembersAt workers) h

-- the history of each reached world keeps it
abbrev pub HistoriesHaveMembers : Type 0
HistoriesHaveMembers = (setup : Setup) (h : List Event) (world : World) → IsSetup setup → Reached setup h world → IsMemberRule setup.workers h
