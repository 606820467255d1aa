-- The member rule holds in each reached world.
use Rattle.std.proofs.Common.{◌≡◌, ℕ, List, [], ◌∷◌, refl, ◌∙◌, subst}
use Rattle.std.specs.List.{AllByRecursion}
use Rattle.nc_types.specs.Channel.{owner_of}
use Rattle.nc_journal.specs.History.{own, onto}
use Rattle.nc_journal.specs.declared.event.Event.{Event}
use Rattle.nc_journal.specs.declared.event.Event.TheVariants.{Quiet}
use Rattle.nc_history.specs.Packets.{pending}
use Rattle.nc_worker_state.specs.Setup.{Setup}
use Rattle.nc_worker_state.specs.Incoming.{TakesPacket}
use Rattle.nc_world.specs.World.{World, handled_events, pending_in}
use Rattle.nc_world.specs.Moves.{Counts, counted}
use Rattle.nc_world.specs.Reached.{IsSetup, Reached, Moves}
use Rattle.nc_world_laws.proofs.WorkerKinds.{IsBy}
use Rattle.nc_world_laws.proofs.WorldTheme.{IsWorldTheme}
use Rattle.nc_world_laws.proofs.Parts.{step_by}
use Rattle.nc_world_laws.proofs.WorldThemes.{world_theme_holds}
use Rattle.nc_world_owners.proofs.ReachedHistories.{counts_are_told}
use Rattle.nc_journal.specs.Standing.{Stage, Absent, Starting, Standing, Served, Over, IsStarting, stage_of}
use Rattle.nc_world_members.specs.Stages.{is_with}
use Rattle.nc_world_members.proofs.Staging.{members_by_stages}
use Rattle.nc_world_begins.proofs.Laws.{nobody_starts_at_rest}
use Rattle.nc_world_quiet.specs.Members.{stands_with, HasItsMembers, MembersAt, IsMemberRule, HistoriesHaveMembers}

-- a worker's events tell no quiet
rule_by : (workers w : ℕ) (es h : List Event) → AllByRecursion (IsBy w) es → IsMemberRule workers h → IsMemberRule workers (onto es h)
rule_by workers w [] h by r = r
rule_by workers w (e ∷ es) h by r = rule_by workers w es (e ∷ h) by.1 (r, one e by.0)
  where
    one : (x : Event) → IsBy w x → MembersAt workers h x
    one Quiet i = absurd cc
    one x i = tt

-- where nothing is pending it is told so, and then nothing is
none_there : (setup : Setup) (h : List Event) (world : World) → IsSetup setup → Reached setup h world → pending_in setup world ≡ 0 → (v w : ℕ) → pending v w h ≡ []
none_there setup h world is r none =
    let quiet : Reached setup (Quiet ∷ h) world = subst (λ (n : ℕ). Reached setup (onto (counted n) h) world) none (Moves h world Counts r tt) in
    (counts_are_told setup (Quiet ∷ h) world is quiet).1

-- where nobody starts, one that is with a channel stands with it
only_standing : (c : List ℕ) (stage : Stage) → (IsStarting stage → ⊥) → is_with c stage ≡ stands_with c stage
only_standing c Absent none = refl
only_standing c (Starting list once start) none = absurd (none tt)
only_standing c (Standing list once cur) none = refl
only_standing c (Served list cur) none = refl
only_standing c Over none = refl

module _ (setup : Setup) (is : IsSetup setup) where
  at_quiet : (h : List Event) (world : World) → Reached setup h world → pending_in setup world ≡ 0 → HasItsMembers setup.workers h
  at_quiet h world r none = record {
    started = nobody_starts_at_rest setup h world is r (none_there setup h world is r none);
    members = λ w k c.
        members_by_stages setup h world is r w k c (none_there setup h world is r none w (owner_of setup.workers c)) (none_there setup h world is r none (owner_of setup.workers c) w)
        ∙ only_standing c (stage_of k (own w h)) (nobody_starts_at_rest setup h world is r (none_there setup h world is r none) w k);
  }

  rule_theme : IsWorldTheme setup (λ h world. IsMemberRule setup.workers h)
  rule_theme = record {
    new = tt;
    handles = λ w incoming h world reached g here i r. rule_by setup.workers w (handled_events setup w incoming world) h (step_by setup is w incoming h world g) r;
    takes = λ w v p ps h world reached g here there at r. rule_by setup.workers w (handled_events setup w (TakesPacket v p) world) h (step_by setup is w (TakesPacket v p) h world g) r;
    carries = λ w v p ps h world reached g here there at r. r;
    pending = λ n h world reached g same r. (r, tt);
    quiet = λ h world reached g same r. (r, at_quiet h world reached same);
  }

pub histories_have_members : HistoriesHaveMembers
histories_have_members setup h world is r = world_theme_holds setup (λ h world. IsMemberRule setup.workers h) is (rule_theme setup is) h world r
