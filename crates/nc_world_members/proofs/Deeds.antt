-- What a worker's part of a step makes of the stage of a subscriber.
use Rattle.std.proofs.Common.{◌≡◌, ℕ, Bool, true, false, cond, ◌||◌, List, [], ◌∷◌, ◌++◌, refl, sym, ◌∙◌, subst, map, ◌==◌}
use Rattle.std.specs.Prelude.{filter}
use Rattle.nc_types.specs.declared.start.Start.{Start}
use Rattle.nc_journal.specs.History.{onto}
use Rattle.nc_journal.specs.Standing.{Stage, Absent, Starting, Over, is_once, started, served as served_stage, stage_of}
use Rattle.nc_journal.specs.declared.event.Event.{Event}
use Rattle.nc_journal.specs.declared.event.Event.TheVariants.{Subscribed, Started, Sent, Ended, Made}
use Rattle.nc_journal.specs.declared.word.EndedCause.{EndedCause}
use Rattle.nc_journal.specs.declared.word.EndedCause.TheVariants.{Answered, Deleted}
use Rattle.nc_journal.specs.declared.alert.AlertLine.{AlertLine}
use Rattle.nc_journal.specs.declared.alert.AlertLine.TheVariants as lines
use Rattle.nc_spool_state.specs.declared.kept.Held.{Held}
use Rattle.nc_spool_state.specs.Kept.{is_idle}
use Rattle.nc_spool.specs.declared.fact.Fact.{Fact}
use Rattle.nc_spool.specs.declared.fact.Fact.TheVariants as facts
use Rattle.nc_spool.specs.declared.board.Board.{Board}
use Rattle.nc_spool.specs.Calls.{board_of, arrive_facts, answer_facts, edge_facts, notice_facts, gone_facts}
use Rattle.nc_spool_laws.specs.Tally.{stands}
use Rattle.nc_spool_members.specs.Stages.{stage_told, HasStage}
use Rattle.nc_spool_members.proofs.Staging.{keep-stages}
use Rattle.nc_owner_laws.specs.Weave.{numbered}
use Rattle.nc_worker_state.specs.Setup.{Setup}
use Rattle.nc_worker_state.specs.Incoming.{Incoming, TakesPacket, ClockReads, Reaps, Posts, Subscribes, Removes, Informs}
use Rattle.nc_worker_state.specs.Deed.{Deed, Does, Makes, told}
use Rattle.nc_worker_state.specs.Spooled.{Hold, found_by, found_in, facts_deeds, release, releases}
use Rattle.nc_worker_state.specs.Desk.{Desk, Served, is_waiting, handled, settled, begun, served}
use Rattle.nc_world_laws.proofs.Local.{either, eq_of}
use Rattle.nc_world_members.proofs.Desks.{comes}

-- ---- deeds

module _ (k : ℕ) where
  -- the stage after some deeds
  abbrev pub stage_done : Stage → List Deed → Stage
  stage_done stage [] = stage
  stage_done stage (Does (Subscribed w n conn list mode start timeout close) ∷ deeds) = stage_done (cond (n == k) (Starting list (is_once mode) start) stage) deeds
  stage_done stage (Does (Started w n cur) ∷ deeds) = stage_done (cond (n == k) (started cur stage) stage) deeds
  stage_done stage (Does (Sent w n i c id cur looks) ∷ deeds) = stage_done (cond (n == k) (served_stage cur stage) stage) deeds
  stage_done stage (Does (Ended w n cause) ∷ deeds) = stage_done (cond (n == k) Over stage) deeds
  stage_done stage (d ∷ deeds) = stage_done stage deeds

  pub told_stage : (w : ℕ) (next : ℕ → ℕ) (deeds : List Deed) (h : List Event) → stage_of k (onto (told w next deeds) h) ≡ stage_done (stage_of k h) deeds
  told_stage w next [] h = refl
  told_stage w next (Does (Subscribed v n conn list mode start timeout close) ∷ deeds) h = told_stage w next deeds (Subscribed v n conn list mode start timeout close ∷ h)
  told_stage w next (Does (Started v n cur) ∷ deeds) h = told_stage w next deeds (Started v n cur ∷ h)
  told_stage w next (Does (Sent v n i c id cur looks) ∷ deeds) h = told_stage w next deeds (Sent v n i c id cur looks ∷ h)
  told_stage w next (Does (Ended v n cause) ∷ deeds) h = told_stage w next deeds (Ended v n cause ∷ h)
  told_stage w next (Does e ∷ deeds) h = told_stage w next deeds (e ∷ h)
  told_stage w next (Makes to a ∷ deeds) h = told_stage w (numbered next to) deeds (Made w to (next to) a ∷ h)

  more_done : (xs ys : List Deed) (stage : Stage) → stage_done stage (xs ++ ys) ≡ stage_done (stage_done stage xs) ys
  more_done [] ys stage = refl
  more_done (Does (Subscribed w n conn list mode start timeout close) ∷ xs) ys stage = more_done xs ys _
  more_done (Does (Started w n cur) ∷ xs) ys stage = more_done xs ys _
  more_done (Does (Sent w n i c id cur looks) ∷ xs) ys stage = more_done xs ys _
  more_done (Does (Ended w n cause) ∷ xs) ys stage = more_done xs ys _
  more_done (d ∷ xs) ys stage = more_done xs ys stage

  releases_done : (me : ℕ) (hs : List (Held Hold)) (stage : Stage) → stage_done stage (map (release me) hs) ≡ stage
  releases_done me [] stage = refl
  releases_done me (h ∷ hs) stage = releases_done me hs stage

  facts_done : (me : ℕ) (cause : EndedCause) (fs : List Fact) (stage : Stage) → stage_done stage (facts_deeds me cause fs) ≡ stage_told k stage fs
  facts_done me cause [] stage = refl
  facts_done me cause (facts.Out o ∷ fs) stage = facts_done me cause fs stage
  facts_done me cause (facts.Started n cursor ∷ fs) stage = facts_done me cause fs _
  facts_done me cause (facts.Sent s ∷ fs) stage = facts_done me cause fs _
  facts_done me cause (facts.Ended n deleted ∷ fs) stage = facts_done me cause fs _

-- ---- a desk

-- what opens a step: one that comes starts
abbrev pub stage_opened : ℕ → Incoming → Stage → Stage
stage_opened k (Subscribes n list start) stage = cond (n == k) (Starting list true start) stage
stage_opened k incoming stage = stage

-- the stage of one that stands nowhere
abbrev pub away_stage : Bool → Stage
away_stage subscribed = cond subscribed Over Absent

module _ (setup : Setup) (me k : ℕ) (subscribed : Bool) (stage : Stage) where
  -- who comes is new
  abbrev pub IsFresh : Incoming → Desk → Type 0
  IsFresh (Subscribes n list start) d = stands n (board_of d.spools) ≡ 0
  IsFresh incoming d = Unit {0}

  -- the stage after a step is that of the spools
  abbrev pub Stays : Incoming → Served → Type 0
  Stays incoming r = HasStage k (away_stage (comes incoming k || subscribed)) (stage_done k (stage_opened k incoming stage) r.deeds) (board_of r.after.spools)

  settled_stage : (incoming : Incoming) (r : Served) → Stays incoming r → Stays incoming (settled me r)
  settled_stage incoming r s =
      subst (λ (x : Stage). HasStage k (away_stage (comes incoming k || subscribed)) x (board_of r.after.spools))
      (sym (more_done k r.deeds (releases me r.after.spools) (stage_opened k incoming stage) ∙ releases_done k me (filter (is_idle r.after.spools.shelf) r.after.spools.kept) (stage_done k (stage_opened k incoming stage) r.deeds))) s

  module _ (d : Desk) (has : HasStage k (away_stage subscribed) stage (board_of d.spools)) where
    -- a call of the spools
    called : (cause : EndedCause) (fs : List Fact) (new : Board) → HasStage k (away_stage subscribed) (stage_told k stage fs) new → HasStage k (away_stage subscribed) (stage_done k stage (facts_deeds me cause fs)) new
    called cause fs new s = subst (λ (x : Stage). HasStage k (away_stage subscribed) x new) (sym (facts_done k me cause fs stage)) s

    handled_stage : (from : ℕ) (line : AlertLine) → HasStage k (away_stage subscribed) (stage_done k stage (handled me from line d).deeds) (board_of (handled me from line d).after.spools)
    handled_stage from (lines.PubAnswer r status info full) = either (λ (x : Served). HasStage k (away_stage subscribed) (stage_done k stage x.deeds) (board_of x.after.spools)) (is_waiting r d.waiting) _ _ has has
    handled_stage from (lines.InfoAnswer r status info) = either (λ (x : Served). HasStage k (away_stage subscribed) (stage_done k stage x.deeds) (board_of x.after.spools)) (is_waiting r d.waiting) _ _ has has
    handled_stage from (lines.DelAnswer r status info) = either (λ (x : Served). HasStage k (away_stage subscribed) (stage_done k stage x.deeds) (board_of x.after.spools)) (is_waiting r d.waiting) _ _ has has
    handled_stage from (lines.LookAnswer number q floor past g slot) = called Answered (answer_facts number q floor (found_in from past g slot) d.spools) _ (((keep-stages Hold).calls k (away_stage subscribed) stage d.spools has).answer number q floor (found_in from past g slot))
    handled_stage from (lines.Notice c id g slot) = called Answered (notice_facts c (found_by from id g slot) d.spools) _ (((keep-stages Hold).calls k (away_stage subscribed) stage d.spools has).notice c (found_by from id g slot))
    handled_stage from (lines.EdgeAnswer number q floor last) = called Answered (edge_facts number floor last d.spools) _ (((keep-stages Hold).calls k (away_stage subscribed) stage d.spools has).edge_answer number floor last)
    handled_stage from (lines.Gone c subs) = called Deleted (gone_facts c subs d.spools) _ (((keep-stages Hold).calls k (away_stage subscribed) stage d.spools has).removal c subs)
    handled_stage from (lines.Publish r c len timeout ct body) = has
    handled_stage from (lines.Look number c after fence) = has
    handled_stage from (lines.Edge number n c fence) = has
    handled_stage from (lines.Join c n) = has
    handled_stage from (lines.Part c n) = has
    handled_stage from (lines.Delete r c) = has
    handled_stage from (lines.Info r c) = has

    -- a subscriber comes: it is this one, or another
    came : (n : ℕ) (list : List (List ℕ)) (start : Start) → stands n (board_of d.spools) ≡ 0 → Stays (Subscribes n list start) (begun setup me (Subscribes n list start) d)
    came n list start fresh = by (n == k) refl
      where
        by : (t : Bool) → (n == k) ≡ t → HasStage k (away_stage (t || subscribed)) (stage_done k (cond t (Starting list true start) stage) (begun setup me (Subscribes n list start) d).deeds) (board_of (begun setup me (Subscribes n list start) d).after.spools)
        by true same =
            subst (λ (x : Stage). HasStage k Over x (board_of (begun setup me (Subscribes n list start) d).after.spools)) (sym (facts_done k me Answered (arrive_facts n list start true d.spools) (Starting list true start)))
            (subst (λ (j : ℕ). HasStage k Over (stage_told k (Starting list true start) (arrive_facts j list start true d.spools)) (board_of (begun setup me (Subscribes j list start) d).after.spools)) (sym (eq_of n k same))
            ((keep-stages Hold).comes k list start true d.spools (subst (λ (j : ℕ). stands j (board_of d.spools) ≡ 0) (eq_of n k same) fresh)))
        by false other = called Answered (arrive_facts n list start true d.spools) _ (((keep-stages Hold).calls k (away_stage subscribed) stage d.spools has).arrive n list start true other)

    begun_stage : (incoming : Incoming) → IsFresh incoming d → Stays incoming (begun setup me incoming d)
    begun_stage (TakesPacket from p) fresh = handled_stage from p.line
    begun_stage (ClockReads t) fresh = has
    begun_stage Reaps fresh = has
    begun_stage (Posts c body) fresh = has
    begun_stage (Removes c) fresh = has
    begun_stage (Informs c) fresh = has
    begun_stage (Subscribes n list start) fresh = came n list start fresh

    pub served_stays : (incoming : Incoming) → IsFresh incoming d → Stays incoming (served setup me incoming d)
    served_stays incoming fresh = settled_stage incoming (begun setup me incoming d) (begun_stage incoming fresh)
