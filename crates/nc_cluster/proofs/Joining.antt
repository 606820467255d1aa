-- A cluster stands for the lines that it made.
use Rattle.std.proofs.Common.{◌≡◌, ℕ, zero, suc, Bool, true, false, cond, List, [], ◌∷◌, Option, Some, None, refl, sym, ap, ◌∙◌, subst}
use Rattle.std.specs.Prelude.{◌||◌, IfOk, IfErr}
use Rattle.std.specs.declared.result.Result.{Result}
use Rattle.std.specs.declared.result.Result.TheVariants.{Ok, Err}
use Rattle.nc_types.specs.declared.start.Start.{Start}
use Rattle.nc_types.specs.declared.start.Start.TheVariants.{Oldest, Newest, Given}
use Rattle.nc_journal.specs.Standing.{StartFits}
use Rattle.nc_journal.specs.declared.event.Event.{Event}
use Rattle.nc_journal.specs.declared.event.EventList.{EventList}
use Rattle.nc_owner.specs.declared.member.Member.{Member}
use Rattle.nc_spool.specs.Arrive.{FitsList}
use Rattle.nc_history.specs.Steps.{joined}
use Rattle.nc_worker_state.specs.Setup.{Setup}
use Rattle.nc_worker_state.specs.Worker.{WorkerAt}
use Rattle.nc_world.specs.World.{World, new_world}
use Rattle.nc_world.specs.Lines.{Line, Settle, line_events, line_world, lines_world, journal_of}
use Rattle.nc_world.specs.Reached.{IsSetup, Reached}
use Rattle.nc_world_follows.specs.Fitting.{IsLine}
use Rattle.nc_world_follows.specs.Laws.{FitLinesReach}
use Rattle.nc_world_follows.proofs.Fitting.{line_can}
use Rattle.nc_turns.specs.Worn.{worn_events, worn_world}
use Rattle.nc_floor.specs.Floor.{setup_in}
use Rattle.nc_script.specs.declared.line.Line.{Line as Said}
use Rattle.nc_script.specs.declared.line.Line.TheVariants as lines
use Rattle.nc_cluster.specs.declared.cluster.Cluster.{Cluster}
use Rattle.nc_cluster.specs.declared.cluster.MoveRefusal.{MoveRefusal}
use Rattle.nc_cluster.specs.declared.cluster.MoveRefusal.TheVariants as refusals
use Rattle.nc_cluster.specs.PureLine.{pure_line, CanMake}
use Rattle.nc_cluster.specs.Comers.{with_line, noted, subscribed, broken_rule}
use Rattle.nc_cluster.specs.Cluster.{HasMade, IsRefused}
use Rattle.nc_cluster.specs.Stands.{ClusterAt, seen, Stands, GoesOn, AfterWorn, IsLeft}
use Rattle.nc_cluster.proofs.Coming.{brings, line_subscribed, line_noted}

-- ---- lines that fit

start_fits : (list : List (List ℕ)) (start : Start) → FitsList list start → StartFits list start
start_fits list Oldest f = tt
start_fits list Newest f = tt
start_fits list (Given cursor) f = f

unbroken : (b : Bool) → cond {A = Option ℕ} b (Some 10) None ≡ None → b ≡ false
unbroken true e = absurd cc
unbroken false e = refl

pub is_line : (setup : Setup) (h : List Event) (ms : List Member) (line : Said) → CanMake setup.workers line → ((w k : ℕ) → noted ms w k ≡ subscribed h w k) → broken_rule (noted ms) (pure_line line) ≡ None → IsLine setup h (pure_line line)
is_line setup h ms lines.Blank c known u = tt
is_line setup h ms (lines.Clock w t) c known u = c
is_line setup h ms (lines.Reap w) c known u = c
is_line setup h ms (lines.Carry w to) c known u = c
is_line setup h ms (lines.Take w from) c known u = c
is_line setup h ms (lines.Settle n) c known u = tt
is_line setup h ms (lines.Post w chan body) c known u = c
is_line setup h ms (lines.Poll w k list start) c known u = (
  c.0,
  record {
    new = sym (known w k) ∙ unbroken (noted ms w k) u;
    distinct = c.2.distinct;
    named = c.2.named;
    fits = start_fits list start c.1;
  },
)
is_line setup h ms (lines.Remove w chan) c known u = c
is_line setup h ms (lines.Inform w chan) c known u = c

-- ---- one line more

stands_more : FitLinesReach → (line : Line) (setup : Setup) (lines : List Line) (old new : ClusterAt) → Stands setup lines old → new.spent ≡ false → new.setup ≡ old.setup → new.world ≡ line_world old.setup line old.world → new.subscribers ≡ with_line line old.subscribers
    → IsLine setup (joined (journal_of setup lines)) line → Stands setup (line ∷ lines) new
stands_more reach line setup lines old new s fresh same leaves more i =
    let h : List Event = joined (journal_of setup lines) in
    let world : World = lines_world setup lines in
    let reached : Reached setup h world = reach setup lines s.fit in
    record {
      fresh = fresh;
      same = same ∙ s.same;
      is = s.is;
      fit = (s.fit, i);
      led = leaves ∙ (λ j. line_world (s.same j) line (s.led j));
      known = λ w k. ap (λ (ms : List Member). noted ms w k) more ∙ line_noted line old.subscribers w k ∙ ap (λ b. brings line w k || b) (s.known w k) ∙ sym (line_subscribed setup s.is line h world reached (line_can setup line h world i) w k);
    }

happens : (line : Line) (setup : Setup) (lines : List Line) (old : ClusterAt) (events : List Event) → Stands setup lines old → events ≡ line_events old.setup line old.world → events ≡ line_events setup line (lines_world setup lines)
happens line setup lines old events s e = e ∙ (λ j. line_events (s.same j) line (s.led j))

after_worn : FitLinesReach → (m : ℕ) (setup : Setup) (lines : List Line) (old new : ClusterAt) (events : List Event) → Stands setup lines old → new.spent ≡ false → new.setup ≡ old.setup → new.world ≡ worn_world old.setup m old.world → new.subscribers ≡ old.subscribers
    → events ≡ worn_events old.setup m old.world → AfterWorn m events setup lines new
after_worn reach zero setup lines old new events s fresh same leaves more e = (
  e,
  record {
    fresh = fresh;
    same = same ∙ s.same;
    is = s.is;
    fit = s.fit;
    led = leaves ∙ s.led;
    known = λ w k. ap (λ (ms : List Member). noted ms w k) more ∙ s.known w k;
  },
)
after_worn reach (suc m) setup lines old new events s fresh same leaves more e = (happens (Settle (suc m)) setup lines old events s e, stands_more reach (Settle (suc m)) setup lines old new s fresh same leaves more tt)

-- ---- the cluster

pub begins : (setup : Setup) (new : ClusterAt) → new.spent ≡ false → new.setup ≡ setup → new.world ≡ new_world setup → new.subscribers ≡ [] → IsSetup new.setup → Stands setup [] new
begins setup new fresh same led none is = record {
  fresh = fresh;
  same = same;
  is = subst IsSetup same is;
  fit = tt;
  led = led;
  known = λ w k. ap (λ (ms : List Member). noted ms w k) none;
}

-- the rule by the journal
pub rule_told : (o : Option ℕ) (line : Line) (setup : Setup) (lines : List Line) (s : ClusterAt) → o ≡ broken_rule (noted s.subscribers) line → Stands setup lines s → o ≡ broken_rule (subscribed (joined (journal_of setup lines))) line
rule_told o line setup lines s e stands = e ∙ (λ j. broken_rule (λ w k. stands.known w k j) line)

module _ (reach : FitLinesReach) {W : Type 0} (worker : W → WorkerAt) where
  made_on : (line : Said) (told : EventList) (old new : Cluster W) → CanMake (setup_in old.floor).workers line → broken_rule (noted old.subscribers) (pure_line line) ≡ None → HasMade worker (pure_line line) told.events old new
      → GoesOn (pure_line line) told.events (seen worker old) (seen worker new)
  made_on line told old new c u m setup lines s =
      let can : CanMake setup.workers line = subst (λ (x : Setup). CanMake x.workers line) s.same c in (
        happens (pure_line line) setup lines (seen worker old) told.events s m.happened,
        stands_more reach (pure_line line) setup lines (seen worker old) (seen worker new) s m.fresh.1 m.setup m.leaves m.noted (is_line setup (joined (journal_of setup lines)) old.subscribers line can s.known u),
      )

  pub goes_on : (result : Result EventList MoveRefusal) (line : Said) (old new : Cluster W) → CanMake (setup_in old.floor).workers line → broken_rule (noted old.subscribers) (pure_line line) ≡ None → IfOk result (λ told. HasMade worker (pure_line line) told.events old new)
      → IfOk result (λ told. GoesOn (pure_line line) told.events (seen worker old) (seen worker new))
  goes_on (Ok told) line old new c u m = made_on line told old new c u m
  goes_on (Err refusal) line old new c u m = tt

  leaves : (refusal : MoveRefusal) (line : Line) (old new : Cluster W) → IsRefused worker line refusal old new → IsLeft refusal (seen worker old) (seen worker new)
  leaves refusals.NoMemory line old new r = tt
  leaves (refusals.Worn events) line old new r = λ setup lines s. (r.moves, after_worn reach r.moves setup lines (seen worker old) (seen worker new) events.events s r.fresh.1 r.setup r.leaves r.noted r.happened)
  leaves refusals.Spent line old new r = tt

  pub left : (result : Result EventList MoveRefusal) (line : Line) (old new : Cluster W) → IfErr result (λ refusal. IsRefused worker line refusal old new) → IfErr result (λ refusal. IsLeft refusal (seen worker old) (seen worker new))
  left (Ok told) line old new r = tt
  left (Err refusal) line old new r = leaves refusal line old new r
