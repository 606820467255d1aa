-- The numbers of subscribers that lines take are those that their journal shows.
use Rattle.std.proofs.Common.{◌≡◌, ℕ, Bool, List, [], ◌∷◌, refl, sym, ◌∙◌, ap, None, subst}
use Rattle.std.specs.Prelude.{◌||◌}
use Rattle.nc_history.specs.Steps.{joined}
use Rattle.nc_worker_state.specs.Setup.{Setup}
use Rattle.nc_world.specs.Lines.{Line, Blank, Clocks, Reap, Carry, Take, Settle, Post, Poll, Remove, Inform, lines_world, journal_of}
use Rattle.nc_world.specs.Reached.{IsSetup}
use Rattle.nc_world_follows.specs.Fitting.{AreFit}
use Rattle.nc_world_follows.specs.Laws.{FitLinesReach}
use Rattle.nc_world_follows.proofs.Fitting.{line_can}
use Rattle.nc_script.specs.declared.line.Line.{Line as Said}
use Rattle.nc_cluster.specs.PureLine.{pure_line, CanMake}
use Rattle.nc_cluster.specs.Comers.{subscribed, noted, broken_rule}
use Rattle.nc_cluster.specs.Stands.{ClusterAt, Stands}
use Rattle.nc_cluster.proofs.Joining.{is_line}
use Rattle.nc_cluster.proofs.Coming.{brings, line_subscribed}
use Rattle.nc_replay.specs.Lines.{polls, is_used}

brings-is : (line : Line) (w k : ℕ) → brings line w k ≡ polls w k line
brings-is Blank w k = refl
brings-is (Clocks x t) w k = refl
brings-is (Reap x) w k = refl
brings-is (Carry x v) w k = refl
brings-is (Take x v) w k = refl
brings-is (Settle n) w k = refl
brings-is (Post x c body) w k = refl
brings-is (Poll x n list start) w k = refl
brings-is (Remove x c) w k = refl
brings-is (Inform x c) w k = refl

module _ (reach : FitLinesReach) (setup : Setup) (is : IsSetup setup) where
  pub known : (lines : List Line) → AreFit setup lines → (w k : ℕ) → subscribed (joined (journal_of setup lines)) w k ≡ is_used w k lines
  known [] fit w k = refl
  known (line ∷ lines) fit w k =
      line_subscribed setup is line (joined (journal_of setup lines)) (lines_world setup lines) (reach setup lines fit.0) (line_can setup line (joined (journal_of setup lines)) (lines_world setup lines) fit.1) w k
      ∙ ap (λ b. brings line w k || b) (known lines fit.0 w k)
      ∙ ap (λ b. b || is_used w k lines) (brings-is line w k)

-- a line that can be made and breaks no rule fits behind the others
pub fits-behind : (setup : Setup) (lines : List Line) (s : ClusterAt) (l : Said) → Stands setup lines s → CanMake setup.workers l → broken_rule (noted s.subscribers) (pure_line l) ≡ None → AreFit setup (pure_line l ∷ lines)
fits-behind setup lines s l stands can none = (stands.fit, is_line setup (joined (journal_of setup lines)) s.subscribers l can stands.known none)
