use Rattle.std.proofs.Common.{refl, sym, ◌∙◌}
use Rattle.nc_history.specs.Steps.{joined}
use Rattle.nc_world.specs.Lines.{journal_of}
use Rattle.nc_cluster.specs.Comers.{noted, subscribed}
use Rattle.nc_replay.proofs.Said.{is-new, is-poll, not-new}
use Rattle.nc_replay.proofs.Known.{known}
use Rattle.nc_replay.proofs.making.admit.Goals as goal

pub returns-in_default-clause-judged : goal.returns-in_default-clause-judged
returns-in_default-clause-judged g c = λ setup lines stands. (
  c.in_ok-line.line,
  c.in_ok-line.ensures,
  (refl, is-new (subscribed (joined (journal_of setup lines))) lines c.in_ok-line.line (known c.fit_lines_reach.ensures setup stands.is lines stands.fit) (sym (c.fits.ensures.told setup lines stands) ∙ c.in_default.is)),
)

pub place_of-requires-clause-poll : goal.place_of-requires-clause-poll
place_of-requires-clause-poll g c =
    (is-poll (noted c.args.cluster.now.subscribers) c.args.workers c.args.text.now c.in_ok-line.line c.in-Some.rule c.in_ok-line.ensures (sym c.fits.ensures.rule ∙ c.in-Some.is)).0

pub returns-clause-judged : goal.returns-clause-judged
returns-clause-judged g c = λ setup lines stands.
    not-new (subscribed (joined (journal_of setup lines))) c.args.workers lines c.args.text.now c.in_ok-line.line c.in-Some.rule c.place_of.result (known c.fit_lines_reach.ensures setup stands.is lines stands.fit) c.in_ok-line.ensures
    (sym (c.fits.ensures.told setup lines stands) ∙ c.in-Some.is) c.place_of.ensures
