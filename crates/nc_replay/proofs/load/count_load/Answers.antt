use Rattle.std.proofs.Common.{ℕ, List, refl, ap, ◌∙◌, subst}
use Rattle.nc_replay.specs.declared.command.End.{End}
use Rattle.nc_replay.specs.Input.{AddsPrefix}
use Rattle.nc_replay.specs.Top.{EndsAs}
use Rattle.nc_replay.specs.Load.{summary}
use Rattle.nc_replay.proofs.Loads.{cuts_off_counts, is_refused}
use Rattle.nc_replay.proofs.load.count_load.Goals as goal

pub returns-in_err-write_all-in-Ok-Passed-clause-cut_off : goal.returns-in_err-write_all-in-Ok-Passed-clause-cut_off
returns-in_err-write_all-in-Ok-Passed-clause-cut_off g c = λ e.
    cuts_off_counts c.args.seed c.args.size c.as_slice.result.now c.new-journal.result.bytes.items c.replay_text.new.out.bytes.items (c.as_slice.ensures ∙ c.in_ok-script.ensures.text)
    (g.K.Sink.taken c.args.out.now) (g.K.Sink.taken c.write_all.new.out) c.new-journal.ensures.taken
    (subst (λ (x : End). EndsAs x 0 c.as_slice.result.now c.new-journal.result.bytes.items c.replay_text.new.out.bytes.items) c.in-Ok-Passed.field-0-is c.in-Ok-Passed.ensures.end)
    (subst (λ (t : List ℕ). AddsPrefix t (g.K.Sink.taken c.args.out.now) (g.K.Sink.taken c.write_all.new.out))
    (c.deref.ensures.value ∙ c.in_ok-text-in-Ok-Passed.ensures ∙ ap (λ (t : List ℕ). summary c.args.seed c.args.size t) c.bytes.ensures) c.in_err-write_all-in-Ok-Passed.ensures.prefix)

pub returns-in-Ok-Misconfigured-clause-loaded : goal.returns-in-Ok-Misconfigured-clause-loaded
returns-in-Ok-Misconfigured-clause-loaded g c = (
  is_refused c.args.seed c.args.size c.as_slice.result.now c.new-journal.result.bytes.items c.replay_text.new.out.bytes.items (c.as_slice.ensures ∙ c.in_ok-script.ensures.text)
      (subst (λ (x : End). EndsAs x 0 c.as_slice.result.now c.new-journal.result.bytes.items c.replay_text.new.out.bytes.items) c.in-Ok-Misconfigured.field-0-is c.in-Ok-Misconfigured.ensures.end),
  refl,
)
