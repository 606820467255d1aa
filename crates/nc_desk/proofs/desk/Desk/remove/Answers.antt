use Rattle.std.proofs.Common.{ℕ, [], ◌∷◌, None, Some, refl, ◌∙◌, ap, subst}
use Rattle.nc_types.specs.Config.{ConfigAt}
use Rattle.nc_types.specs.Channel.{owner_of}
use Rattle.nc_journal.specs.declared.event.Event.TheVariants.{Asked}
use Rattle.nc_journal.specs.declared.word.Act.TheVariants as acts
use Rattle.nc_journal.specs.declared.alert.AlertLine.TheVariants as lines
use Rattle.nc_worker_state.specs.Desk.{asked}
use Rattle.nc_desk.specs.Desk.{told_desk, Serves}
use Rattle.nc_desk.proofs.Beginning.{begins_by}
use Rattle.nc_desk.proofs.desk.Desk.remove.Goals as goal

pub returns-clause-begins : goal.returns-clause-begins
returns-clause-begins g c =
    λ first.
    let d = told_desk c.args.self.now in
    let to = c.owner-to.ensures ∙ ap (λ (x : ConfigAt). owner_of x.workers c.args.chan) c.conf.view_is in
    let q = subst (λ (n : ℕ). Serves c.ask.new.self c.tell.new.self c.ask.new.scribe (asked n (lines.Delete d.requests c.args.chan) d)) to c.in_ok-ask.ensures.serves in
    record {
      after = q.after;
      tells = begins_by c.ask.new.self c.args.scribe.now c.tell.new.self c.ask.new.scribe c.in_ok-event.event (Asked c.args.scribe.now.me d.requests None acts.Delete (Some (c.args.chan ∷ [])) 0 0) _
          (c.in_ok-event.ensures ∙ ap (λ (n : ℕ). Asked n d.requests None acts.Delete (Some (c.args.chan ∷ [])) 0 0) c.me.ensures) refl c.in_ok-tell.ensures.tells q;
    }

pub returns-clause-own : goal.returns-clause-own
returns-clause-own g c = λ held own. c.in_ok-ask.ensures.own held (c.in_ok-tell.ensures.own held own)
