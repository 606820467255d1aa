use Rattle.std.proofs.Common.{ℕ, None, false, true, refl, ◌∙◌, ap, subst}
use Rattle.nc_journal.specs.declared.event.Event.TheVariants.{Subscribed}
use Rattle.nc_journal.specs.declared.word.EndedCause.TheVariants.{Answered}
use Rattle.nc_journal.specs.declared.word.ModeLine.TheVariants.{Direct}
use Rattle.nc_spool.specs.Calls.{SpoolsAt, arrive_facts}
use Rattle.nc_worker_state.specs.Setup.{setup_of}
use Rattle.nc_worker_state.specs.Incoming.{Subscribes}
use Rattle.nc_worker_state.specs.Desk.{Served, begun}
use Rattle.nc_desk.specs.Desk.{told_desk, Serves}
use Rattle.nc_desk.proofs.Forgetting.{serves_facts}
use Rattle.nc_desk.proofs.Beginning.{begins_by}
use Rattle.nc_desk.proofs.desk.Desk.subscribe.Goals as goal

pub returns-clause-begins : goal.returns-clause-begins
returns-clause-begins g c =
    λ first.
    let new = record c.args.self.now { spools = c.arrive.new.self } in
    let r : ℕ → Served = λ m. begun (setup_of c.args.conf.now first) m (Subscribes c.args.k c.args.list c.args.start) (told_desk c.args.self.now) in
    let by = serves_facts Answered new c.tell.new.self c.tell_facts.new.self (r c.tell.new.self.me) c.in_ok-facts.facts (arrive_facts c.args.k c.args.list c.args.start true c.args.self.now.spools)
    (ap (λ (s : SpoolsAt g.row.H.Denot). told_desk (record c.args.self.now { spools = s })) c.in_ok-facts.ensures.after) c.in_ok-facts.ensures.facts refl c.in_ok-tell_facts.ensures.tells in
    let q = subst (λ (m : ℕ). Serves new c.tell.new.self c.tell_facts.new.self (r m)) c.in_ok-tell.ensures.tells.me by in
    record {
      after = q.after;
      tells = begins_by new c.args.scribe.now c.tell.new.self c.tell_facts.new.self c.in_ok-event.event (Subscribed c.args.scribe.now.me c.args.k None c.args.list Direct c.args.start c.args.conf.now.base.sub_timeout false) (r c.args.scribe.now.me)
          (c.in_ok-event.ensures ∙ ap (λ (n : ℕ). Subscribed n c.args.k None c.args.list Direct c.args.start c.args.conf.now.base.sub_timeout false) c.me.ensures) refl c.in_ok-tell.ensures.tells q;
    }

pub returns-clause-own : goal.returns-clause-own
returns-clause-own g c = λ held own. c.in_ok-tell_facts.ensures.own held (c.in_ok-tell.ensures.own held own)
