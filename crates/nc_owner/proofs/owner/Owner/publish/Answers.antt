use Rattle.std.proofs.Common.{subst}
use Rattle.nc_owner.specs.Holds.{AllCarry}
use Rattle.nc_owner.specs.AlertLines.{out_lines}
use Rattle.nc_owner.specs.Pool.{SameOthers}
use Rattle.nc_owner.specs.PublishClauses.{Publishes}
use Rattle.nc_owner.specs.Publish.{message_of_order, stamp}
use Rattle.nc_owner.specs.State.{OwnerAt, bench_of}
use Rattle.nc_owner.proofs.PublishRules.{answered_rule, late_rule, full_rule, members_rule, retired_rule, freed_rule, lowest_rule}
use Rattle.nc_owner.proofs.owner.Owner.publish.Given.{Over}
use Rattle.nc_owner.proofs.owner.Owner.publish.Goals as goal

published : (g : Over) (c : goal.In_ok-done g)
    → Publishes g.P.Slots.exact c.args.from c.args.order (g.P.Slots.slots c.args.pool.now c.args.self.now.desk.me) c.args.self.now (g.P.Slots.holds c.args.pool.now c.args.self.now.desk.me)
    c.in_ok-done.done.events.events (out_lines c.in_ok-done.done.alerts) (g.P.Slots.slots c.publish_to.new.pool c.args.self.now.desk.me) (record { desk = c.publish_to.new.desk; channels = c.publish_to.new.channels.entries }) (g.P.Slots.holds c.publish_to.new.pool c.args.self.now.desk.me)
published g c = subst (λ (s : OwnerAt). Publishes g.P.Slots.exact c.args.from c.args.order (g.P.Slots.slots c.args.pool.now s.desk.me) s (g.P.Slots.holds c.args.pool.now s.desk.me)
    c.in_ok-done.done.events.events (out_lines c.in_ok-done.done.alerts) (g.P.Slots.slots c.publish_to.new.pool s.desk.me) (record { desk = c.publish_to.new.desk; channels = c.publish_to.new.channels.entries }) (g.P.Slots.holds c.publish_to.new.pool s.desk.me)) c.self.view_is c.in_ok-done.ensures.publishes

pub returns-clause-publishes : goal.returns-clause-publishes
returns-clause-publishes g c = published g c

pub returns-clause-carries : goal.returns-clause-carries
returns-clause-carries g c = subst (λ (s : OwnerAt). AllCarry g.P.Slots.held s.desk.me (message_of_order (stamp (bench_of c.args.order.chan (g.P.Slots.slots c.args.pool.now s.desk.me) s)) c.args.order s.desk.clock) c.in_ok-done.done.alerts) c.self.view_is c.in_ok-done.ensures.carries

pub returns-clause-others : goal.returns-clause-others
returns-clause-others g c = (subst (λ (s : OwnerAt). SameOthers s.desk.me (g.P.Slots.slots c.args.pool.now) (g.P.Slots.slots c.publish_to.new.pool)) c.self.view_is c.in_ok-done.ensures.others)

pub returns-clause-other_holds : goal.returns-clause-other_holds
returns-clause-other_holds g c = λ x. (subst (λ (s : OwnerAt). SameOthers s.desk.me (g.P.Slots.holds c.args.pool.now) (g.P.Slots.holds c.publish_to.new.pool)) c.self.view_is (c.in_ok-done.ensures.other_holds x))

pub returns-clause-answered : goal.returns-clause-answered
returns-clause-answered g c = answered_rule _ _ _ _ _ _ _ _ _ _ _ (published g c)

pub returns-clause-late : goal.returns-clause-late
returns-clause-late g c = late_rule _ _ _ _ _ _ _ _ _ _ _ (published g c)

pub returns-clause-full : goal.returns-clause-full
returns-clause-full g c = full_rule _ _ _ _ _ _ _ _ _ _ _ (published g c)

pub returns-clause-members : goal.returns-clause-members
returns-clause-members g c = members_rule _ _ _ _ _ _ _ _ _ _ _ (published g c)

pub returns-clause-retired : goal.returns-clause-retired
returns-clause-retired g c = retired_rule _ _ _ _ _ _ _ _ _ _ _ (published g c)

pub returns-clause-freed : goal.returns-clause-freed
returns-clause-freed g c = freed_rule _ _ _ _ _ _ _ _ _ _ _ (published g c)

pub returns-clause-lowest : goal.returns-clause-lowest
returns-clause-lowest g c = lowest_rule _ _ _ _ _ _ _ _ _ _ _ (published g c)
