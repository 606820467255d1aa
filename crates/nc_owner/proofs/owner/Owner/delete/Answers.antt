use Rattle.std.proofs.Common.{◌≡◌, ◌∙◌, sym, subst, ℕ, List, Bool, None}
use Rattle.std.specs.Map.{lookup}
use Rattle.nc_owner.specs.State.{OwnerAt, is_name}
use Rattle.nc_owner.specs.OtherSteps.{touch_after}
use Rattle.nc_owner.specs.Remove.{after_removal}
use Rattle.nc_owner.specs.Rules.{IsFresh}
use Rattle.nc_owner.proofs.Removing.{closed, delete_told, same_removal}
use Rattle.nc_owner.proofs.owner.Owner.delete.Given.{Over}
use Rattle.nc_owner.proofs.owner.Owner.delete.Goals as goal

touched : (g : Over) (c : goal.After-drop-chan-inside-2 g) → c.close.new.self ≡ touch_after c.args.chan (g.P.Slots.slots c.args.pool.now c.args.self.now.desk.me) c.args.self.now
touched g c = closed _ _ _ _ _ c.open.new.self _ _ _ c.in_ok-name.ensures c.in_ok-channel.ensures.bench c.in_ok-channel.ensures.existed c.in_ok-channel.ensures.channels c.in_ok-close.ensures.desk c.in_ok-close.ensures.channels

pub returns-clause-alerts : goal.returns-clause-alerts
returns-clause-alerts g c = delete_told c.args.from c.args.r c.args.chan (g.P.Slots.slots c.args.pool.now c.args.self.now.desk.me) (g.P.Slots.slots c.open.new.pool c.args.self.now.desk.me) c.args.self.now c.open.new.self c.close.new.self c.in_ok-channel.channel c.in_ok-channel.existed c.in_ok-alert.alert c.in_ok-alerts.alerts c.push.new.self c.in_ok-channel.ensures.bench c.in_ok-channel.ensures.existed (touched g c) c.in_ok-alerts.ensures.alerts c.in_ok-alert.ensures c.in_ok-push.ensures.ok

pub returns-clause-owner : goal.returns-clause-owner
returns-clause-owner g c = c.in_ok-alerts.ensures.owner ∙ same_removal (λ (e : Bool) (x : OwnerAt). after_removal e c.args.chan x) c.in_ok-channel.existed _ c.close.new.self _ c.in_ok-channel.ensures.existed (touched g c)

pub returns-clause-holds : goal.returns-clause-holds
returns-clause-holds g c = λ x. c.in_ok-alerts.ensures.holds x ∙ c.in_ok-channel.ensures.holds x

pub returns-clause-fresh : goal.returns-clause-fresh
returns-clause-fresh g c =
    let gone = subst (λ (n : List ℕ). lookup (is_name n) c.open.new.self.channels ≡ None) (sym c.in_ok-name.ensures) c.in_ok-channel.ensures.gone in
    c.in_ok-alerts.ensures.fresh (subst (λ (n : List ℕ). IsFresh n c.close.new.self) c.in_ok-name.ensures (c.in_ok-close.ensures.fresh gone c.in_ok-channel.ensures.fresh))
