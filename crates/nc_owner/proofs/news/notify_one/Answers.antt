use Rattle.std.proofs.Common.{◌∙◌, ap}
use Rattle.nc_slots.specs.Slot.{slot_at, message_of}
use Rattle.nc_owner.proofs.Carried.{all_carry-push, message-granted, same_message}
use Rattle.nc_owner.proofs.Pools.{others_same}
use Rattle.nc_owner.proofs.news.notify_one.Goals as goal

pub returns-clause-message : goal.returns-clause-message
returns-clause-message g c = ap (λ row. message_of (slot_at row c.args.news.now.slot)) c.in_ok-hold.ensures.granted ∙ message-granted (g.P.Slots.slots c.args.pool.now c.args.desk.now.me) c.args.news.now.slot

pub returns-clause-carries : goal.returns-clause-carries
returns-clause-carries g c =
    λ m is all. rw c.in_ok-push-2.ensures.ok (all_carry-push g.P.Slots.held c.args.desk.now.me m c.args.alerts.now _ all
    (record { owner = c.in_ok-hold.ensures.place.0; place = c.in_ok-hold.ensures.place.1; message = same_message _ _ m c.in_ok-hold.ensures.message is }))

pub returns-clause-others : goal.returns-clause-others
returns-clause-others g c = others_same _ _ _ c.grant.ensures.others

pub returns-clause-other_holds : goal.returns-clause-other_holds
returns-clause-other_holds g c = λ x. others_same _ _ _ (c.grant.ensures.other_holds x)
