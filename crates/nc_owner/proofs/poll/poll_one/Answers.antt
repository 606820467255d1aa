use Rattle.std.proofs.Common.{Bool, ◌∙◌, sym, ap}
use Rattle.nc_slots.specs.Slots.{is_held as shows_held}
use Rattle.nc_owner.proofs.Polls.{held_told, can_hold}
use Rattle.nc_owner.proofs.Pools.{all_same, others_same}
use Rattle.nc_owner.proofs.poll.poll_one.Goals as goal

pub returns-clause-fits : goal.returns-clause-fits
returns-clause-fits g c = λ h. can_hold _ _ c.poll.ensures.fits (sym c.is_held-held.ensures ∙ h)

pub returns-clause-told : goal.returns-clause-told
returns-clause-told g c = λ x. ap (λ (h : Bool). record { slot = c.args.slot; held = h }) (c.is_held-held.ensures ∙ (ap shows_held (c.poll.ensures.told x) ∙ held_told _ _))

pub returns-clause-others : goal.returns-clause-others
returns-clause-others g c = others_same _ _ _ c.poll.ensures.others

pub returns-clause-holds : goal.returns-clause-holds
returns-clause-holds g c = λ x. all_same _ _ (c.poll.ensures.holds x)
