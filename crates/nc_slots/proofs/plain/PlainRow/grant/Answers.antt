use Rattle.std.proofs.Common.{arith}
use Rattle.nc_slots.proofs.Held.{held_there}
use Rattle.nc_slots.proofs.PlainRows.{grant_held, grant_few, grant_shows}
use Rattle.nc_slots.proofs.plain.PlainRow.grant.Goals as goal

pub index_mut-requires : goal.index_mut-requires
index_mut-requires c = let there = held_there c.self.inside.slots c.self.inside.holds.items c.args.slot c.self.invariant c.in-Some.ensures.can in omega (arith, there)

pub overflow_add-index_mut : goal.overflow_add-index_mut
overflow_add-index_mut c = let few = grant_few c.self.inside.slots c.self.inside.holds.items c.args.slot c.index_mut.result.now c.in-Some.ensures.can c.index_mut.ensures.value c.self.invariant in omega (arith, few)

pub invariant_of-self : goal.invariant_of-self
invariant_of-self c = grant_held c.self.inside.slots c.grant.new.self c.self.inside.holds.items c.args.slot c.index_mut.result.now c.in-Some.ensures.can c.index_mut.ensures.value c.grant.ensures c.self.invariant

pub returns-clause-granted : goal.returns-clause-granted
returns-clause-granted c = grant_shows c.self.inside.slots c.grant.new.self c.self.inside.holds.items c.args.self.now c.args.slot c.self.view_is c.grant.ensures
