use Rattle.std.proofs.Common.{◌∙◌, ap, sym}
use Rattle.std.specs.Prelude.{None, Some, is_none}
use Rattle.nc_slots.proofs.PlainRows.{put_lowest, put_held, put_shows}
use Rattle.nc_slots.proofs.plain.PlainRow.put.Goals as goal

pub invariant_of-self : goal.invariant_of-self
invariant_of-self c = put_held c.self.inside.slots c.put.new.self c.self.inside.holds.items c.in-Some.slot c.in-Ok.message (sym c.lowest_unused.ensures ∙ c.in-Some.is) c.put.ensures c.self.invariant

pub returns-in-Ok-clause-lowest : goal.returns-in-Ok-clause-lowest
returns-in-Ok-clause-lowest c = put_lowest c.self.inside.slots c.self.inside.holds.items c.args.self.now (Some c.in-Some.slot) c.self.view_is (sym c.in-Some.is ∙ c.lowest_unused.ensures)

pub returns-in-Ok-clause-put : goal.returns-in-Ok-clause-put
returns-in-Ok-clause-put c = put_shows c.self.inside.slots c.put.new.self c.self.inside.holds.items c.args.self.now c.in-Some.slot c.in-Ok.message c.args.msg c.self.view_is c.in-Ok.ensures.ok c.put.ensures

pub returns-in-None-clause-full : goal.returns-in-None-clause-full
returns-in-None-clause-full c = sym (ap is_none (put_lowest c.self.inside.slots c.self.inside.holds.items c.args.self.now None c.self.view_is (sym c.in-None.is ∙ c.lowest_unused.ensures)))

pub returns-in-Err-clause-full : goal.returns-in-Err-clause-full
returns-in-Err-clause-full c = sym (ap is_none (put_lowest c.self.inside.slots c.self.inside.holds.items c.args.self.now (Some c.in-Some.slot) c.self.view_is (sym c.in-Some.is ∙ c.lowest_unused.ensures)))
