use Rattle.nc_desk.proofs.Forgetting.{serves_notice, held_notice}
use Rattle.nc_desk.proofs.desk.Desk.noticed.Goals as goal

pub returns-clause-serves : goal.returns-clause-serves
returns-clause-serves g c =
    serves_notice c.args.self.now c.noticed.new.self c.args.scribe.now c.tell_facts.new.self c.args.from c.args.c.now c.args.found c.found_of.result c.in_ok-facts.facts
    c.found_of.ensures c.in_ok-facts.ensures.facts c.in_ok-facts.ensures.after c.in_ok-tell_facts.ensures.tells

pub returns-clause-held : goal.returns-clause-held
returns-clause-held g c =
    λ held granted all. held_notice held c.args.self.now.spools c.noticed.new.self c.args.from c.args.c.now c.args.found c.found_of.result c.found_of.ensures c.in_ok-facts.ensures.after granted all
