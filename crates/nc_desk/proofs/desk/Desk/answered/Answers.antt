use Rattle.nc_desk.proofs.Forgetting.{serves_answer, held_answer}
use Rattle.nc_desk.proofs.desk.Desk.answered.Goals as goal

pub returns-clause-serves : goal.returns-clause-serves
returns-clause-serves g c =
    serves_answer c.args.self.now c.answered.new.self c.args.scribe.now c.tell_facts.new.self c.args.from c.args.no c.args.q c.args.floor c.args.found c.found_in.result c.in_ok-facts.facts
    c.found_in.ensures c.in_ok-facts.ensures.facts c.in_ok-facts.ensures.after c.in_ok-tell_facts.ensures.tells

pub returns-clause-held : goal.returns-clause-held
returns-clause-held g c =
    λ held granted all. held_answer held c.args.self.now.spools c.answered.new.self c.args.from c.args.no c.args.q c.args.floor c.args.found c.found_in.result c.found_in.ensures c.in_ok-facts.ensures.after granted all
