use Rattle.nc_conf_lex.proofs.Readings.{told, answers}
use Rattle.nc_conf_lex.proofs.lexer.Lexer.next.Goals as goal

pub returns-clause-told : goal.returns-clause-told
returns-clause-told c = told c.args.self.now.text c.args.self.now.at c.step.new.self.at c.step.result c.step.ensures.answers

pub returns-clause-answers : goal.returns-clause-answers
returns-clause-answers c = answers c.args.self.now.text c.args.self.now.at c.step.new.self.at c.step.result c.step.ensures.answers
