use Rattle.nc_replay.proofs.Verdicts.{faulty_by, rejected, rejected-cut}
use Rattle.nc_replay.proofs.check.judge.Goals as goal

pub returns-in_err-write_misconfigured-in-Err-Rule-clause-cut_off : goal.returns-in_err-write_misconfigured-in-Err-Rule-clause-cut_off
returns-in_err-write_misconfigured-in-Err-Rule-clause-cut_off g c = λ e. rejected-cut c.args.text.now _ _ (record { rule = c.in-Err-Rule.rule; at = c.in-Err-Rule.at }) (faulty_by c.args.text.now c.in-Err-Rule.field-0 c.in-Err-Rule.rule c.in-Err-Rule.at c.in-Err-Rule.field-0-is c.in-Err-Rule.ensures) c.in_err-write_misconfigured-in-Err-Rule.ensures.prefix

pub returns-in_ok-write_misconfigured-in-Err-Rule-clause-verdict : goal.returns-in_ok-write_misconfigured-in-Err-Rule-clause-verdict
returns-in_ok-write_misconfigured-in-Err-Rule-clause-verdict g c = rejected c.args.text.now _ _ (record { rule = c.in-Err-Rule.rule; at = c.in-Err-Rule.at }) (faulty_by c.args.text.now c.in-Err-Rule.field-0 c.in-Err-Rule.rule c.in-Err-Rule.at c.in-Err-Rule.field-0-is c.in-Err-Rule.ensures) c.in_ok-write_misconfigured-in-Err-Rule.ensures.whole
