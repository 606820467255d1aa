use Rattle.std.proofs.Common.{◌≡◌, sym, subst, arith}
use Rattle.nc_grammar.specs.Gives.{Gives}
use Rattle.nc_grammar.specs.Rows.{nth_at}
use Rattle.nc_journal_read.specs.Shape.{kit}
use Rattle.nc_journal_read.specs.AlertTable.{publish_row, alert_rows}
use Rattle.nc_journal_read.proofs.alert_reading.alert_of_kind.Goals as goal

pub returns-in_default : goal.returns-in_default
returns-in_default c =
    let last : c.args.kind ≡ 13 = omega (arith, c.in_default, c.requires) in
    subst (λ k. Gives c.info_answer.new.reader c.info_answer.result (nth_at kit publish_row alert_rows k c.args.reader.now)) (sym last) c.info_answer.ensures
