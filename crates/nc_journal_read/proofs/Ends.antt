-- What is told of a whole line.
use Rattle.std.proofs.Common.{◌≡◌, ℕ, List, length, Result, Ok, Err, sym, subst}
use Rattle.std.specs.Prelude.{IfOk, IfErr}
use Rattle.nc_grammar.specs.declared.fault.Fault.{Fault}
use Rattle.nc_grammar.specs.declared.fault.Unread.{Unread}
use Rattle.nc_grammar.specs.declared.fault.Unread.TheVariants as unread
use Rattle.nc_grammar.specs.Gives.{Gives}
use Rattle.nc_grammar.specs.Whole.{IsLine, IsWhole, ended}
use Rattle.nc_grammar.proofs.Whole.{whole_is}
use Rattle.nc_journal_read.specs.Fit.{EventFits}
use Rattle.nc_journal.specs.EventLine.{line}
use Rattle.nc_journal_read.specs.EventTable.{event_at}
use Rattle.nc_journal_read.specs.BadLine.{IsBadLine}
use Rattle.nc_journal.specs.declared.event.Event.{Event}
use Rattle.nc_journal_read.proofs.Lines.{event_exact}

whole_line : (t rest : List ℕ) (outcome : Result Event Fault) (told : Result Event Unread) → Gives rest outcome (event_at t) → told ≡ ended (length t) rest outcome → IsWhole (IsLine EventFits line) t told
whole_line t rest outcome told h e =
    subst (λ (y : Result Event Unread). IsWhole (IsLine EventFits line) t y) (sym e) (whole_is (IsLine EventFits line) event_exact.stays event_at event_exact.exact t rest outcome h)

as_found : (t : List ℕ) (told : Result Event Unread) → IsWhole (IsLine EventFits line) t told → IfOk told (λ e. IsLine EventFits line e t)
as_found t (Ok e) h = h
as_found t (Err u) h = tt

as_bad : (t : List ℕ) (told : Result Event Unread) → IsWhole (IsLine EventFits line) t told → IfErr told (λ fault. IsBadLine t fault)
as_bad t (Ok e) h = tt
as_bad t (Err (unread.Bad place)) h = h
as_bad t (Err unread.NoMemory) h = tt

pub line_found : (t rest : List ℕ) (outcome : Result Event Fault) (told : Result Event Unread) → Gives rest outcome (event_at t) → told ≡ ended (length t) rest outcome → IfOk told (λ e. IsLine EventFits line e t)
line_found t rest outcome told h is = as_found t told (whole_line t rest outcome told h is)

pub line_bad : (t rest : List ℕ) (outcome : Result Event Fault) (told : Result Event Unread) → Gives rest outcome (event_at t) → told ≡ ended (length t) rest outcome → IfErr told (λ fault. IsBadLine t fault)
line_bad t rest outcome told h is = as_bad t told (whole_line t rest outcome told h is)
