-- A date's fixed form, and its time.
use Rattle.std.proofs.Common.{◌≡◌, ℕ, List, arith}
use Rattle.httpdate.specs.declared.date.HttpDate.{HttpDate}
use Rattle.httpdate.specs.Date.{date_text, unix_secs}
use Rattle.httpdate.proofs.CalendarLemmas.{days_from_civil_bound}
use Rattle.nc_types.specs.Id.{IsTime}
use Rattle.nc_ident.specs.Date.{IsFixedDate, SpellsDate}

pub fixed_date : (text : List ℕ) (date : HttpDate) (time : ℕ) → text ≡ date_text date → unix_secs date ≡ time → IsFixedDate text time
fixed_date text date time e f = (date, e, f)

-- a date ends before the year 10000
pub is_time : (text : List ℕ) (time : ℕ) → SpellsDate text time → IsTime time
is_time text time x =
    let d : HttpDate = x.0 in
    omega (arith, days_from_civil_bound d.parts.year d.parts.mon d.parts.day d.civil, d.time.0, d.time.1, d.time.2, x.2)
