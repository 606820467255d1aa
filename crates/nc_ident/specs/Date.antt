-- Dates of HTTP.
use Rattle.std.specs.Prelude.{◌≡◌, ℕ, List}
use Rattle.nc_types.specs.Id.{IsTime}
use Rattle.httpdate.specs.declared.date.HttpDate.{HttpDate}
use Rattle.httpdate.specs.Date.{IsDateText, date_text, unix_secs}

-- the text is one of the three spellings of the date that begins at this second
abbrev pub SpellsDate : List ℕ → ℕ → Type 0
SpellsDate text time = (date : HttpDate) × IsDateText text date × (unix_secs date ≡ time)

-- the text is the fixed form of the date that begins at this second
abbrev pub IsFixedDate : List ℕ → ℕ → Type 0
IsFixedDate text time = (date : HttpDate) × (text ≡ date_text date) × (unix_secs date ≡ time)

-- a second that a text spells is a time: the years of dates have four digits
abbrev pub SpelledIsTime : Type 0
SpelledIsTime = (text : List ℕ) (time : ℕ) → SpellsDate text time → IsTime time

-- no text spells two seconds
abbrev pub SpellsOneSecond : Type 0
SpellsOneSecond = (text : List ℕ) (a b : ℕ) → SpellsDate text a → SpellsDate text b → a ≡ b

-- the fixed form of a second's date spells that second
abbrev pub FixedDateSpells : Type 0
FixedDateSpells = (text : List ℕ) (time : ℕ) → IsFixedDate text time → SpellsDate text time

-- a second has one date in the fixed form
abbrev pub FixedDateIsOne : Type 0
FixedDateIsOne = (a b : List ℕ) (time : ℕ) → IsFixedDate a time → IsFixedDate b time → a ≡ b
