-- A send that was lawful when it was made stays so, whatever is stored later.
use Rattle.std.specs.Prelude.{ℕ, List, []}
use Rattle.nc_journal.specs.History.{Along}
use Rattle.nc_journal.specs.Stamp.{IsStamped}
use Rattle.nc_journal.specs.Sending.{IsSentLawfully, SentAt}
use Rattle.nc_journal.specs.declared.event.Event.{Event}
use Rattle.nc_sends.specs.Fences.{FencedAt}

-- a sent is lawful when it is made, where nothing is later
abbrev pub SentThen : ℕ → List Event → Event → Type 0
SentThen workers h e = SentAt workers [] e h

-- under the stamp rule, sends that were lawful and fenced when they were made are lawful
abbrev pub SendsStay : Type 0
SendsStay = (workers : ℕ) (h : List Event) → IsStamped workers h → Along (SentThen workers) h → Along (FencedAt workers) h → IsSentLawfully workers h
