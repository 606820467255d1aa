-- The entries that a history tells of event by event are the buffer that the definitions filter from it.
use Rattle.std.specs.Prelude.{◌≡◌, ℕ, List, [], map, Option, None, Some}
use Rattle.nc_types.specs.Id.{Id}
use Rattle.nc_journal.specs.History.{Along}
use Rattle.nc_journal.specs.Stamp.{IsStamped}
use Rattle.nc_journal.specs.Message.{Message, published, buffer}
use Rattle.nc_journal.specs.Sending.{HasId}
use Rattle.nc_journal.specs.declared.event.Event.{Event}
use Rattle.nc_journal.specs.declared.event.Event.TheVariants.{Left, Removed}
use Rattle.nc_buffer.specs.declared.entry.Entry.{Entry}
use Rattle.nc_owner.specs.declared.channel.Channel.{Channel}
use Rattle.nc_owner.specs.State.{entries_of}
use Rattle.nc_owner_laws.specs.OwnerTold.{channel_of}
use Rattle.nc_owner_laws.specs.Filters.{new_desk}

-- what an entry and a message have in common
pub record Brief : Type 0 where
  pub id : Id
  pub slot : ℕ
  pub expires : ℕ

abbrev pub brief_entry : Entry → Brief
brief_entry e = record { id = e.id; slot = e.slot; expires = e.expires }

abbrev pub brief_message : Message → Brief
brief_message m = record { id = m.id; slot = m.slot; expires = m.expires }

abbrev pub entries_in : Option Channel → List Entry
entries_in None = []
entries_in (Some ch) = entries_of ch

-- what leaves a channel was stored there, and a channel that is removed has nothing left
abbrev pub LeavesStored : List Event → Event → Type 0
LeavesStored h (Left w c id slot cause) = HasId (published c h) id
LeavesStored h (Removed w c last cause) = buffer c h ≡ []
LeavesStored h _ = Unit {0}

-- under the stamp rule, where what leaves was stored, a channel has the entries of its buffer
abbrev pub BufferLaw : Type 0
BufferLaw = (me workers slots first : ℕ) (c : List ℕ) (h : List Event) → IsStamped workers h → Along LeavesStored h
    → map brief_entry (entries_in (channel_of (new_desk me workers slots first) c h)) ≡ map brief_message (buffer c h)
