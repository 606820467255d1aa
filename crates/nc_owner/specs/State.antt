-- What an owner keeps, and what a step on one channel works on.
use Rattle.std.specs.Prelude.{ℕ, Bool, List, [], Option, None, if◌then◌else◌, unwrap_or, is_some}
use Rattle.std.specs.Ordering.{nat_cmp}
use Rattle.std.specs.Cmp.Lexicographic.{slice_cmp}
use Rattle.std.specs.Map.{lookup, remove_entry}
use Rattle.std.specs.BTreeMap.{insert_entry, is_at}
use Rattle.nc_types.specs.Id.{no_id}
use Rattle.nc_types.specs.Message.{Message}
use Rattle.nc_buffer.specs.declared.entry.Entry.{Entry}
use Rattle.nc_slots.specs.declared.slot.Slot.{Slot}
use Rattle.nc_owner.specs.declared.channel.Channel.{Channel}
use Rattle.nc_owner.specs.declared.desk.Desk.{Desk}

-- an owner: its channels in ascending order of name, and the rest
pub record OwnerAt : Type 0 where
  pub desk : Desk
  pub channels : List (List ℕ × Channel)

-- a worker's new owner: its numbers of looks and of grants begin with `first`
abbrev pub new_owner : ℕ → ℕ → ℕ → ℕ → OwnerAt
new_owner me workers slots first = record {
  desk = record { me = me; workers = workers; slots = slots; clock = 0; floor = 0; spent = no_id; looks = first; grants = first; buffered = 0; retired = [] };
  channels = [];
}

-- what a step on one channel works on: the owner without its channels, its slots, and the channel
pub record Bench : Type 0 where
  pub desk : Desk
  pub row : List (Slot Message)
  pub channel : Channel

abbrev pub bench_from : Desk → List (Slot Message) → Channel → Bench
bench_from desk row channel = record { desk = desk; row = row; channel = channel }

abbrev pub entries_of : Channel → List Entry
entries_of ch = ch.backlog.entries

abbrev pub with_entries : List Entry → Channel → Channel
with_entries es ch = record ch { backlog = record ch.backlog { entries = es } }

-- a channel that comes to exist
abbrev pub new_channel : Desk → Channel
new_channel d = record { backlog = record { last = d.spent; entries = [] }; latest = None; members = []; marks = [] }

-- a key of the channels is this name
abbrev pub is_name : List ℕ → List ℕ → Bool
is_name c d = is_at (slice_cmp nat_cmp c) d

-- the channel of a name, if it exists
abbrev pub found : List ℕ → OwnerAt → Option Channel
found c s = lookup (is_name c) s.channels

abbrev pub exists : List ℕ → OwnerAt → Bool
exists c s = is_some (found c s)

-- the channel of a name, or the one that would be made
abbrev pub opened : List ℕ → OwnerAt → Channel
opened c s = unwrap_or (found c s) (new_channel s.desk)

abbrev pub bench_of : List ℕ → List (Slot Message) → OwnerAt → Bench
bench_of c row s = bench_from s.desk row (opened c s)

-- the channels without one of them
abbrev pub others : List ℕ → List (List ℕ × Channel) → List (List ℕ × Channel)
others c channels = remove_entry (is_name c) channels

-- the channels with this one, if it stays
abbrev pub put_back : List ℕ → Bool → Channel → List (List ℕ × Channel) → List (List ℕ × Channel)
put_back c stays ch channels = if stays then insert_entry (slice_cmp nat_cmp) channels c ch else channels

-- the owner after a step on a channel
abbrev pub after : List ℕ → Bool → Bench → OwnerAt → OwnerAt
after c stays b s = record { desk = b.desk; channels = put_back c stays b.channel (others c s.channels) }
