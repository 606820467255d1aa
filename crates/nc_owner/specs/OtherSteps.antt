-- What the steps other than a publish and a look do: a join, a part, a question for information, a sweep, and polls between steps.
use Rattle.std.specs.Prelude.{ℕ, true, List, [], ◌∷◌, ◌++◌, None, Some, if◌then◌else◌, map}
use Rattle.nc_types.specs.Message.{Message}
use Rattle.nc_journal.specs.declared.event.Event.{Event}
use Rattle.nc_journal.specs.declared.event.Event.TheVariants.{Joined, Parted}
use Rattle.nc_journal.specs.declared.alert.AlertLine.TheVariants.{InfoAnswer}
use Rattle.nc_slots.specs.declared.slot.Slot.{Slot}
use Rattle.nc_owner.specs.declared.channel.Channel.{Channel}
use Rattle.nc_owner.specs.declared.poll.PollAnswer.{PollAnswer}
use Rattle.nc_owner.specs.declared.member.Member.{Member}
use Rattle.nc_owner.specs.State.{OwnerAt, Bench, bench_of, exists, after}
use Rattle.nc_owner.specs.AlertLines.{OutLine}
use Rattle.nc_owner.specs.Leave.{touch_events, touched}
use Rattle.nc_owner.specs.Members.{has_member, with_member, without_member}
use Rattle.nc_owner.specs.Poll.{freed_events, polled_all, polled_desk}
use Rattle.nc_owner.specs.Publish.{info_of}

-- the channel is touched; one that doesn't exist has nothing that could leave
abbrev pub touched_of : List ℕ → List (Slot Message) → OwnerAt → Bench
touched_of c row s = touched (bench_of c row s)

abbrev pub touch_events_of : List ℕ → List (Slot Message) → OwnerAt → List Event
touch_events_of c row s = touch_events c (bench_of c row s)

abbrev pub touched_row : List ℕ → List (Slot Message) → OwnerAt → List (Slot Message)
touched_row c row s = (touched_of c row s).row

-- join
abbrev pub joined : Member → Bench → Bench
joined m b = record b { channel = record b.channel { members = with_member m b.channel.members } }

abbrev pub join_events : Member → List ℕ → List (Slot Message) → OwnerAt → List Event
join_events m c row s = touch_events_of c row s ++ Joined s.desk.me c m.from m.k ∷ []

abbrev pub join_after : Member → List ℕ → List (Slot Message) → OwnerAt → OwnerAt
join_after m c row s = after c true (joined m (touched_of c row s)) s

-- part
abbrev pub parted : Member → Bench → Bench
parted m b = record b { channel = record b.channel { members = without_member m b.channel.members } }

abbrev pub parted_events : ℕ → Member → List ℕ → Channel → List Event
parted_events w m c ch = if has_member m ch.members then Parted w c m.from m.k ∷ [] else []

abbrev pub part_events : Member → List ℕ → List (Slot Message) → OwnerAt → List Event
part_events m c row s = touch_events_of c row s ++ parted_events s.desk.me m c (bench_of c row s).channel

abbrev pub part_after : Member → List ℕ → List (Slot Message) → OwnerAt → OwnerAt
part_after m c row s = after c (exists c s) (parted m (touched_of c row s)) s

-- information
abbrev pub info_line : ℕ → ℕ → List ℕ → List (Slot Message) → OwnerAt → OutLine
info_line from r c row s =
    record { to = from; line = if exists c s then InfoAnswer r 200 (Some (info_of (touched_of c row s).channel)) else InfoAnswer r 404 None }

abbrev pub info_alerts : ℕ → ℕ → List ℕ → List (Slot Message) → OwnerAt → List OutLine
info_alerts from r c row s = info_line from r c row s ∷ []

-- information and a sweep touch the channel, if it exists
abbrev pub touch_after : List ℕ → List (Slot Message) → OwnerAt → OwnerAt
touch_after c row s = after c (exists c s) (touched_of c row s) s

-- all retired slots are polled
abbrev pub polled_events : List PollAnswer → OwnerAt → List Event
polled_events answers s = freed_events s.desk.me answers

abbrev pub polled_after : List PollAnswer → OwnerAt → OwnerAt
polled_after answers s = record s { desk = polled_desk answers s.desk }

abbrev pub polled_row : List PollAnswer → List (Slot Message) → List (Slot Message)
polled_row answers row = polled_all answers row

-- the clock is set
abbrev pub with_clock : ℕ → OwnerAt → OwnerAt
with_clock now s = record s { desk = record s.desk { clock = now } }

-- the names of the channels, in ascending order
abbrev pub names_of : OwnerAt → List (List ℕ)
names_of s = map (λ entry. entry.0) s.channels
