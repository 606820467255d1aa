-- What a local history tells of an owner event by event, and what the definitions filter from it.
use Rattle.std.specs.Prelude.{◌≡◌, ℕ, Bool, false, List, [], ◌∷◌, Option, None, Some, if◌then◌else◌, ◌==◌, ◌&&◌, ◌||◌, not, bytes_eq}
use Rattle.std.specs.Option.{option_map}
use Rattle.nc_types.specs.Id.{Id}
use Rattle.nc_journal.specs.Stamp.{clock_of, floor_of, spent_of, made_last}
use Rattle.nc_journal.specs.declared.event.Event.{Event}
use Rattle.nc_journal.specs.declared.event.Event.TheVariants.{Stored, Looked, Joined, Parted, Removed}
use Rattle.nc_owner.specs.declared.channel.Channel.{Channel}
use Rattle.nc_owner.specs.declared.desk.Desk.{Desk}
use Rattle.nc_owner.specs.declared.member.Member.{Member}
use Rattle.nc_owner.specs.Ascending.{has_number}
use Rattle.nc_owner.specs.Members.{has_member}
use Rattle.nc_owner.specs.State.{new_owner}
use Rattle.nc_owner_laws.specs.OwnerTold.{desk_of, channel_of}

-- the desk with which an owner begins
abbrev pub new_desk : ℕ → ℕ → ℕ → ℕ → Desk
new_desk me workers slots first = (new_owner me workers slots first).desk

-- the clock, the floor and the spent id of a desk are those of the history
pub record DeskFilters (d : Desk) (h : List Event) : Type 0 where
  pub clock : d.clock ≡ clock_of h
  pub floor : d.floor ≡ floor_of h
  pub spent : d.spent ≡ spent_of h

abbrev pub DeskLaw : Type 0
DeskLaw = (me workers slots first : ℕ) (h : List Event) → DeskFilters (desk_of (new_desk me workers slots first) h) h

-- the id of the last message of a channel since it was made
abbrev pub latest_of : List ℕ → List Event → Option Id
latest_of c [] = None
latest_of c (Stored w d id slot len exp kept members from r ct body ∷ h) = if bytes_eq d c then Some id else latest_of c h
latest_of c (Removed w d last cause ∷ h) = if bytes_eq d c then None else latest_of c h
latest_of c (e ∷ h) = latest_of c h

-- whether a subscriber is a member of a channel: it joined, and since then it didn't part and the channel wasn't removed
abbrev pub is_same : Member → ℕ → ℕ → Bool
is_same m from k = (m.from == from) && (m.k == k)

abbrev pub is_member : List ℕ → Member → List Event → Bool
is_member c m [] = false
is_member c m (Joined w d from k ∷ h) = (bytes_eq d c && is_same m from k) || is_member c m h
is_member c m (Parted w d from k ∷ h) = not (bytes_eq d c && is_same m from k) && is_member c m h
is_member c m (Removed w d last cause ∷ h) = not (bytes_eq d c) && is_member c m h
is_member c m (e ∷ h) = is_member c m h

-- whether a worker is marked at a channel: it looked and found nothing, and since then no message was stored and the channel wasn't removed
abbrev pub is_marked : List ℕ → ℕ → List Event → Bool
is_marked c u [] = false
is_marked c u (Looked w q from number d after floor None ∷ h) = (bytes_eq d c && (u == from)) || is_marked c u h
is_marked c u (Stored w d id slot len exp kept members from r ct body ∷ h) = not (bytes_eq d c) && is_marked c u h
is_marked c u (Removed w d last cause ∷ h) = not (bytes_eq d c) && is_marked c u h
is_marked c u (e ∷ h) = is_marked c u h

-- the parts of a channel, if it exists
abbrev pub last_in : Option Channel → Option Id
last_in o = option_map (λ ch. ch.backlog.last) o

abbrev pub latest_in : Option Channel → Option Id
latest_in None = None
latest_in (Some ch) = ch.latest

abbrev pub members_in : Option Channel → List Member
members_in None = []
members_in (Some ch) = ch.members

abbrev pub marks_in : Option Channel → List ℕ
marks_in None = []
marks_in (Some ch) = ch.marks

-- a channel's last ids, its members and its marks are those of the history
pub record ChannelFilters (c : List ℕ) (o : Option Channel) (h : List Event) : Type 0 where
  pub last : last_in o ≡ made_last c h
  pub latest : latest_in o ≡ latest_of c h
  pub members : (m : Member) → has_member m (members_in o) ≡ is_member c m h
  pub marks : (u : ℕ) → has_number u (marks_in o) ≡ is_marked c u h

abbrev pub ChannelLaw : Type 0
ChannelLaw = (me workers slots first : ℕ) (c : List ℕ) (h : List Event) → ChannelFilters c (channel_of (new_desk me workers slots first) c h) h
