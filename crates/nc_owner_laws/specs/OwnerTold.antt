-- What its own history tells of an owner, read event by event. The newest event stands first.
use Rattle.std.specs.Prelude.{◌≡◌, ℕ, ◌+◌, ◌-◌, true, false, not, max, List, [], ◌∷◌, Option, None, Some, if◌then◌else◌, ◌==◌, map, filter, unwrap_or, bytes_eq}
use Rattle.std.specs.Option.{option_map}
use Rattle.nc_types.specs.Id.{Id, id_eq}
use Rattle.nc_journal.specs.Stamp.{greater_id}
use Rattle.nc_journal.specs.declared.event.Event.{Event}
use Rattle.nc_journal.specs.declared.event.Event.TheVariants.{Clock, Raised, Stored, Left, Looked, Edged, Joined, Parted, Granted, Freed, Removed}
use Rattle.nc_buffer.specs.declared.entry.Entry.{Entry}
use Rattle.nc_owner.specs.declared.channel.Channel.{Channel}
use Rattle.nc_owner.specs.declared.desk.Desk.{Desk}
use Rattle.nc_owner.specs.declared.member.Member.{Member}
use Rattle.nc_owner.specs.Ascending.{with_number, without_number, with_new_number}
use Rattle.nc_owner.specs.Members.{with_member, without_member}
use Rattle.nc_owner.specs.Publish.{kept_channel}
use Rattle.nc_owner.specs.State.{OwnerAt, entries_of, with_entries, found}

-- ---- what an owner keeps beside its channels

abbrev pub desk_with : Desk → Event → Desk
desk_with d (Clock w t) = record d { clock = t }
desk_with d (Raised w t) = record d { floor = max d.floor t }
desk_with d (Stored w c id slot len exp true members from r ct body) = record d { floor = max d.floor id.time; buffered = d.buffered + 1 }
desk_with d (Stored w c id slot len exp false members from r ct body) = record d { floor = max d.floor id.time; retired = with_number d.retired slot }
desk_with d (Left w c id slot cause) = record d { retired = with_number d.retired slot; buffered = d.buffered - 1 }
desk_with d (Freed w slot) = record d { retired = without_number d.retired slot }
desk_with d (Looked w q from number c after floor found) = record d { looks = q + 1 }
desk_with d (Edged w q from number k c floor last) = record d { looks = q + 1 }
desk_with d (Granted w g slot to) = record d { grants = g + 1 }
desk_with d (Removed w c last cause) = record d { spent = greater_id d.spent last }
desk_with d e = d

-- ---- a channel

-- the entries without that of an id
abbrev pub without_id : List Entry → Id → List Entry
without_id es id = filter (λ e. not (id_eq e.id id)) es

-- the entry in a slot counts a grant more
abbrev pub counted : ℕ → Entry → Entry
counted slot e = if e.slot == slot then record e { grants = e.grants + 1 } else e

-- who didn't find a message is marked
abbrev pub with_look : ℕ → Option Id → Channel → Channel
with_look from None ch = record ch { marks = with_new_number ch.marks from }
with_look from (Some id) ch = ch

abbrev pub with_grants : ℕ → Channel → Channel
with_grants slot ch = with_entries (map (counted slot) (entries_of ch)) ch

-- a channel that is made: its last id is the spent id
abbrev pub made : Id → Channel
made spent = record { backlog = record { last = spent; entries = [] }; latest = None; members = []; marks = [] }

abbrev pub left_channel : Id → Channel → Channel
left_channel id ch = with_entries (without_id (entries_of ch) id) ch

abbrev pub joined_channel : Member → Channel → Channel
joined_channel m ch = record ch { members = with_member m ch.members }

abbrev pub parted_channel : Member → Channel → Channel
parted_channel m ch = record ch { members = without_member m ch.members }

abbrev pub new_entry : Id → ℕ → ℕ → Entry
new_entry id slot expires = record { id = id; slot = slot; expires = expires; grants = 0 }

-- the channel of a name after an event, if it exists then
abbrev pub channel_with : List ℕ → Id → Option Channel → Event → Option Channel
channel_with c spent o (Stored w name id slot len exp kept members from r ct body) =
    if bytes_eq name c then Some (kept_channel kept (new_entry id slot exp) (unwrap_or o (made spent))) else o
channel_with c spent o (Left w name id slot cause) = if bytes_eq name c then option_map (left_channel id) o else o
channel_with c spent o (Looked w q from number name after floor past) = if bytes_eq name c then Some (with_look from past (unwrap_or o (made spent))) else o
channel_with c spent o (Joined w name from k) = if bytes_eq name c then Some (joined_channel (record { from = from; k = k }) (unwrap_or o (made spent))) else o
channel_with c spent o (Parted w name from k) = if bytes_eq name c then option_map (parted_channel (record { from = from; k = k })) o else o
channel_with c spent o (Granted w g slot to) = option_map (with_grants slot) o
channel_with c spent o (Removed w name last cause) = if bytes_eq name c then None else o
channel_with c spent o e = o

-- ---- the whole

-- a desk after a history that began with another
abbrev pub desk_of : Desk → List Event → Desk
desk_of first [] = first
desk_of first (e ∷ h) = desk_with (desk_of first h) e

abbrev pub channel_of : Desk → List ℕ → List Event → Option Channel
channel_of first c [] = None
channel_of first c (e ∷ h) = channel_with c (desk_of first h).spent (channel_of first c h) e

-- a history that began with a desk and no channel tells this owner
pub record HistoryTells (first : Desk) (h : List Event) (s : OwnerAt) : Type 0 where
  pub desk : s.desk ≡ desk_of first h
  pub channels : (c : List ℕ) → found c s ≡ channel_of first c h
