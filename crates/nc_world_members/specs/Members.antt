-- Members of channels: by the owner's history, by what is on its way to the owner and back, and by the spools of their worker.
use Rattle.std.specs.Prelude.{◌≡◌, ℕ, ◌+◌, ◌≤◌, Bool, true, false, not, List, [], ◌∷◌, if◌then◌else◌, fold, ◌==◌, ◌&&◌, bytes_eq}
use Rattle.std.specs.List.{list_any}
use Rattle.nc_types.specs.Channel.{owner_of}
use Rattle.nc_journal.specs.History.{own}
use Rattle.nc_journal.specs.Standing.{is_subscribed}
use Rattle.nc_journal.specs.declared.event.Event.{Event}
use Rattle.nc_journal.specs.declared.alert.AlertLine.{AlertLine}
use Rattle.nc_journal.specs.declared.alert.AlertLine.TheVariants.{Join, Part, Gone}
use Rattle.nc_owner_laws.specs.Filters.{is_member}
use Rattle.nc_spool.specs.declared.board.Board.{Board}
use Rattle.nc_spool.specs.Calls.{board_of}
use Rattle.nc_spool_laws.specs.Tally.{stands}
use Rattle.nc_spool_members.specs.Singly.{StandSingly}
use Rattle.nc_spool_members.specs.Members.{stands_with, is_named}
use Rattle.nc_history.specs.Packets.{lines_of, pending}
use Rattle.nc_worker_state.specs.Setup.{Setup}
use Rattle.nc_worker_state.specs.Owned.{member_of}
use Rattle.nc_world.specs.World.{World}

-- ---- on the way to an owner

-- whether a subscriber is a member of a channel once its owner took an alert of the subscriber's worker
abbrev pub becomes : List ℕ → ℕ → Bool → AlertLine → Bool
becomes c k is (Join d n) = if bytes_eq d c && (n == k) then true else is
becomes c k is (Part d n) = if bytes_eq d c && (n == k) then false else is
becomes c k is line = is

-- once it took some of them, the first one first
abbrev pub membership : List ℕ → ℕ → Bool → List AlertLine → Bool
membership c k is lines = fold (becomes c k) is lines

-- how many of them let the subscriber join
abbrev pub one_if : Bool → ℕ
one_if b = if b then 1 else 0

abbrev pub joining : List ℕ → ℕ → AlertLine → ℕ
joining c k (Join d n) = one_if (bytes_eq d c && (n == k))
joining c k line = 0

abbrev pub joins : List ℕ → ℕ → List AlertLine → ℕ
joins c k [] = 0
joins c k (line ∷ lines) = joining c k line + joins c k lines

-- ---- on the way back

-- an alert tells a subscriber that a channel is gone of which it was a member, and one of some alerts does
abbrev pub loses : List ℕ → ℕ → AlertLine → Bool
loses c k (Gone d subs) = bytes_eq d c && is_named k subs
loses c k line = false

abbrev pub is_lost : List ℕ → ℕ → List AlertLine → Bool
is_lost c k lines = list_any (loses c k) lines

-- ---- worlds

-- who stands and starts at a worker
abbrev pub spools_at : World → ℕ → Board
spools_at world w = board_of (world.workers w).desk.spools

-- what is on its way from a worker to the owner of a channel, and what is on its way back
abbrev pub towards : Setup → ℕ → List ℕ → List Event → List AlertLine
towards setup w c h = lines_of (pending w (owner_of setup.workers c) h)

abbrev pub back : Setup → ℕ → List ℕ → List Event → List AlertLine
back setup w c h = lines_of (pending (owner_of setup.workers c) w h)

-- whether the owner of a channel knows a worker's subscriber as a member
abbrev pub is_known : Setup → ℕ → ℕ → List ℕ → List Event → Bool
is_known setup w k c h = is_member c (member_of w k) (own (owner_of setup.workers c) h)

-- in how many ways a subscriber belongs to a channel: it is a member, it is about to join, or it is about to hear that the channel is gone
abbrev pub ways : Setup → ℕ → ℕ → List ℕ → List Event → ℕ
ways setup w k c h = one_if (is_known setup w k c h) + joins c k (towards setup w c h) + one_if (is_lost c k (back setup w c h))

-- once the owner of a channel took what is on its way from a worker, the members of this worker are those who stand or start with the channel and aren't about to hear
-- that it is gone; each subscriber belongs to a channel in one way at most, and in none before it was ever subscribed;
-- nobody stands twice, no list names a channel twice, and a number that was never subscribed stands nowhere
pub record HasMembers (setup : Setup) (h : List Event) (world : World) : Type 0 where
  pub members : (w k : ℕ) (c : List ℕ)
      → membership c k (is_known setup w k c h) (towards setup w c h) ≡ stands_with c k (spools_at world w) && not (is_lost c k (back setup w c h))
  pub once : (w k : ℕ) (c : List ℕ) → ways setup w k c h ≤ one_if (is_subscribed k (own w h))
  pub singly : (w : ℕ) → StandSingly (world.workers w).desk.spools
  pub known : (w k : ℕ) → is_subscribed k (own w h) ≡ false → stands k (spools_at world w) ≡ 0
