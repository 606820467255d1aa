-- Deciding and sending: what a spool does once one of its places was answered.
use Rattle.std.specs.Prelude.{ℕ, ◌+◌, false, List, [], ◌∷◌, Some, if◌then◌else◌, map, fold, nat_lt}
use Rattle.nc_types.specs.Cursor.{moved}
use Rattle.nc_spool_state.specs.declared.place.Place.{Place}
use Rattle.nc_spool_state.specs.declared.place.Place.TheVariants.{Asked, Nothing, Found}
use Rattle.nc_spool_state.specs.declared.spool.Reader.{Reader}
use Rattle.nc_spool_state.specs.declared.choice.Find.{Find}
use Rattle.nc_spool_state.specs.declared.choice.Choice.{Choice}
use Rattle.nc_spool_state.specs.declared.choice.Choice.TheVariants.{Wait, Fence, Send}
use Rattle.nc_spool_state.specs.Key.{KeyAt, name_at, id_at}
use Rattle.nc_spool_state.specs.Place.{look_number}
use Rattle.nc_spool_state.specs.Spool.{SpoolAt}
use Rattle.nc_spool_state.specs.Choice.{is_below, choice}
use Rattle.nc_spool.specs.declared.fact.Sending.{Sending}
use Rattle.nc_spool.specs.declared.fact.Fact.TheVariants.{Sent}
use Rattle.nc_spool.specs.declared.board.Board.{Board}
use Rattle.nc_spool.specs.declared.decide.Delivery.{Delivery}
use Rattle.nc_spool.specs.Board.{told, looked, shelved, entered, ended}

-- a place with nothing whose floor is below the time of a fence is asked, and the earlier answer is kept beside it
abbrev pub fenced : ℕ → ℕ → Place → Place
fenced time next (Asked number earlier) = Asked number earlier
fenced time next (Nothing quiet) = if nat_lt quiet.floor time then Asked next (Some quiet) else Nothing quiet
fenced time next (Found q id owner g) = Found q id owner g

-- the key of the subscribers once a message was sent
abbrev pub moved_key : Find → KeyAt → KeyAt
moved_key find key = record key { cursor = moved key.cursor find.place find.id }

-- a message on its way to the subscribers of a spool
abbrev pub delivery : Find → SpoolAt → Delivery
delivery find s = record {
  key = moved_key find s.key;
  place = find.place;
  chan = name_at s.key find.place;
  id = find.id;
  looks = map look_number s.places;
  owner = find.owner;
  g = find.g;
}

-- what one of them is sent
abbrev pub sending : Delivery → Reader → Sending
sending d r = record { k = r.k; place = d.place; chan = d.chan; id = d.id; cursor = d.key.cursor; looks = d.looks; owner = d.owner; g = d.g }

-- such a place makes a look with the fence
abbrev pub fence_look : ℕ → KeyAt → ℕ → Place → Board → Board
fence_look time key j place b = if is_below time place then looked (name_at key j) (id_at key j) time b else b

-- the looks of all such places, from a place on
abbrev pub fence_looks : ℕ → KeyAt → ℕ → List Place → Board → Board
fence_looks time key j [] b = b
fence_looks time key j (p ∷ places) b = fence_looks time key (j + 1) places (fence_look time key j p b)

-- the places after them
abbrev pub fenced_places : ℕ → KeyAt → ℕ → List Place → Board → List Place
fenced_places time key j [] b = []
fenced_places time key j (p ∷ places) b = fenced time b.next p ∷ fenced_places time key (j + 1) places (fence_look time key j p b)

-- what becomes of a subscriber once it was sent a message: it is ended, or enters the spool of the moved cursor
abbrev pub moved_on : Delivery → Reader → Board → Board
moved_on d r b = if r.once then ended r.k false d.key.list b else entered d.key r b

-- a message is sent to a subscriber
abbrev pub sent_one : Delivery → Board → Reader → Board
sent_one d b r = moved_on d r (told (Sent (sending d r)) b)

-- a message is sent to each subscriber of a spool, in ascending order; the spool is gone
abbrev pub sent : Find → SpoolAt → Board → Board
sent find s b = fold (sent_one (delivery find s)) b s.readers

-- a spool after the looks behind a fence
abbrev pub fenced_spool : ℕ → SpoolAt → Board → SpoolAt
fenced_spool time s b = record s { places = fenced_places time s.key 0 s.places b }

-- a spool that was taken from the shelf waits, looks behind a fence, or sends
abbrev pub decided_by : Choice → SpoolAt → Board → Board
decided_by Wait s b = shelved s b
decided_by (Fence time) s b = shelved (fenced_spool time s b) (fence_looks time s.key 0 s.places b)
decided_by (Send find) s b = sent find s b

-- it does so by its places
abbrev pub decided : SpoolAt → Board → Board
decided s b = decided_by (choice s.places) s b
