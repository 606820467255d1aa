-- The rules of entering and of sending, in their own words.
use Rattle.std.specs.Prelude.{◌≡◌, true, false, List, [], ◌∷◌, ◌++◌, Some, map}
use Rattle.nc_types.specs.Cursor.{moved}
use Rattle.nc_spool_state.specs.declared.choice.Find.{Find}
use Rattle.nc_spool_state.specs.declared.spool.Reader.{Reader}
use Rattle.nc_spool_state.specs.Key.{KeyAt, name_at}
use Rattle.nc_spool_state.specs.Place.{look_number}
use Rattle.nc_spool_state.specs.Spool.{SpoolAt, with_reader}
use Rattle.nc_spool_state.specs.Shelf.{spool_of, others, with_spool}
use Rattle.nc_spool.specs.declared.fact.Sending.{Sending}
use Rattle.nc_spool.specs.declared.fact.Fact.{Fact}
use Rattle.nc_spool.specs.declared.fact.Fact.TheVariants.{Out, Started, Sent, Ended}
use Rattle.nc_spool.specs.declared.board.Board.{Board}
use Rattle.nc_spool.specs.Board.{told, ended, entered}
use Rattle.nc_spool.specs.Decide.{delivery, sending, sent_one, sent}

-- the messages among some facts
abbrev pub sends_of : List Fact → List Sending
sends_of [] = []
sends_of (Out asking ∷ facts) = sends_of facts
sends_of (Started k cursor ∷ facts) = sends_of facts
sends_of (Sent s ∷ facts) = s ∷ sends_of facts
sends_of (Ended k deleted ∷ facts) = sends_of facts

-- a subscriber that enters where its spool stands asks nothing and draws no number; it stands among the others there
pub record EntersQuietly (key : KeyAt) (r : Reader) (s : SpoolAt) (b : Board) : Type 0 where
  pub facts : (entered key r b).facts ≡ b.facts
  pub next : (entered key r b).next ≡ b.next
  pub shelf : (entered key r b).shelf ≡ with_spool (with_reader r s) (others key b.shelf)

-- what one subscriber of a spool is sent: the message of the place, with the cursor moved by its id, and the number of the look
-- that each place rests on
pub record IsSending (find : Find) (s : SpoolAt) (r : Reader) (sent : Sending) : Type 0 where
  pub to : sent.k ≡ r.k
  pub place : sent.place ≡ find.place
  pub chan : sent.chan ≡ name_at s.key find.place
  pub id : sent.id ≡ find.id
  pub cursor : sent.cursor ≡ moved s.key.cursor find.place find.id
  pub looks : sent.looks ≡ map look_number s.places
  pub owner : sent.owner ≡ find.owner
  pub grant : sent.g ≡ find.g

-- how a spool sends
pub record SendingRule : Type 0 where
  -- each of its subscribers is sent the message once, in their order
  pub order : (find : Find) (s : SpoolAt) (b : Board) → sends_of (sent find s b).facts ≡ sends_of b.facts ++ map (sending (delivery find s)) s.readers
  -- what each is sent
  pub each : (find : Find) (s : SpoolAt) (r : Reader) → IsSending find s r (sending (delivery find s) r)
  -- a direct or long-poll subscriber ends by it, and parts from each channel, before the next one is sent the message
  pub once : (find : Find) (s : SpoolAt) (r : Reader) (b : Board) → r.once ≡ true
      → sent_one (delivery find s) b r ≡ ended r.k false s.key.list (told (Sent (sending (delivery find s) r)) b)
  -- another one enters the spool of the moved cursor before that
  pub stays : (find : Find) (s : SpoolAt) (r : Reader) (b : Board) → r.once ≡ false
      → sent_one (delivery find s) b r ≡ entered (record s.key { cursor = moved s.key.cursor find.place find.id }) r
      (told (Sent (sending (delivery find s) r)) b)

-- where its spool stands, an entering subscriber makes no look
abbrev pub EnteringRule : Type 0
EnteringRule = (key : KeyAt) (r : Reader) (s : SpoolAt) (b : Board) → spool_of key b.shelf ≡ Some s → EntersQuietly key r s b
