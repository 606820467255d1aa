-- What a look does: its events, its answer, and the owner and its slots after it.
use Rattle.std.specs.Prelude.{ℕ, ◌+◌, true, List, [], ◌∷◌, ◌++◌, Option, None, Some}
use Rattle.std.specs.Option.{option_map}
use Rattle.nc_types.specs.Id.{Id}
use Rattle.nc_types.specs.Message.{Message}
use Rattle.nc_journal.specs.declared.event.Event.{Event}
use Rattle.nc_journal.specs.declared.event.Event.TheVariants.{Looked, Granted}
use Rattle.nc_journal.specs.declared.alert.AlertLine.TheVariants.{LookAnswer}
use Rattle.nc_buffer.specs.declared.entry.Entry.{Entry}
use Rattle.nc_buffer.specs.Buffer.{first_past, with_grant}
use Rattle.nc_buffer.specs.Laws.{entry_past}
use Rattle.nc_slots.specs.declared.slot.Slot.{Slot}
use Rattle.nc_owner.specs.declared.desk.Desk.{Desk}
use Rattle.nc_owner.specs.Ascending.{with_new_number}
use Rattle.nc_owner.specs.State.{OwnerAt, Bench, entries_of, with_entries, bench_of, after}
use Rattle.nc_owner.specs.AlertLines.{OutLine}
use Rattle.nc_owner.specs.Leave.{touch_events, touched, spend_events, without_spent}
use Rattle.nc_owner.specs.Publish.{granted_slot, one_hold}

-- the first entry past the id, on a bench that was touched and from which spent entries left
abbrev pub found_on : Id → Bench → Option Entry
found_on id b = entry_past id (entries_of b.channel)

-- with one grant more of the entry at a place, if there is one
abbrev pub counted_at : Option ℕ → List Entry → List Entry
counted_at None es = es
counted_at (Some place) es = with_grant place es

abbrev pub id_of : Entry → Id
id_of e = e.id

abbrev pub looked_event : ℕ → ℕ → List ℕ → Id → Option Entry → Desk → Event
looked_event from number c id entry d = Looked d.me d.looks from number c id d.floor (option_map id_of entry)

abbrev pub found_events : ℕ → Option Entry → Desk → List Event
found_events from None d = []
found_events from (Some e) d = Granted d.me d.grants e.slot from ∷ []

abbrev pub found_line : ℕ → ℕ → Option Entry → Desk → OutLine
found_line from number None d = record { to = from; line = LookAnswer number d.looks d.floor None None None }
found_line from number (Some e) d = record { to = from; line = LookAnswer number d.looks d.floor (Some e.id) (Some d.grants) (Some e.slot) }

-- a look draws a number; a message that is found is granted, and where there is none the worker is marked
abbrev pub found_desk : Option Entry → Desk → Desk
found_desk None d = record d { looks = d.looks + 1 }
found_desk (Some e) d = record d { looks = d.looks + 1; grants = d.grants + 1 }

abbrev pub found_row : ℕ → Option Entry → List (Slot Message) → List (Slot Message)
found_row from None row = row
found_row from (Some e) row = granted_slot e.slot row from

abbrev pub found_holds : ℕ → Option Entry → List ℕ → List ℕ
found_holds from None counts = counts
found_holds from (Some e) counts = one_hold e.slot counts from

abbrev pub found_marks : ℕ → Option Entry → List ℕ → List ℕ
found_marks from None marks = with_new_number marks from
found_marks from (Some e) marks = marks

abbrev pub answered_events : ℕ → ℕ → List ℕ → Id → Bench → List Event
answered_events from number c id b = looked_event from number c id (found_on id b) b.desk ∷ found_events from (found_on id b) b.desk

abbrev pub answered : ℕ → Id → Bench → Bench
answered from id b = record {
  desk = found_desk (found_on id b) b.desk;
  row = found_row from (found_on id b) b.row;
  channel = record (with_entries (counted_at (first_past id (entries_of b.channel)) (entries_of b.channel)) b.channel)
      { marks = found_marks from (found_on id b) b.channel.marks };
}

-- the whole step
abbrev pub look_ready : List ℕ → List (Slot Message) → OwnerAt → Bench
look_ready c row s = without_spent (touched (bench_of c row s))

abbrev pub look_events : ℕ → ℕ → List ℕ → Id → List (Slot Message) → OwnerAt → List Event
look_events from number c id row s =
    touch_events c (bench_of c row s) ++ spend_events c (touched (bench_of c row s)) ++ answered_events from number c id (look_ready c row s)

abbrev pub look_alerts : ℕ → ℕ → List ℕ → Id → List (Slot Message) → OwnerAt → List OutLine
look_alerts from number c id row s = found_line from number (found_on id (look_ready c row s)) (look_ready c row s).desk ∷ []

abbrev pub look_bench : ℕ → List ℕ → Id → List (Slot Message) → OwnerAt → Bench
look_bench from c id row s = answered from id (look_ready c row s)

abbrev pub look_after : ℕ → List ℕ → Id → List (Slot Message) → OwnerAt → OwnerAt
look_after from c id row s = after c true (look_bench from c id row s) s

abbrev pub look_row : ℕ → List ℕ → Id → List (Slot Message) → OwnerAt → List (Slot Message)
look_row from c id row s = (look_bench from c id row s).row

abbrev pub look_holds : ℕ → List ℕ → Id → List (Slot Message) → OwnerAt → List ℕ → List ℕ
look_holds from c id row s counts = found_holds from (found_on id (look_ready c row s)) counts
