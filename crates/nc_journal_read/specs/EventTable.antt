-- The events as a table: the word, the fields in their order, and what they make.
use Rattle.std.specs.Prelude.{ℕ, List, [], ◌∷◌, ◌++◌, codes}
use Rattle.nc_grammar.specs.Reading.{Read, map_read}
use Rattle.nc_grammar.specs.Rows.{Kit, Field, Row, Values, fields_at, line_at}
use Rattle.nc_journal.specs.Word.{act_word, mode_word, left_word, removed_word, ended_word, shut_word, kind_word}
use Rattle.nc_journal.specs.EventLine.{alert_text}
use Rattle.nc_journal_read.specs.Fit.{AlertFits}
use Rattle.nc_journal_read.specs.Shape.{Shape, number, truth, text, id, cursor, start, list, looks, optional_number, optional_text, optional_id, optional_info, optional_list, ValueOf, FitsOf, value_text, value_at}
use Rattle.nc_journal_read.specs.WordTable.{act_at, mode_at, left_at, removed_at, ended_at, shut_at, kind_at}
use Rattle.nc_journal_read.specs.AlertTable.{alert_at}
use Rattle.nc_journal_read.specs.PlaceReader.{Sending, IsSending, sending_text, sending_at}
use Rattle.nc_journal.specs.declared.alert.AlertLine.{AlertLine}
use Rattle.nc_journal.specs.declared.event.Event.{Event}
use Rattle.nc_journal.specs.declared.event.Event.TheVariants.{Clock, Opened, Got, Asked, Answered, Subscribed, Started, Joined, Parted, Raised, Stored, Left, Looked, Edged, Granted, Released, Freed, Removed, Sent, Ended, Replied, Wrote, Shut, Made, Took, Pending, Quiet}
use Rattle.nc_journal_read.specs.declared.stored_reading.StoredFront.{StoredFront}
use Rattle.nc_journal_read.specs.declared.stored_reading.StoredContent.{StoredContent}
use Rattle.nc_journal.specs.declared.word.Act.{Act}
use Rattle.nc_journal.specs.declared.word.ModeLine.{ModeLine}
use Rattle.nc_journal.specs.declared.word.LeftCause.{LeftCause}
use Rattle.nc_journal.specs.declared.word.RemovedCause.{RemovedCause}
use Rattle.nc_journal.specs.declared.word.EndedCause.{EndedCause}
use Rattle.nc_journal.specs.declared.word.ShutCause.{ShutCause}
use Rattle.nc_journal.specs.declared.word.AlertKind.{AlertKind}

-- what a field of an event has: a value of a shape, a word, an alert, or a place and what goes with it
pub data Part : Type 0 where
  plain : Shape → Part
  act : Part
  mode : Part
  left_cause : Part
  removed_cause : Part
  ended_cause : Part
  shut_cause : Part
  kind : Part
  alert : Part
  place : Part

-- its values
abbrev pub PartValue : Part → Type 0
PartValue (plain s) = ValueOf s
PartValue act = Act
PartValue mode = ModeLine
PartValue left_cause = LeftCause
PartValue removed_cause = RemovedCause
PartValue ended_cause = EndedCause
PartValue shut_cause = ShutCause
PartValue kind = AlertKind
PartValue alert = AlertLine
PartValue place = Sending

-- those that an event can keep
abbrev pub PartFits : (p : Part) → PartValue p → Type 0
PartFits (plain s) x = FitsOf s x
PartFits act x = Unit {0}
PartFits mode x = Unit {0}
PartFits left_cause x = Unit {0}
PartFits removed_cause x = Unit {0}
PartFits ended_cause x = Unit {0}
PartFits shut_cause x = Unit {0}
PartFits kind x = Unit {0}
PartFits alert x = AlertFits x
PartFits place x = IsSending x

-- their texts
abbrev pub part_text : (p : Part) → PartValue p → List ℕ
part_text (plain s) x = value_text s x
part_text act x = act_word x
part_text mode x = mode_word x
part_text left_cause x = left_word x
part_text removed_cause x = removed_word x
part_text ended_cause x = ended_word x
part_text shut_cause x = shut_word x
part_text kind x = kind_word x
part_text alert x = alert_text x
part_text place x = sending_text x

-- reading such a text
abbrev pub part_at : (p : Part) → List ℕ → Read (PartValue p)
part_at (plain s) t = value_at s t
part_at act t = act_at t
part_at mode t = mode_at t
part_at left_cause t = left_at t
part_at removed_cause t = removed_at t
part_at ended_cause t = ended_at t
part_at shut_cause t = shut_at t
part_at kind t = kind_at t
part_at alert t = alert_at t
part_at place t = sending_at t

-- the parts with their texts and readers
abbrev pub parts : Kit
parts = record { Shape = Part; Value = PartValue; Fits = PartFits; text = part_text; read = part_at }

-- a field of this name with a value of a shape
abbrev pub field : List ℕ → Shape → Field parts
field name shape = record { name = name; shape = plain shape }

-- a field of this name
abbrev pub part : List ℕ → Part → Field parts
part name shape = record { name = name; shape = shape }

-- `clock` and its fields
abbrev pub clock_row : Row parts Event
clock_row = record {
  word = codes "clock";
  fields = field (codes "w") number ∷ field (codes "t") number ∷ [];
  make = λ x. Clock x.0 x.1.0;
}

-- `opened` and its fields
abbrev pub opened_row : Row parts Event
opened_row = record {
  word = codes "opened";
  fields = field (codes "w") number ∷ field (codes "conn") number ∷ [];
  make = λ x. Opened x.0 x.1.0;
}

-- `got` and its fields
abbrev pub got_row : Row parts Event
got_row = record {
  word = codes "got";
  fields = field (codes "w") number ∷ field (codes "conn") number ∷ field (codes "bytes") text ∷ [];
  make = λ x. Got x.0 x.1.0 x.1.1.0;
}

-- `asked` and its fields
abbrev pub asked_row : Row parts Event
asked_row = record {
  word = codes "asked";
  fields = field (codes "w") number ∷ field (codes "r") number ∷ field (codes "conn") optional_number ∷ part (codes "act") act
      ∷ field (codes "list") optional_list ∷ field (codes "status") number ∷ field (codes "rule") number ∷ [];
  make = λ x. Asked x.0 x.1.0 x.1.1.0 x.1.1.1.0 x.1.1.1.1.0 x.1.1.1.1.1.0 x.1.1.1.1.1.1.0;
}

-- `answered` and its fields
abbrev pub answered_row : Row parts Event
answered_row = record {
  word = codes "answered";
  fields = field (codes "w") number ∷ field (codes "r") number ∷ field (codes "conn") optional_number ∷ field (codes "status") number
      ∷ field (codes "info") optional_info ∷ field (codes "json") truth ∷ field (codes "close") truth ∷ [];
  make = λ x. Answered x.0 x.1.0 x.1.1.0 x.1.1.1.0 x.1.1.1.1.0 x.1.1.1.1.1.0 x.1.1.1.1.1.1.0;
}

-- `subscribed` and its fields
abbrev pub subscribed_row : Row parts Event
subscribed_row = record {
  word = codes "subscribed";
  fields = field (codes "w") number ∷ field (codes "k") number ∷ field (codes "conn") optional_number ∷ field (codes "list") list
      ∷ part (codes "mode") mode ∷ field (codes "start") start ∷ field (codes "timeout") number ∷ field (codes "close") truth ∷ [];
  make = λ x. Subscribed x.0 x.1.0 x.1.1.0 x.1.1.1.0 x.1.1.1.1.0 x.1.1.1.1.1.0 x.1.1.1.1.1.1.0 x.1.1.1.1.1.1.1.0;
}

-- `started` and its fields
abbrev pub started_row : Row parts Event
started_row = record {
  word = codes "started";
  fields = field (codes "w") number ∷ field (codes "k") number ∷ field (codes "cur") cursor ∷ [];
  make = λ x. Started x.0 x.1.0 x.1.1.0;
}

-- `joined` and its fields
abbrev pub joined_row : Row parts Event
joined_row = record {
  word = codes "joined";
  fields = field (codes "w") number ∷ field (codes "c") text ∷ field (codes "from") number ∷ field (codes "k") number ∷ [];
  make = λ x. Joined x.0 x.1.0 x.1.1.0 x.1.1.1.0;
}

-- `parted` and its fields
abbrev pub parted_row : Row parts Event
parted_row = record {
  word = codes "parted";
  fields = field (codes "w") number ∷ field (codes "c") text ∷ field (codes "from") number ∷ field (codes "k") number ∷ [];
  make = λ x. Parted x.0 x.1.0 x.1.1.0 x.1.1.1.0;
}

-- `raised` and its fields
abbrev pub raised_row : Row parts Event
raised_row = record {
  word = codes "raised";
  fields = field (codes "w") number ∷ field (codes "t") number ∷ [];
  make = λ x. Raised x.0 x.1.0;
}

-- the fields of `stored` that tell where a message lies and until when
abbrev pub front_fields : List (Field parts)
front_fields = field (codes "w") number ∷ field (codes "c") text ∷ field (codes "id") id ∷ field (codes "slot") number
    ∷ field (codes "len") number ∷ field (codes "exp") number ∷ []

-- the fields of `stored` that tell what a message is
abbrev pub content_fields : List (Field parts)
content_fields = field (codes "kept") truth ∷ field (codes "members") number ∷ field (codes "from") number ∷ field (codes "r") number
    ∷ field (codes "ct") optional_text ∷ field (codes "body") text ∷ []

-- their values
abbrev pub front_of : Values parts front_fields → StoredFront
front_of x = record { w = x.0; c = x.1.0; id = x.1.1.0; slot = x.1.1.1.0; len = x.1.1.1.1.0; exp = x.1.1.1.1.1.0 }

-- their values
abbrev pub content_of : Values parts content_fields → StoredContent
content_of x = record { kept = x.0; members = x.1.0; from = x.1.1.0; r = x.1.1.1.0; ct = x.1.1.1.1.0; body = x.1.1.1.1.1.0 }

-- reads them
abbrev pub front_at : List ℕ → Read StoredFront
front_at t = map_read front_of (fields_at parts front_fields t)

-- reads them
abbrev pub content_at : List ℕ → Read StoredContent
content_at t = map_read content_of (fields_at parts content_fields t)

-- the event of both
abbrev pub stored_of : StoredFront → StoredContent → Event
stored_of p m = Stored p.w p.c p.id p.slot p.len p.exp m.kept m.members m.from m.r m.ct m.body

-- `stored` and its fields
abbrev pub stored_row : Row parts Event
stored_row = record {
  word = codes "stored";
  fields = front_fields ++ content_fields;
  make = λ x. Stored x.0 x.1.0 x.1.1.0 x.1.1.1.0 x.1.1.1.1.0 x.1.1.1.1.1.0 x.1.1.1.1.1.1.0
      x.1.1.1.1.1.1.1.0 x.1.1.1.1.1.1.1.1.0 x.1.1.1.1.1.1.1.1.1.0 x.1.1.1.1.1.1.1.1.1.1.0 x.1.1.1.1.1.1.1.1.1.1.1.0;
}

-- `left` and its fields
abbrev pub left_row : Row parts Event
left_row = record {
  word = codes "left";
  fields = field (codes "w") number ∷ field (codes "c") text ∷ field (codes "id") id ∷ field (codes "slot") number
      ∷ part (codes "cause") left_cause ∷ [];
  make = λ x. Left x.0 x.1.0 x.1.1.0 x.1.1.1.0 x.1.1.1.1.0;
}

-- `looked` and its fields
abbrev pub looked_row : Row parts Event
looked_row = record {
  word = codes "looked";
  fields = field (codes "w") number ∷ field (codes "q") number ∷ field (codes "from") number ∷ field (codes "no") number
      ∷ field (codes "c") text ∷ field (codes "after") id ∷ field (codes "floor") number ∷ field (codes "found") optional_id ∷ [];
  make = λ x. Looked x.0 x.1.0 x.1.1.0 x.1.1.1.0 x.1.1.1.1.0 x.1.1.1.1.1.0 x.1.1.1.1.1.1.0 x.1.1.1.1.1.1.1.0;
}

-- `edged` and its fields
abbrev pub edged_row : Row parts Event
edged_row = record {
  word = codes "edged";
  fields = field (codes "w") number ∷ field (codes "q") number ∷ field (codes "from") number ∷ field (codes "no") number
      ∷ field (codes "k") number ∷ field (codes "c") text ∷ field (codes "floor") number ∷ field (codes "last") id ∷ [];
  make = λ x. Edged x.0 x.1.0 x.1.1.0 x.1.1.1.0 x.1.1.1.1.0 x.1.1.1.1.1.0 x.1.1.1.1.1.1.0 x.1.1.1.1.1.1.1.0;
}

-- `granted` and its fields
abbrev pub granted_row : Row parts Event
granted_row = record {
  word = codes "granted";
  fields = field (codes "w") number ∷ field (codes "g") number ∷ field (codes "slot") number ∷ field (codes "to") number ∷ [];
  make = λ x. Granted x.0 x.1.0 x.1.1.0 x.1.1.1.0;
}

-- `released` and its fields
abbrev pub released_row : Row parts Event
released_row = record {
  word = codes "released";
  fields = field (codes "w") number ∷ field (codes "owner") number ∷ field (codes "g") number ∷ field (codes "slot") number ∷ [];
  make = λ x. Released x.0 x.1.0 x.1.1.0 x.1.1.1.0;
}

-- `freed` and its fields
abbrev pub freed_row : Row parts Event
freed_row = record {
  word = codes "freed";
  fields = field (codes "w") number ∷ field (codes "slot") number ∷ [];
  make = λ x. Freed x.0 x.1.0;
}

-- `removed` and its fields
abbrev pub removed_row : Row parts Event
removed_row = record {
  word = codes "removed";
  fields = field (codes "w") number ∷ field (codes "c") text ∷ field (codes "last") id ∷ part (codes "cause") removed_cause ∷ [];
  make = λ x. Removed x.0 x.1.0 x.1.1.0 x.1.1.1.0;
}

-- `sent` and its fields
abbrev pub sent_row : Row parts Event
sent_row = record {
  word = codes "sent";
  fields = field (codes "w") number ∷ field (codes "k") number ∷ part (codes "i") place ∷ field (codes "looks") looks ∷ [];
  make = λ x. Sent x.0 x.1.0 x.1.1.0.0 x.1.1.0.1.0 x.1.1.0.1.1.0 x.1.1.0.1.1.1 x.1.1.1.0;
}

-- `ended` and its fields
abbrev pub ended_row : Row parts Event
ended_row = record {
  word = codes "ended";
  fields = field (codes "w") number ∷ field (codes "k") number ∷ part (codes "cause") ended_cause ∷ [];
  make = λ x. Ended x.0 x.1.0 x.1.1.0;
}

-- `replied` and its fields
abbrev pub replied_row : Row parts Event
replied_row = record {
  word = codes "replied";
  fields = field (codes "w") number ∷ field (codes "conn") number ∷ field (codes "bytes") text ∷ [];
  make = λ x. Replied x.0 x.1.0 x.1.1.0;
}

-- `wrote` and its fields
abbrev pub wrote_row : Row parts Event
wrote_row = record {
  word = codes "wrote";
  fields = field (codes "w") number ∷ field (codes "conn") number ∷ field (codes "bytes") text ∷ [];
  make = λ x. Wrote x.0 x.1.0 x.1.1.0;
}

-- `shut` and its fields
abbrev pub shut_row : Row parts Event
shut_row = record {
  word = codes "shut";
  fields = field (codes "w") number ∷ field (codes "conn") number ∷ part (codes "cause") shut_cause ∷ [];
  make = λ x. Shut x.0 x.1.0 x.1.1.0;
}

-- `made` and its fields
abbrev pub made_row : Row parts Event
made_row = record {
  word = codes "made";
  fields = field (codes "w") number ∷ field (codes "to") number ∷ field (codes "n") number ∷ part (codes "a") alert ∷ [];
  make = λ x. Made x.0 x.1.0 x.1.1.0 x.1.1.1.0;
}

-- `took` and its fields
abbrev pub took_row : Row parts Event
took_row = record {
  word = codes "took";
  fields = field (codes "w") number ∷ field (codes "from") number ∷ field (codes "n") number ∷ part (codes "a") kind ∷ [];
  make = λ x. Took x.0 x.1.0 x.1.1.0 x.1.1.1.0;
}

-- `pending` and its fields
abbrev pub pending_row : Row parts Event
pending_row = record {
  word = codes "pending";
  fields = field (codes "n") number ∷ [];
  make = λ x. Pending x.0;
}

-- `quiet` and its fields
abbrev pub quiet_row : Row parts Event
quiet_row = record {
  word = codes "quiet";
  fields = [];
  make = λ x. Quiet;
}

-- the events behind the first
abbrev pub event_rows : List (Row parts Event)
event_rows = opened_row ∷ got_row ∷ asked_row ∷ answered_row ∷ subscribed_row ∷ started_row ∷ joined_row ∷ parted_row ∷ raised_row
    ∷ stored_row ∷ left_row ∷ looked_row ∷ edged_row ∷ granted_row ∷ released_row ∷ freed_row ∷ removed_row ∷ sent_row ∷ ended_row
    ∷ replied_row ∷ wrote_row ∷ shut_row ∷ made_row ∷ took_row ∷ pending_row ∷ quiet_row ∷ []

-- reads an event: its word, and its fields
abbrev pub event_at : List ℕ → Read Event
event_at t = line_at parts clock_row event_rows t
