-- The events that there are: what each field of an event keeps.
use Rattle.std.specs.Prelude.{ℕ, ◌<◌, ◌≤◌, List, length}
use Rattle.std.specs.List.{AllByRecursion}
use Rattle.nc_types.specs.Id.{Id, IsTime, IsTag}
use Rattle.nc_types.specs.Cursor.{CursorAt, AreTags}
use Rattle.nc_types.specs.Channel.{AreDistinct}
use Rattle.nc_types.specs.declared.info.Info.{Info as InfoOf}
use Rattle.nc_types.specs.declared.info.FullLine.{FullLine}
use Rattle.nc_types.specs.declared.start.Start.{Start}
use Rattle.nc_types.specs.declared.start.Start.TheVariants.{Oldest, Newest, Given}
use Rattle.nc_grammar.specs.Quoted.{AreBytes}
use Rattle.nc_grammar.specs.Maybe.{OrNone}
use Rattle.nc_journal.specs.declared.event.Event.{Event}
use Rattle.nc_journal.specs.declared.event.Event.TheVariants.{Clock, Opened, Got, Asked, Answered, Subscribed, Started, Joined, Parted, Raised, Stored, Left, Looked, Edged, Granted, Released, Freed, Removed, Sent, Ended, Replied, Wrote, Shut, Made, Took, Pending, Quiet}
use Rattle.nc_journal.specs.declared.alert.AlertLine.{AlertLine}
use Rattle.nc_journal.specs.declared.alert.AlertLine.TheVariants as alerts

-- a number of 64 bits
abbrev pub IsU64 : ℕ → Type 0
IsU64 n = n ≤ 18446744073709551615

-- each is a number of 64 bits
abbrev pub AreNumbers : List ℕ → Type 0
AreNumbers numbers = AllByRecursion IsU64 numbers

-- a time and a tag of their types
pub record IsId (id : Id) : Type 0 where
  pub time : IsTime id.time
  pub tag : IsTag id.tag

-- a time, and one tag or more
pub record IsCursor (cursor : CursorAt) : Type 0 where
  pub time : IsTime cursor.time
  pub some : 0 < length cursor.tags
  pub tags : AreTags cursor.tags

-- a given cursor is one
abbrev pub IsCursorIfGiven : Start → Type 0
IsCursorIfGiven Oldest = Unit {0}
IsCursorIfGiven Newest = Unit {0}
IsCursorIfGiven (Given cursor) = IsCursor cursor

-- a list has a name, and none twice
pub record IsList (names : List (List ℕ)) : Type 0 where
  pub some : 0 < length names
  pub distinct : AreDistinct names
  pub bytes : AllByRecursion AreBytes names

-- a number of 32 bits, a number of 64 bits, and an id, if any
pub record IsInfo (info : InfoOf) : Type 0 where
  pub messages : info.messages ≤ 4294967295
  pub members : IsU64 info.members
  pub last : OrNone IsId info.last

-- two numbers of 64 bits
pub record IsFull (full : FullLine) : Type 0 where
  pub buffered : IsU64 full.buffered
  pub held : IsU64 full.held

-- each field of an alert is one of its type
abbrev pub AlertFits : AlertLine → Type 0
AlertFits (alerts.Publish r c len timeout ct body) = IsU64 r × AreBytes c × IsU64 len × IsU64 timeout × OrNone AreBytes ct × AreBytes body
AlertFits (alerts.PubAnswer r status info full) = IsU64 r × IsU64 status × OrNone IsInfo info × OrNone IsFull full
AlertFits (alerts.Look number c after fence) = IsU64 number × AreBytes c × IsId after × IsU64 fence
AlertFits (alerts.LookAnswer number q floor found g slot) = IsU64 number × IsU64 q × IsU64 floor × OrNone IsId found × OrNone IsU64 g × OrNone IsU64 slot
AlertFits (alerts.Notice c id g slot) = AreBytes c × IsId id × IsU64 g × IsU64 slot
AlertFits (alerts.Edge number k c fence) = IsU64 number × IsU64 k × AreBytes c × IsU64 fence
AlertFits (alerts.EdgeAnswer number q floor last) = IsU64 number × IsU64 q × IsU64 floor × IsId last
AlertFits (alerts.Join c k) = AreBytes c × IsU64 k
AlertFits (alerts.Part c k) = AreBytes c × IsU64 k
AlertFits (alerts.Delete r c) = IsU64 r × AreBytes c
AlertFits (alerts.DelAnswer r status info) = IsU64 r × IsU64 status × OrNone IsInfo info
AlertFits (alerts.Gone c subs) = AreBytes c × AreNumbers subs
AlertFits (alerts.Info r c) = IsU64 r × AreBytes c
AlertFits (alerts.InfoAnswer r status info) = IsU64 r × IsU64 status × OrNone IsInfo info

-- each number is one of 64 bits, each time, tag, name and list is one of its type, and the place of a sent is below the number of tags
abbrev pub EventFits : Event → Type 0
EventFits (Clock w t) = IsU64 w × IsU64 t
EventFits (Opened w conn) = IsU64 w × IsU64 conn
EventFits (Got w conn bytes) = IsU64 w × IsU64 conn × AreBytes bytes
EventFits (Asked w r conn act list status rule) = IsU64 w × IsU64 r × OrNone IsU64 conn × OrNone IsList list × IsU64 status × IsU64 rule
EventFits (Answered w r conn status info json close) = IsU64 w × IsU64 r × OrNone IsU64 conn × IsU64 status × OrNone IsInfo info
EventFits (Subscribed w k conn list mode start timeout close) = IsU64 w × IsU64 k × OrNone IsU64 conn × IsList list × IsCursorIfGiven start × IsU64 timeout
EventFits (Started w k cur) = IsU64 w × IsU64 k × IsCursor cur
EventFits (Joined w c from k) = IsU64 w × AreBytes c × IsU64 from × IsU64 k
EventFits (Parted w c from k) = IsU64 w × AreBytes c × IsU64 from × IsU64 k
EventFits (Raised w t) = IsU64 w × IsU64 t
EventFits (Stored w c id slot len exp kept members from r ct body) = IsU64 w × AreBytes c × IsId id × IsU64 slot × IsU64 len × IsU64 exp × IsU64 members
    × IsU64 from × IsU64 r × OrNone AreBytes ct × AreBytes body
EventFits (Left w c id slot cause) = IsU64 w × AreBytes c × IsId id × IsU64 slot
EventFits (Looked w q from number c after floor found) = IsU64 w × IsU64 q × IsU64 from × IsU64 number × AreBytes c × IsId after × IsU64 floor
    × OrNone IsId found
EventFits (Edged w q from number k c floor last) = IsU64 w × IsU64 q × IsU64 from × IsU64 number × IsU64 k × AreBytes c × IsU64 floor × IsId last
EventFits (Granted w g slot to) = IsU64 w × IsU64 g × IsU64 slot × IsU64 to
EventFits (Released w owner g slot) = IsU64 w × IsU64 owner × IsU64 g × IsU64 slot
EventFits (Freed w slot) = IsU64 w × IsU64 slot
EventFits (Removed w c last cause) = IsU64 w × AreBytes c × IsId last
EventFits (Sent w k i c id cur looks) = IsU64 w × IsU64 k × IsU64 i × AreBytes c × IsId id × IsCursor cur × (i < length cur.tags) × AreNumbers looks
EventFits (Ended w k cause) = IsU64 w × IsU64 k
EventFits (Replied w conn bytes) = IsU64 w × IsU64 conn × AreBytes bytes
EventFits (Wrote w conn bytes) = IsU64 w × IsU64 conn × AreBytes bytes
EventFits (Shut w conn cause) = IsU64 w × IsU64 conn
EventFits (Made w to n a) = IsU64 w × IsU64 to × IsU64 n × AlertFits a
EventFits (Took w from n a) = IsU64 w × IsU64 from × IsU64 n
EventFits (Pending n) = IsU64 n
EventFits Quiet = Unit {0}
