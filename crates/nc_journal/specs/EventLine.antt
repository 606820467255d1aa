-- The line of each event: its kind and its fields in their order, each behind one blank.
use Rattle.std.specs.Prelude.{ℕ, List, ◌++◌, codes, Some, None}
use Rattle.std.specs.Fmt.{decimal}
use Rattle.nc_types.specs.Id.{Id}
use Rattle.nc_types.specs.Text.{quoted}
use Rattle.nc_journal.specs.Word.{act_word, mode_word, left_word, removed_word, ended_word, shut_word, kind_word}
use Rattle.nc_journal_field.specs.Field.{truth_text, optional, list_text, numbers_text, subs_text, start_text, info_text, full_text}
use Rattle.nc_types.specs.Written.{id_text, cursor_text}
use Rattle.nc_journal.specs.declared.event.Event.{Event}
use Rattle.nc_journal.specs.declared.event.Event.TheVariants.{Clock, Opened, Got, Asked, Answered, Subscribed, Started, Joined, Parted, Raised, Stored, Left, Looked, Edged, Granted, Released, Freed, Removed, Sent, Ended, Replied, Wrote, Shut, Made, Took, Pending, Quiet}
use Rattle.nc_journal.specs.declared.alert.AlertLine.{AlertLine}
use Rattle.nc_journal.specs.declared.alert.AlertLine.TheVariants as alerts

-- the kind of an alert and its fields
abbrev pub alert_text : AlertLine → List ℕ
alert_text (alerts.Publish r c len timeout ct body) =
    codes "publish r=" ++ decimal r ++ codes " c=" ++ quoted c ++ codes " len=" ++ decimal len
    ++ codes " timeout=" ++ decimal timeout ++ codes " ct=" ++ optional quoted ct
    ++ codes " body=" ++ quoted body
alert_text (alerts.PubAnswer r status info full) =
    codes "pubanswer r=" ++ decimal r ++ codes " status=" ++ decimal status
    ++ codes " info=" ++ optional info_text info ++ codes " full=" ++ optional full_text full
alert_text (alerts.Look number c after fence) =
    codes "look no=" ++ decimal number ++ codes " c=" ++ quoted c ++ codes " after=" ++ id_text after
    ++ codes " fence=" ++ decimal fence
alert_text (alerts.LookAnswer number q floor found g slot) =
    codes "lookanswer no=" ++ decimal number ++ codes " q=" ++ decimal q ++ codes " floor=" ++ decimal floor
    ++ codes " found=" ++ optional id_text found ++ codes " g=" ++ optional decimal g
    ++ codes " slot=" ++ optional decimal slot
alert_text (alerts.Notice c id g slot) =
    codes "notice c=" ++ quoted c ++ codes " id=" ++ id_text id ++ codes " g=" ++ decimal g
    ++ codes " slot=" ++ decimal slot
alert_text (alerts.Edge number k c fence) =
    codes "edge no=" ++ decimal number ++ codes " k=" ++ decimal k ++ codes " c=" ++ quoted c
    ++ codes " fence=" ++ decimal fence
alert_text (alerts.EdgeAnswer number q floor last) =
    codes "edgeanswer no=" ++ decimal number ++ codes " q=" ++ decimal q ++ codes " floor=" ++ decimal floor
    ++ codes " last=" ++ id_text last
alert_text (alerts.Join c k) = codes "join c=" ++ quoted c ++ codes " k=" ++ decimal k
alert_text (alerts.Part c k) = codes "part c=" ++ quoted c ++ codes " k=" ++ decimal k
alert_text (alerts.Delete r c) = codes "delete r=" ++ decimal r ++ codes " c=" ++ quoted c
alert_text (alerts.DelAnswer r status info) =
    codes "delanswer r=" ++ decimal r ++ codes " status=" ++ decimal status
    ++ codes " info=" ++ optional info_text info
alert_text (alerts.Gone c subs) = codes "gone c=" ++ quoted c ++ codes " subs=" ++ subs_text subs
alert_text (alerts.Info r c) = codes "info r=" ++ decimal r ++ codes " c=" ++ quoted c
alert_text (alerts.InfoAnswer r status info) =
    codes "infoanswer r=" ++ decimal r ++ codes " status=" ++ decimal status
    ++ codes " info=" ++ optional info_text info

-- the line of a stored message up to the moment at which it expires
abbrev pub stored_front : ℕ → List ℕ → Id → ℕ → ℕ → ℕ → List ℕ
stored_front w c id slot len exp =
    codes "stored w=" ++ decimal w ++ codes " c=" ++ quoted c ++ codes " id=" ++ id_text id
    ++ codes " slot=" ++ decimal slot ++ codes " len=" ++ decimal len ++ codes " exp=" ++ decimal exp

-- the line of an event, without its end
abbrev pub line : Event → List ℕ
line (Clock w t) = codes "clock w=" ++ decimal w ++ codes " t=" ++ decimal t
line (Opened w conn) = codes "opened w=" ++ decimal w ++ codes " conn=" ++ decimal conn
line (Got w conn bytes) =
    codes "got w=" ++ decimal w ++ codes " conn=" ++ decimal conn ++ codes " bytes=" ++ quoted bytes
line (Asked w r conn act list status rule) =
    codes "asked w=" ++ decimal w ++ codes " r=" ++ decimal r ++ codes " conn=" ++ optional decimal conn
    ++ codes " act=" ++ act_word act ++ codes " list=" ++ optional list_text list
    ++ codes " status=" ++ decimal status ++ codes " rule=" ++ decimal rule
line (Answered w r conn status info json close) =
    codes "answered w=" ++ decimal w ++ codes " r=" ++ decimal r ++ codes " conn=" ++ optional decimal conn
    ++ codes " status=" ++ decimal status ++ codes " info=" ++ optional info_text info
    ++ codes " json=" ++ truth_text json ++ codes " close=" ++ truth_text close
line (Subscribed w k conn list mode start timeout close) =
    codes "subscribed w=" ++ decimal w ++ codes " k=" ++ decimal k ++ codes " conn=" ++ optional decimal conn
    ++ codes " list=" ++ list_text list ++ codes " mode=" ++ mode_word mode
    ++ codes " start=" ++ start_text start ++ codes " timeout=" ++ decimal timeout
    ++ codes " close=" ++ truth_text close
line (Started w k cur) =
    codes "started w=" ++ decimal w ++ codes " k=" ++ decimal k ++ codes " cur=" ++ cursor_text None cur
line (Joined w c from k) =
    codes "joined w=" ++ decimal w ++ codes " c=" ++ quoted c ++ codes " from=" ++ decimal from
    ++ codes " k=" ++ decimal k
line (Parted w c from k) =
    codes "parted w=" ++ decimal w ++ codes " c=" ++ quoted c ++ codes " from=" ++ decimal from
    ++ codes " k=" ++ decimal k
line (Raised w t) = codes "raised w=" ++ decimal w ++ codes " t=" ++ decimal t
line (Stored w c id slot len exp kept members from r ct body) =
    stored_front w c id slot len exp ++ codes " kept=" ++ truth_text kept ++ codes " members=" ++ decimal members
    ++ codes " from=" ++ decimal from ++ codes " r=" ++ decimal r ++ codes " ct=" ++ optional quoted ct
    ++ codes " body=" ++ quoted body
line (Left w c id slot cause) =
    codes "left w=" ++ decimal w ++ codes " c=" ++ quoted c ++ codes " id=" ++ id_text id
    ++ codes " slot=" ++ decimal slot ++ codes " cause=" ++ left_word cause
line (Looked w q from number c after floor found) =
    codes "looked w=" ++ decimal w ++ codes " q=" ++ decimal q ++ codes " from=" ++ decimal from
    ++ codes " no=" ++ decimal number ++ codes " c=" ++ quoted c ++ codes " after=" ++ id_text after
    ++ codes " floor=" ++ decimal floor ++ codes " found=" ++ optional id_text found
line (Edged w q from number k c floor last) =
    codes "edged w=" ++ decimal w ++ codes " q=" ++ decimal q ++ codes " from=" ++ decimal from
    ++ codes " no=" ++ decimal number ++ codes " k=" ++ decimal k ++ codes " c=" ++ quoted c
    ++ codes " floor=" ++ decimal floor ++ codes " last=" ++ id_text last
line (Granted w g slot to) =
    codes "granted w=" ++ decimal w ++ codes " g=" ++ decimal g ++ codes " slot=" ++ decimal slot
    ++ codes " to=" ++ decimal to
line (Released w owner g slot) =
    codes "released w=" ++ decimal w ++ codes " owner=" ++ decimal owner ++ codes " g=" ++ decimal g
    ++ codes " slot=" ++ decimal slot
line (Freed w slot) = codes "freed w=" ++ decimal w ++ codes " slot=" ++ decimal slot
line (Removed w c last cause) =
    codes "removed w=" ++ decimal w ++ codes " c=" ++ quoted c ++ codes " last=" ++ id_text last
    ++ codes " cause=" ++ removed_word cause
line (Sent w k i c id cur looks) =
    codes "sent w=" ++ decimal w ++ codes " k=" ++ decimal k ++ codes " i=" ++ decimal i
    ++ codes " c=" ++ quoted c ++ codes " id=" ++ id_text id ++ codes " cur=" ++ cursor_text (Some i) cur
    ++ codes " looks=" ++ numbers_text looks
line (Ended w k cause) =
    codes "ended w=" ++ decimal w ++ codes " k=" ++ decimal k ++ codes " cause=" ++ ended_word cause
line (Replied w conn bytes) =
    codes "replied w=" ++ decimal w ++ codes " conn=" ++ decimal conn ++ codes " bytes=" ++ quoted bytes
line (Wrote w conn bytes) =
    codes "wrote w=" ++ decimal w ++ codes " conn=" ++ decimal conn ++ codes " bytes=" ++ quoted bytes
line (Shut w conn cause) =
    codes "shut w=" ++ decimal w ++ codes " conn=" ++ decimal conn ++ codes " cause=" ++ shut_word cause
line (Made w to n a) =
    codes "made w=" ++ decimal w ++ codes " to=" ++ decimal to ++ codes " n=" ++ decimal n
    ++ codes " a=" ++ alert_text a
line (Took w from n a) =
    codes "took w=" ++ decimal w ++ codes " from=" ++ decimal from ++ codes " n=" ++ decimal n
    ++ codes " a=" ++ kind_word a
line (Pending n) = codes "pending n=" ++ decimal n
line Quiet = codes "quiet"
