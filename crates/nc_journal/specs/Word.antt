-- The words for what was asked, how and why, as they stand in a line.
use Rattle.std.specs.Prelude.{ℕ, List, codes}
use Rattle.nc_journal.specs.declared.word.Act.{Act}
use Rattle.nc_journal.specs.declared.word.Act.TheVariants as acts
use Rattle.nc_journal.specs.declared.word.ModeLine.{ModeLine}
use Rattle.nc_journal.specs.declared.word.ModeLine.TheVariants as modes
use Rattle.nc_journal.specs.declared.word.LeftCause.{LeftCause}
use Rattle.nc_journal.specs.declared.word.LeftCause.TheVariants as lefts
use Rattle.nc_journal.specs.declared.word.RemovedCause.{RemovedCause}
use Rattle.nc_journal.specs.declared.word.RemovedCause.TheVariants as removals
use Rattle.nc_journal.specs.declared.word.EndedCause.{EndedCause}
use Rattle.nc_journal.specs.declared.word.EndedCause.TheVariants as endings
use Rattle.nc_journal.specs.declared.word.ShutCause.{ShutCause}
use Rattle.nc_journal.specs.declared.word.ShutCause.TheVariants as shuts
use Rattle.nc_journal.specs.declared.word.AlertKind.{AlertKind}
use Rattle.nc_journal.specs.declared.word.AlertKind.TheVariants as kinds

-- what a request asks for
abbrev pub act_word : Act → List ℕ
act_word acts.Publish = codes "publish"
act_word acts.Info = codes "info"
act_word acts.Delete = codes "delete"
act_word acts.LongPoll = codes "longpoll"
act_word acts.Socket = codes "socket"
act_word acts.Refuse = codes "refuse"
act_word acts.Bad = codes "bad"

-- how a subscriber is served
abbrev pub mode_word : ModeLine → List ℕ
mode_word modes.Direct = codes "direct"
mode_word modes.LongPoll = codes "longpoll"
mode_word modes.Socket = codes "socket"
mode_word modes.Meta = codes "meta"

-- why a message leaves its buffer
abbrev pub left_word : LeftCause → List ℕ
left_word lefts.Length = codes "length"
left_word lefts.Expired = codes "expired"
left_word lefts.Deleted = codes "deleted"
left_word lefts.Spent = codes "spent"

-- why a channel is removed
abbrev pub removed_word : RemovedCause → List ℕ
removed_word removals.Deleted = codes "deleted"
removed_word removals.Reaped = codes "reaped"

-- why a subscriber ends
abbrev pub ended_word : EndedCause → List ℕ
ended_word endings.Answered = codes "answered"
ended_word endings.Timeout = codes "timeout"
ended_word endings.Deleted = codes "deleted"
ended_word endings.Peer = codes "peer"
ended_word endings.Closed = codes "closed"
ended_word endings.Frame = codes "frame"

-- why a connection is shut
abbrev pub shut_word : ShutCause → List ℕ
shut_word shuts.Asked = codes "asked"
shut_word shuts.Refused = codes "refused"
shut_word shuts.Peer = codes "peer"
shut_word shuts.Closed = codes "closed"
shut_word shuts.Deleted = codes "deleted"
shut_word shuts.Timeout = codes "timeout"
shut_word shuts.Frame = codes "frame"

-- the kind of an alert
abbrev pub kind_word : AlertKind → List ℕ
kind_word kinds.Publish = codes "publish"
kind_word kinds.PubAnswer = codes "pubanswer"
kind_word kinds.Look = codes "look"
kind_word kinds.LookAnswer = codes "lookanswer"
kind_word kinds.Notice = codes "notice"
kind_word kinds.Edge = codes "edge"
kind_word kinds.EdgeAnswer = codes "edgeanswer"
kind_word kinds.Join = codes "join"
kind_word kinds.Part = codes "part"
kind_word kinds.Delete = codes "delete"
kind_word kinds.DelAnswer = codes "delanswer"
kind_word kinds.Gone = codes "gone"
kind_word kinds.Info = codes "info"
kind_word kinds.InfoAnswer = codes "infoanswer"
