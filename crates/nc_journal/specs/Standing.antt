-- Standing: how far each subscriber has come.
use Rattle.std.specs.Prelude.{◌≡◌, ℕ, Bool, true, false, List, [], ◌∷◌, length, if◌then◌else◌, ◌==◌, ◌||◌}
use Rattle.nc_types.specs.Channel.{AreDistinct}
use Rattle.nc_types.specs.Cursor.{CursorAt}
use Rattle.nc_types.specs.declared.start.Start.{Start}
use Rattle.nc_types.specs.declared.start.Start.TheVariants.{Given}
use Rattle.nc_journal.specs.declared.word.ModeLine.{ModeLine}
use Rattle.nc_journal.specs.declared.word.ModeLine.TheVariants.{Direct, LongPoll}
use Rattle.nc_journal.specs.declared.word.EndedCause.{EndedCause}
use Rattle.nc_journal.specs.declared.word.EndedCause.TheVariants.{Answered}
use Rattle.nc_journal.specs.History.{own, Along}
use Rattle.nc_journal.specs.declared.event.Event.{Event}
use Rattle.nc_journal.specs.declared.event.Event.TheVariants.{Subscribed, Started, Sent, Ended, Wrote, Made, Shut}

-- the stage of a subscriber, with its list of channels, whether one message ends it, and where it begins or stands
pub data Stage : Type 0 where
  Absent : Stage
  Starting : List (List ℕ) → Bool → Start → Stage
  Standing : List (List ℕ) → Bool → CursorAt → Stage
  -- it was sent its one message and hasn't ended yet
  Served : List (List ℕ) → CursorAt → Stage
  Over : Stage

-- whether one message ends a subscriber of this mode
abbrev pub is_once : ModeLine → Bool
is_once Direct = true
is_once LongPoll = true
is_once _ = false

abbrev pub started : CursorAt → Stage → Stage
started cur (Starting list once start) = Standing list once cur
started cur s = s

abbrev pub served : CursorAt → Stage → Stage
served cur (Standing list true old) = Served list cur
served cur (Standing list false old) = Standing list false cur
served cur s = s

-- the stage of subscriber k, by the local history of its worker
abbrev pub stage_of : ℕ → List Event → Stage
stage_of k [] = Absent
stage_of k (Subscribed w n conn list mode start timeout close ∷ h) = if n == k then Starting list (is_once mode) start else stage_of k h
stage_of k (Started w n cur ∷ h) = if n == k then started cur (stage_of k h) else stage_of k h
stage_of k (Sent w n i c id cur looks ∷ h) = if n == k then served cur (stage_of k h) else stage_of k h
stage_of k (Ended w n cause ∷ h) = if n == k then Over else stage_of k h
stage_of k (e ∷ h) = stage_of k h

-- whether there was ever a subscriber k
abbrev pub is_subscribed : ℕ → List Event → Bool
is_subscribed k [] = false
is_subscribed k (Subscribed w n conn list mode start timeout close ∷ h) = (n == k) || is_subscribed k h
is_subscribed k (e ∷ h) = is_subscribed k h

abbrev pub IsStarting : Stage → Type 0
IsStarting (Starting list once start) = Unit {0}
IsStarting _ = ⊥

abbrev pub IsStanding : Stage → Type 0
IsStanding (Standing list once cur) = Unit {0}
IsStanding _ = ⊥

abbrev pub IsServed : Stage → Type 0
IsServed (Served list cur) = Unit {0}
IsServed _ = ⊥

-- a subscriber that was served its one message ends as answered, and no other does
abbrev pub EndsBy : EndedCause → Stage → Type 0
EndsBy Answered (Served list cur) = Unit {0}
EndsBy Answered _ = ⊥
EndsBy cause (Starting list once start) = Unit {0}
EndsBy cause (Standing list once cur) = Unit {0}
EndsBy cause _ = ⊥

-- nobody who was served waits for its end
abbrev pub NobodyServed : List Event → Type 0
NobodyServed h = (w k : ℕ) → IsServed (stage_of k (own w h)) → ⊥

-- what an event keeps of the order of a subscriber's events
abbrev pub OrderedAt : List Event → Event → Type 0
OrderedAt h (Subscribed w k conn list mode start timeout close) = (stage_of k (own w h) ≡ Absent) × NobodyServed h
OrderedAt h (Started w k cur) = IsStarting (stage_of k (own w h)) × NobodyServed h
OrderedAt h (Sent w k i c id cur looks) = IsStanding (stage_of k (own w h))
OrderedAt h (Ended w k cause) = EndsBy cause (stage_of k (own w h))
OrderedAt h (Wrote w conn bytes) = Unit {0}
OrderedAt h (Made w to n a) = Unit {0}
OrderedAt h (Shut w conn cause) = Unit {0}
OrderedAt h _ = NobodyServed h

-- each subscriber is subscribed, started and ended at most once and in this order, is sent messages only while it stands,
-- and ends directly after its one message where one ends it
abbrev pub AreOrdered : List Event → Type 0
AreOrdered h = Along OrderedAt h

-- a given start has a tag for each channel of the list
abbrev pub StartFits : List (List ℕ) → Start → Type 0
StartFits list (Given from) = length from.tags ≡ length list
StartFits list _ = Unit {0}

-- what an event keeps of the way one subscribes: no channel is named twice, and the start fits the list
abbrev pub SubscribesAt : List Event → Event → Type 0
SubscribesAt h (Subscribed w k conn list mode start timeout close) = AreDistinct list × StartFits list start
SubscribesAt h _ = Unit {0}

-- the standing rule: subscribers are in order, subscribe as they should,
-- and at the end nobody was sent its one message without having ended
pub record IsStandingRule (h : List Event) : Type 0 where
  pub ordered : AreOrdered h
  pub subscribed : Along SubscribesAt h
  pub ended : NobodyServed h
