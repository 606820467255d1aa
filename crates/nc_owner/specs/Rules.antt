-- The owner's rules in their own words: what each says of a call's events, its answer, and the owner and its slots.
use Rattle.std.specs.Prelude.{◌≡◌, ◌↔◌, ◌⊎◌, ℕ, ◌+◌, ◌-◌, ◌<◌, ◌≤◌, false, true, List, [], ◌∷◌, ◌++◌, Option, None, Some, length, slice_index, ◌==◌, not, MatchOption}
use Rattle.std.specs.List.{AllByRecursion, count_by}
use Rattle.nc_types.specs.Id.{Id, is_past, last_second}
use Rattle.nc_types.specs.Message.{Message}
use Rattle.nc_types.specs.declared.info.FullLine.{FullLine}
use Rattle.nc_journal.specs.declared.event.Event.{Event}
use Rattle.nc_journal.specs.declared.event.Event.TheVariants.{Stored, Left, Freed}
use Rattle.nc_journal.specs.declared.alert.AlertLine.{AlertLine}
use Rattle.nc_journal.specs.declared.alert.AlertLine.TheVariants.{PubAnswer, LookAnswer}
use Rattle.nc_buffer.specs.declared.entry.Entry.{Entry}
use Rattle.nc_buffer.specs.Buffer.{is_expired}
use Rattle.nc_slots.specs.declared.slot.Slot.{Slot}
use Rattle.nc_slots.specs.Slot.{slot_at, is_unused}
use Rattle.nc_owner.specs.declared.order.Order.{Order}
use Rattle.nc_owner.specs.Ascending.{has_number}
use Rattle.nc_owner.specs.State.{OwnerAt, Bench, entries_of, found, opened, bench_of}
use Rattle.nc_owner.specs.AlertLines.{OutLine}
use Rattle.nc_owner.specs.Leave.{touched, without_spent}
use Rattle.nc_owner.specs.Publish.{stamp, leaving, slots_of}

-- how a publish was answered
pub record Answered : Type 0 where
  pub status : ℕ
  pub usage : Option FullLine

abbrev pub answered_by : AlertLine → List Answered → List Answered
answered_by (PubAnswer r status info full) rest = record { status = status; usage = full } ∷ rest
answered_by line rest = rest

-- the answers among some alerts
abbrev pub answers_of : List OutLine → List Answered
answers_of [] = []
answers_of (a ∷ rest) = answered_by a.line (answers_of rest)

abbrev pub with_status : ℕ → List Answered
with_status status = record { status = status; usage = None } ∷ []

abbrev pub with_usage : FullLine → List Answered
with_usage full = record { status = 507; usage = Some full } ∷ []

-- the channel of an order once it was touched
abbrev pub ready : Order → List (Slot Message) → OwnerAt → Bench
ready o row s = touched (bench_of o.chan row s)

-- the answer is 503 exactly where the stamp's time passes the greatest time
abbrev pub IsLateExactly : Order → List (Slot Message) → OwnerAt → List OutLine → Type 0
IsLateExactly o row s lines = (answers_of lines ≡ with_status 503) ↔ (last_second < (stamp (bench_of o.chan row s)).time)

-- of some slots those that have holds
abbrev pub held_among : List ℕ → List ℕ → ℕ
held_among counts slots = count_by (λ slot. not (slice_index counts slot == 0)) slots

-- how many slots are buffered and stay, and how many more are retired or leaving and have holds
abbrev pub usage_by : List ℕ → Order → Bench → FullLine
usage_by counts o b = record {
  buffered = b.desk.buffered - length (leaving o.length b);
  held = held_among counts b.desk.retired + held_among counts (slots_of (leaving o.length b));
}

-- 507 is answered exactly where both numbers together are all slots, and with no other numbers
pub record FullExactly (slots : ℕ) (usage : FullLine) (answers : List Answered) : Type 0 where
  pub exactly : (answers ≡ with_usage usage) ↔ (usage.buffered + usage.held ≡ slots)
  pub alone : (other : FullLine) → answers ≡ with_usage other → other ≡ usage

-- it is so of a publish where there is time left
abbrev pub IsFullExactly : List ℕ → Order → List (Slot Message) → OwnerAt → List OutLine → Type 0
IsFullExactly counts o row s lines = (stamp (bench_of o.chan row s)).time ≤ last_second
    → FullExactly s.desk.slots (usage_by counts o (ready o row s)) (answers_of lines)

-- a publish is answered once, by one of four statuses, and only 507 tells what is in use
abbrev pub IsAnswered : List Answered → Type 0
IsAnswered answers = (answers ≡ with_status 201) ⊎ (answers ≡ with_status 202) ⊎ (answers ≡ with_status 503)
    ⊎ ((usage : FullLine) × (answers ≡ with_usage usage))

-- a stored message has taken a slot of the row, below which none is unused
abbrev pub IsLowest : List (Slot Message) → Event → Type 0
IsLowest row (Stored w c id slot len exp kept members from r ct body) = (slot < length row) × ((j : ℕ) → j < slot → is_unused (slot_at row j) ≡ false)
IsLowest row _ = Unit {0}

abbrev pub TakesLowest : List (Slot Message) → List Event → Type 0
TakesLowest row events = AllByRecursion (IsLowest row) events

-- a freed slot has no hold
abbrev pub IsUnheld : List ℕ → Event → Type 0
IsUnheld counts (Freed w slot) = slice_index counts slot ≡ 0
IsUnheld counts _ = Unit {0}

abbrev pub FreesUnheld : List ℕ → List Event → Type 0
FreesUnheld counts events = AllByRecursion (IsUnheld counts) events

-- a freed slot was retired: it is one of these slots, or a message left it before
abbrev pub FreesOnlyRetired : List ℕ → List Event → Type 0
FreesOnlyRetired retired [] = Unit {0}
FreesOnlyRetired retired (Left w c id slot cause ∷ events) = FreesOnlyRetired (slot ∷ retired) events
FreesOnlyRetired retired (Freed w slot ∷ events) = (has_number slot retired ≡ true) × FreesOnlyRetired retired events
FreesOnlyRetired retired (_ ∷ events) = FreesOnlyRetired retired events

-- an answer of 201 comes only where the channel has a member, and 202 only where it has none
pub record TellsMembers (o : Order) (s : OwnerAt) (lines : List OutLine) : Type 0 where
  pub some : answers_of lines ≡ with_status 201 → 0 < length (opened o.chan s).members
  pub none : answers_of lines ≡ with_status 202 → length (opened o.chan s).members ≡ 0

-- no entry of the channel has expired
abbrev pub NoneExpired : ℕ → List Entry → Type 0
NoneExpired now es = AllByRecursion (λ e. is_expired now e ≡ false) es

abbrev pub IsFresh : List ℕ → OwnerAt → Type 0
IsFresh c s = MatchOption (found c s) (Unit {0}) (λ ch. NoneExpired s.desk.clock (entries_of ch))

-- no entry is past the id
abbrev pub NonePast : Id → List Entry → Type 0
NonePast id es = AllByRecursion (λ e. is_past e.id id ≡ false) es

-- an entry is past the id, and none before it is
pub record IsFirstPast (id : Id) (es : List Entry) (e : Entry) (front behind : List Entry) : Type 0 where
  pub split : es ≡ front ++ e ∷ behind
  pub none_before : NonePast id front
  pub past : is_past e.id id ≡ true

-- what is found is the id of the first entry past the given one, or none where no entry is past it
abbrev pub FindsFirst : Id → List Entry → Option Id → Type 0
FindsFirst id es None = NonePast id es
FindsFirst id es (Some first) = (e : Entry) × (front : List Entry) × (behind : List Entry) × (first ≡ e.id) × IsFirstPast id es e front behind

-- what a look's answer says was found
abbrev pub found_by : AlertLine → List (Option Id) → List (Option Id)
found_by (LookAnswer number q floor id g slot) rest = id ∷ rest
found_by line rest = rest

-- the answers to looks among some alerts
abbrev pub founds_of : List OutLine → List (Option Id)
founds_of [] = []
founds_of (a ∷ rest) = found_by a.line (founds_of rest)

-- the one answer of a look tells the first entry past the id, once spent entries have left
abbrev pub TellsFirst : Id → Bench → List OutLine → Type 0
TellsFirst id b lines = (first : Option Id) × (founds_of lines ≡ first ∷ []) × FindsFirst id (entries_of (without_spent b).channel) first
