-- Polls of slots, and what they free.
use Rattle.std.specs.Prelude.{◌≡◌, ◌<◌, ℕ, Bool, true, not, List, [], ◌∷◌, ◌==◌, map, filter, fold, slice_set, slice_index}
use Rattle.std.specs.List.{count_by}
use Rattle.nc_types.specs.Message.{Message}
use Rattle.nc_journal.specs.declared.event.Event.{Event}
use Rattle.nc_journal.specs.declared.event.Event.TheVariants.{Freed}
use Rattle.nc_slots.specs.declared.slot.Slot.{Slot}
use Rattle.nc_slots.specs.Slot.{slot_at, polled, most_holds}
use Rattle.nc_owner.specs.declared.desk.Desk.{Desk}
use Rattle.nc_owner.specs.declared.poll.PollAnswer.{PollAnswer}
use Rattle.nc_owner.specs.Ascending.{without_number}

-- slots are polled, one after the other
abbrev pub polled_slot : List (Slot Message) → PollAnswer → List (Slot Message)
polled_slot row a = slice_set row a.slot (polled a.held (slot_at row a.slot))

abbrev pub polled_all : List PollAnswer → List (Slot Message) → List (Slot Message)
polled_all answers row = fold polled_slot row answers

abbrev pub slot_of : PollAnswer → ℕ
slot_of a = a.slot

abbrev pub is_held : PollAnswer → Bool
is_held a = a.held

abbrev pub is_free : PollAnswer → Bool
is_free a = not a.held

-- what a poll finds where the numbers of holds are these
abbrev pub told_answer : List ℕ → ℕ → PollAnswer
told_answer counts slot = record { slot = slot; held = not (slice_index counts slot == 0) }

-- answers of polls of some slots, which agree with the numbers of holds where these are told
pub record PollsOf (exact : Bool) (counts slots : List ℕ) (answers : List PollAnswer) : Type 0 where
  pub each : map slot_of answers ≡ slots
  pub told : exact ≡ true → answers ≡ map (told_answer counts) slots

-- a poll shows a slot held only where it can be held: it was granted, and no poll has found it clear since
abbrev pub AnswerFits : List (Slot Message) → PollAnswer → Type 0
AnswerFits row a = a.held ≡ true → 0 < most_holds (slot_at row a.slot)

-- so does each of some polls, one after the other
abbrev pub AnswersFit : List (Slot Message) → List PollAnswer → Type 0
AnswersFit row [] = Unit {0}
AnswersFit row (a ∷ answers) = AnswerFits row a × AnswersFit (polled_slot row a) answers

-- how many of the polled slots are held
abbrev pub held_count : List PollAnswer → ℕ
held_count answers = count_by is_held answers

abbrev pub held_slots : List PollAnswer → List ℕ
held_slots answers = map slot_of (filter is_held answers)

abbrev pub free_slots : List PollAnswer → List ℕ
free_slots answers = map slot_of (filter is_free answers)

-- of polled retired slots those that nobody holds become unused
abbrev pub freed_event : ℕ → ℕ → Event
freed_event w slot = Freed w slot

abbrev pub freed_events : ℕ → List PollAnswer → List Event
freed_events w answers = map (freed_event w) (free_slots answers)

-- all retired slots were polled: those that are held stay
abbrev pub polled_desk : List PollAnswer → Desk → Desk
polled_desk answers d = record d { retired = held_slots answers }

-- some retired slots were polled: those that are free go
abbrev pub freed_desk : List PollAnswer → Desk → Desk
freed_desk answers d = record d { retired = fold without_number d.retired (free_slots answers) }
