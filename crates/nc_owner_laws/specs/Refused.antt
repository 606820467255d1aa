-- The rules in their own words refuse what they should: each of these is a bad case.
use Rattle.std.specs.Prelude.{◌≡◌, ◌≢◌, ℕ, false, true, List, [], ◌∷◌}
use Rattle.nc_types.specs.Message.{Message}
use Rattle.nc_types.specs.declared.info.FullLine.{FullLine}
use Rattle.nc_journal.specs.Holding.{Unused, slot_stage, TakesLowestUnused}
use Rattle.nc_journal.specs.History.{own}
use Rattle.nc_journal.specs.declared.event.Event.{Event}
use Rattle.nc_journal.specs.declared.event.Event.TheVariants.{Freed}
use Rattle.nc_slots.specs.declared.slot.Slot.{Slot}
use Rattle.nc_slots.specs.Slot.{slot_at, most_holds}
use Rattle.nc_owner.specs.Ascending.{has_number}
use Rattle.nc_owner.specs.Poll.{AnswersFit}
use Rattle.nc_owner.specs.Rules.{with_status, with_usage, FullExactly, IsAnswered, FreesOnlyRetired}

-- 507 with other numbers than those of the slots in use
abbrev pub RefusesOtherNumbers : Type 0
RefusesOtherNumbers = (slots : ℕ) (usage other : FullLine) → other ≢ usage → FullExactly slots usage (with_usage other) → ⊥

-- an answer of any other status; 507 always tells numbers. No answer at all
abbrev pub RefusesOtherStatus : Type 0
RefusesOtherStatus = (status : ℕ) → status ≢ 201 → status ≢ 202 → status ≢ 503 → IsAnswered (with_status status) → ⊥

abbrev pub RefusesNoAnswer : Type 0
RefusesNoAnswer = IsAnswered [] → ⊥

-- a slot is freed that wasn't retired
abbrev pub RefusesUnretired : Type 0
RefusesUnretired = (retired : List ℕ) (w slot : ℕ) → has_number slot retired ≡ false → FreesOnlyRetired retired (Freed w slot ∷ []) → ⊥

-- a poll shows a slot held that can't be held
abbrev pub RefusesUnheldAsHeld : Type 0
RefusesUnheldAsHeld = (row : List (Slot Message)) (slot : ℕ) → most_holds (slot_at row slot) ≡ 0
    → AnswersFit row (record { slot = slot; held = true } ∷ []) → ⊥

-- a message is stored in a slot that was used
abbrev pub RefusesUsedSlot : Type 0
RefusesUsedSlot = (slots w slot : ℕ) (h : List Event) → slot_stage slot (own w h) ≢ Unused → TakesLowestUnused slots w slot h → ⊥
