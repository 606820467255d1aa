-- What each kind of step on the word of a slot tells.
use Rattle.std.specs.Prelude.{◌≡◌, ℕ, ◌+◌, ◌*◌, ◌-◌, ◌/◌, ◌<◌, ◌≤◌, nat_lt, Some, None}
use Rattle.atomic_table.specs.Table.{Step, Me}
use Rattle.atomic_table.specs.Seated.{TableId}
use Rattle.nc_slots.specs.Slot.{filled, granted, retired, polled, most_holds}
use Rattle.nc_slot_rule.specs.Views.{Bare, bit_of, seen, slot_in, with_slot}
use Rattle.nc_slot_rule.specs.declared.view.Seen.{Seen}

-- how many holds of a slot its word shows
abbrev pub holds_in : Bare → ℕ → ℕ
holds_in slot word = (word - bit_of slot) / 2

module _ {S : Type 0} where
  -- the word was 0, and the slot is filled
  abbrev pub puts : Step S → Me S Seen → ℕ → Me S Seen → Type 0
  puts step me found after = (found ≡ 0) × (after ≡ (with_slot me.0 step.word (filled tt), me.1))

  -- the slot has one grant more, which the owner has not split off yet
  abbrev pub grants : Step S → Me S Seen → ℕ → Me S Seen → Type 0
  grants step me found after =
      after ≡ (seen me.0.per me.0.first (with_slot me.0 step.word (granted (slot_in me.0 step.word))).row (Some step.word) me.0.hold, me.1)

  -- the hold lives no longer
  abbrev pub releases : Step S → Me S Seen → ℕ → Me S Seen → Type 0
  releases step me found after = (2 ≤ found) × (after ≡ (seen me.0.per me.0.first me.0.row me.0.granting None, me.1))

  -- the slot is buffered no longer
  abbrev pub unbuffers : Step S → Me S Seen → ℕ → Me S Seen → Type 0
  unbuffers step me found after = after ≡ (with_slot me.0 step.word (retired (slot_in me.0 step.word)), me.1)

  -- the slot is polled, and the word shows no more holds than it can have
  abbrev pub polls : Step S → Me S Seen → ℕ → Me S Seen → Type 0
  polls step me found after =
      (after ≡ (with_slot me.0 step.word (polled (nat_lt 0 (holds_in (slot_in me.0 step.word) found)) (slot_in me.0 step.word)), me.1))
      × (found ≡ bit_of (slot_in me.0 step.word) + 2 * holds_in (slot_in me.0 step.word) found)
      × (holds_in (slot_in me.0 step.word) found ≤ most_holds (slot_in me.0 step.word))

-- a seat at these words, of which this one is there
abbrev pub IsAt : TableId → TableId → ℕ → Type 0
IsAt words seat word = (seat ≡ words) × (word < words.words)
