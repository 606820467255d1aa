-- What follows from the definitions, for all lists of entries.
use Rattle.std.specs.Prelude.{◌≡◌, ◌≢◌, ℕ, zero, suc, ◌+◌, ◌<◌, Bool, not, List, ◌∷◌, length, filter, find, Option, None, Some, IfSome, MatchOption}
use Rattle.std.specs.List.{AllByRecursion, slice_get}
use Rattle.nc_types.specs.Id.{Id, is_past}
use Rattle.nc_buffer.specs.declared.entry.Entry.{Entry}
use Rattle.nc_buffer.specs.Buffer.{IsRising, is_spent, first_past, without_first}

-- the entries that don't pass a test
abbrev pub others : (Entry → Bool) → List Entry → List Entry
others test es = filter (λ e. not (test e)) es

-- what it is to take out the oldest entry that passes: those that pass are taken in order, the others stay,
-- and where none passes nothing leaves
pub record TakesOne (test : Entry → Bool) (es : List Entry) : Type 0 where
  pub in_order : (e : Entry) → find test es ≡ Some e → filter test es ≡ e ∷ filter test (without_first test es)
  pub shorter : (e : Entry) → find test es ≡ Some e → length es ≡ length (without_first test es) + 1
  pub others_stay : others test (without_first test es) ≡ others test es
  pub none_leaves : find test es ≡ None → without_first test es ≡ es
  pub all_others : find test es ≡ None → others test es ≡ es

-- the entries once the oldest that passes was taken out so many times
abbrev pub taken_out : ℕ → (Entry → Bool) → List Entry → List Entry
taken_out zero test es = es
taken_out (suc n) test es = taken_out n test (without_first test es)

-- taking out until none passes leaves those that don't pass, in their order
abbrev pub LeavesOthers : ℕ → (Entry → Bool) → List Entry → Type 0
LeavesOthers n test es = find test (taken_out n test es) ≡ None → taken_out n test es ≡ others test es

-- where ids rise, the id of an entry that is taken out isn't kept
abbrev pub TakenIsGone : (Entry → Bool) → List Entry → Type 0
TakenIsGone test es = IsRising es → (e : Entry) → find test es ≡ Some e → AllByRecursion (λ kept. kept.id ≢ e.id) (without_first test es)

-- where no entry is spent, each can be granted once more
abbrev pub CanGrant : List Entry → Type 0
CanGrant es = find is_spent es ≡ None → (place : ℕ) → IfSome (slice_get es place) (λ e. e.grants < 4294967295)

-- the oldest entry past an id
abbrev pub entry_past : Id → List Entry → Option Entry
entry_past after es = find (λ e. is_past e.id after) es

-- at the first place past an id stands the oldest entry past it
abbrev pub LookFinds : Id → List Entry → Type 0
LookFinds after es = MatchOption (first_past after es) (entry_past after es ≡ None) (λ place. slice_get es place ≡ entry_past after es)
