-- What the rules over histories refuse.
use Rattle.std.specs.Prelude.{◌≡◌, ℕ, true, List, ◌∷◌}
use Rattle.nc_types.specs.Id.{Id}
use Rattle.nc_types.specs.Cursor.{CursorAt}
use Rattle.nc_journal.specs.History.{own}
use Rattle.nc_journal.specs.Leaving.{IsLeavingRule}
use Rattle.nc_journal.specs.Standing.{Standing, stage_of, IsStandingRule}
use Rattle.nc_journal.specs.declared.event.Event.{Event}
use Rattle.nc_journal.specs.declared.event.Event.TheVariants.{Left, Sent}
use Rattle.nc_journal.specs.declared.word.LeftCause.TheVariants.{Deleted}

-- no history ends behind the message that ends a subscriber, without its end
abbrev pub UnendedIsRefused : Type 0
UnendedIsRefused = (h : List Event) (w k i : ℕ) (c : List ℕ) (id : Id) (cur : CursorAt) (looks : List ℕ) (list : List (List ℕ)) (old : CursorAt)
    → stage_of k (own w h) ≡ Standing list true old → IsStandingRule (Sent w k i c id cur looks ∷ h) → ⊥

-- nor behind a message that leaves by a deletion, without the removal of its channel
abbrev pub UnremovedIsRefused : Type 0
UnremovedIsRefused = (workers w slot : ℕ) (c : List ℕ) (id : Id) (h : List Event) → IsLeavingRule workers (Left w c id slot Deleted ∷ h) → ⊥
