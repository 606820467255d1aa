-- What a sent rests on was taken: the answers to the looks that it names, and the message itself.
use Rattle.std.specs.Prelude.{◌≡◌, ◌⊎◌, ℕ, List, [], ◌∷◌, slice_get, Some}
use Rattle.nc_types.specs.Id.{Id}
use Rattle.nc_types.specs.Channel.{owner_of}
use Rattle.nc_journal.specs.History.{own}
use Rattle.nc_journal.specs.Standing.{stage_of, Standing, Stage}
use Rattle.nc_journal.specs.declared.event.Event.{Event}
use Rattle.nc_journal.specs.declared.alert.AlertLine.{AlertLine}
use Rattle.nc_journal.specs.declared.alert.AlertLine.TheVariants.{LookAnswer}
use Rattle.nc_journal.specs.declared.event.Event.TheVariants.{Sent}
use Rattle.nc_history.specs.Packets.{received}
use Rattle.nc_rests.specs.Came.{CameBy}

-- the answer to look q is among some alerts
abbrev pub HasLookAnswer : ℕ → List AlertLine → Type 0
HasLookAnswer q [] = ⊥
HasLookAnswer q (LookAnswer number p floor found g slot ∷ l) = (p ≡ q) ⊎ HasLookAnswer q l
HasLookAnswer q (a ∷ l) = HasLookAnswer q l

-- for one that stands with a list: the worker took the answer to each look from the owner of its channel,
-- and the message is what the answer found, or that of a notice which it took behind the answer
pub record IsTakenFor (workers w i : ℕ) (c : List ℕ) (id : Id) (looks : List ℕ) (list : List (List ℕ)) (h : List Event) : Type 0 where
  pub answers : (j : ℕ) (d : List ℕ) (q : ℕ) → slice_get list j ≡ Some d → slice_get looks j ≡ Some q
      → HasLookAnswer q (received (owner_of workers d) w h)
  pub message : (q : ℕ) → slice_get looks i ≡ Some q → CameBy q c id (received (owner_of workers c) w h)

abbrev pub TakenFor : (workers w i : ℕ) → List ℕ → Id → List ℕ → List Event → Stage → Type 0
TakenFor workers w i c id looks h (Standing list once old) = IsTakenFor workers w i c id looks list h
TakenFor workers w i c id looks h _ = ⊥

-- which it is when it is sent
abbrev pub TakenAt : ℕ → List Event → Event → Type 0
TakenAt workers h (Sent w k i c id cur looks) = TakenFor workers w i c id looks h (stage_of k (own w h))
TakenAt workers h _ = Unit {0}
