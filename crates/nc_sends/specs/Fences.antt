-- Fences: where a cursor has come to a time, the owner of each of its channels stores nothing below that time.
use Rattle.std.specs.Prelude.{ℕ, ◌≤◌, List, ◌∷◌, ◌++◌}
use Rattle.std.specs.List.{AllByRecursion}
use Rattle.nc_types.specs.Cursor.{CursorAt}
use Rattle.nc_types.specs.Channel.{owner_of}
use Rattle.nc_journal.specs.History.{Along, own, AtEachCut}
use Rattle.nc_journal.specs.Stamp.{floor_of}
use Rattle.nc_journal.specs.Standing.{stage_of, Standing, Stage}
use Rattle.nc_journal.specs.declared.event.Event.{Event}
use Rattle.nc_journal.specs.declared.event.Event.TheVariants.{Sent}

-- at the owner of each channel of a list the floor isn't below a time
abbrev pub AreFenced : ℕ → ℕ → List (List ℕ) → List Event → Type 0
AreFenced workers time list h = AllByRecursion (λ d. time ≤ floor_of (own (owner_of workers d) h)) list

-- the time of a sent's cursor is fenced for the list of the one that it goes to
abbrev pub IsFencedFor : ℕ → CursorAt → List Event → Stage → Type 0
IsFencedFor workers cur h (Standing list once old) = AreFenced workers cur.time list h
IsFencedFor workers cur h _ = Unit {0}

-- which it is when it is sent
abbrev pub FencedAt : ℕ → List Event → Event → Type 0
FencedAt workers h (Sent w k i c id cur looks) = IsFencedFor workers cur h (stage_of k (own w h))
FencedAt workers h _ = Unit {0}

-- and later
abbrev pub FencedSince : ℕ → List Event → Event → List Event → Type 0
FencedSince workers newer (Sent w k i c id cur looks) older = IsFencedFor workers cur (newer ++ Sent w k i c id cur looks ∷ older) (stage_of k (own w older))
FencedSince workers newer _ older = Unit {0}

-- each cursor that a send has made is fenced from then on
abbrev pub FencesStay : Type 0
FencesStay = (workers : ℕ) (h : List Event) → Along (FencedAt workers) h → AtEachCut (FencedSince workers) h
