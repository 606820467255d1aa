-- What the removal of a channel wakes: each worker whose look waits there is told that the channel is gone.
use Rattle.std.specs.Prelude.{◌≡◌, ℕ, Bool, false, true, List, [], ◌∷◌, ◌++◌, ◌==◌, ◌&&◌, ◌||◌}
use Rattle.std.specs.List.{AllByRecursion}
use Rattle.nc_types.specs.Id.{Id}
use Rattle.nc_journal.specs.History.{onto}
use Rattle.nc_journal.specs.declared.event.Event.{Event}
use Rattle.nc_journal.specs.declared.event.Event.TheVariants.{Left, Removed}
use Rattle.nc_journal.specs.declared.word.RemovedCause.{RemovedCause}
use Rattle.nc_journal.specs.declared.alert.AlertLine.{AlertLine}
use Rattle.nc_journal.specs.declared.alert.AlertLine.TheVariants as lines
use Rattle.nc_owner.specs.AlertLines.{OutLine}
use Rattle.nc_owner_laws.specs.Filters.{is_marked}
use Rattle.nc_owner_laws.specs.Weave.{weave}
use Rattle.nc_owner_laws.specs.Wake.{wake, Waiting, Wakes}
use Rattle.nc_owner_laws.specs.OwnerStanding.{NothingPast}

-- before a channel is removed messages leave
abbrev pub IsLeft : Event → Type 0
IsLeft (Left w c id slot cause) = Unit {0}
IsLeft _ = ⊥

-- an alert of a removal tells that the channel is gone, or answers the delete
abbrev pub IsOfRemoval : List ℕ → AlertLine → Type 0
IsOfRemoval c (lines.Gone d subs) = d ≡ c
IsOfRemoval c (lines.DelAnswer r status info) = Unit {0}
IsOfRemoval c _ = ⊥

abbrev pub is_gone_line : AlertLine → Bool
is_gone_line (lines.Gone c subs) = true
is_gone_line _ = false

-- whether a worker is told that a channel is gone
abbrev pub is_told_gone : ℕ → List OutLine → Bool
is_told_gone w [] = false
is_told_gone w (a ∷ alerts) = ((a.to == w) && is_gone_line a.line) || is_told_gone w alerts

-- each marked worker of the channel is told
abbrev pub TellsMarked : List ℕ → List Event → List OutLine → Type 0
TellsMarked c h alerts = (w : ℕ) → is_marked c w h ≡ true → is_told_gone w alerts ≡ true

-- after a removal workers have heard what happened to their looks, and at that channel no look waits
pub record WakesAll (c : List ℕ) (h : List Event) : Type 0 where
  pub wakes : Wakes h
  pub nobody_waits : (w : ℕ) (q : ℕ) → wake w c q h ≡ Waiting → ⊥
  pub unmarked : (w : ℕ) → is_marked c w h ≡ false

-- what leaves, the removal, and behind it its alerts, put on a history
abbrev pub removal_onto : ℕ → (ℕ → ℕ) → List ℕ → Id → RemovedCause → List Event → List OutLine → List Event → List Event
removal_onto v next c last cause lefts alerts h = onto (weave v next (lefts ++ Removed v c last cause ∷ []) alerts) h

abbrev pub RemovalWakes : Type 0
RemovalWakes = (h : List Event) (v : ℕ) (next : ℕ → ℕ) (c : List ℕ) (last : Id) (cause : RemovedCause) (lefts : List Event) (alerts : List OutLine)
    → AllByRecursion IsLeft lefts → AllByRecursion (λ a. IsOfRemoval c a.line) alerts → TellsMarked c h alerts → Wakes h
    → WakesAll c (removal_onto v next c last cause lefts alerts h)

-- where a look still waits after a removal, at another channel, no message is past its id
abbrev pub RemovalPast : Type 0
RemovalPast = (h : List Event) (v : ℕ) (next : ℕ → ℕ) (c : List ℕ) (last : Id) (cause : RemovedCause) (lefts : List Event) (alerts : List OutLine)
    → AllByRecursion IsLeft lefts → NothingPast h → NothingPast (removal_onto v next c last cause lefts alerts h)
