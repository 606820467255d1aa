-- What keeps that a place rests.
use Rattle.std.specs.Prelude.{◌≡◌, ℕ, Bool, false, List, ◌∷◌, bytes_eq}
use Rattle.std.specs.List.{AllByRecursion}
use Rattle.nc_types.specs.Id.{Id}
use Rattle.nc_types.specs.Channel.{owner_of}
use Rattle.nc_journal.specs.History.{onto}
use Rattle.nc_journal.specs.declared.event.Event.{Event}
use Rattle.nc_journal.specs.declared.alert.AlertLine.{AlertLine}
use Rattle.nc_journal.specs.declared.event.Event.TheVariants.{Took}
use Rattle.nc_journal.specs.declared.word.AlertKind.{AlertKind}
use Rattle.nc_journal.specs.declared.alert.AlertLine.TheVariants.{Notice, Gone}
use Rattle.nc_owner_laws.specs.Wake.{Waiting, hear}
use Rattle.nc_history.specs.Packets.{takes, IsNext}
use Rattle.nc_rests.specs.Rests.{Rest, Nothing, Found, RestsAt}

-- every event does, but that its worker takes an alert of the channel's owner
abbrev pub RestStays : Type 0
RestStays = (workers w : ℕ) (c : List ℕ) (after : Id) (r : Rest) (e : Event) (h : List Event)
    → takes (owner_of workers c) w e ≡ false → RestsAt workers w c after r h → RestsAt workers w c after r (e ∷ h)

-- so do all events of a step
abbrev pub StepRests : Type 0
StepRests = (workers w : ℕ) (c : List ℕ) (after : Id) (r : Rest) (es h : List Event)
    → AllByRecursion (λ e. takes (owner_of workers c) w e ≡ false) es → RestsAt workers w c after r h → RestsAt workers w c after r (onto es h)

-- a place that found something keeps it whatever comes
abbrev pub FoundStays : Type 0
FoundStays = (workers w : ℕ) (c : List ℕ) (after : Id) (q : ℕ) (id : Id) (e : Event) (h : List Event) → RestsAt workers w c after (Found q id) h
    → RestsAt workers w c after (Found q id) (e ∷ h)

-- an alert that doesn't wake the look keeps that nothing was found
abbrev pub NothingStays : Type 0
NothingStays = (workers w : ℕ) (c : List ℕ) (after : Id) (q floor : ℕ) (n : ℕ) (kind : AlertKind) (a : AlertLine) (h : List Event)
    → IsNext (owner_of workers c) w a h → hear c q Waiting a ≡ Waiting → RestsAt workers w c after (Nothing q floor) h
    → RestsAt workers w c after (Nothing q floor) (Took w (owner_of workers c) n kind ∷ h)

-- whether an alert signals that a message of a channel was stored, or that the channel was removed
abbrev pub is_signal : List ℕ → AlertLine → Bool
is_signal c (Notice d id g slot) = bytes_eq d c
is_signal c (Gone d subs) = bytes_eq d c
is_signal c a = false

-- a worker that takes an alert keeps what its places rest on, but for a place where nothing was found and whose channel the alert signals
abbrev pub TakeKeeps : Type 0
TakeKeeps = (workers w : ℕ) (c : List ℕ) (after : Id) (r : Rest) (from n : ℕ) (kind : AlertKind) (a : AlertLine) (h : List Event)
    → IsNext from w a h → (from ≡ owner_of workers c → is_signal c a ≡ false) → RestsAt workers w c after r h
    → RestsAt workers w c after r (Took w from n kind ∷ h)
