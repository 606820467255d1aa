-- Slots and holds, by what the journal shows: which slots are used, and who holds one.
use Rattle.std.specs.Prelude.{◌≡◌, ◌≢◌, ◌⊎◌, ℕ, ◌+◌, ◌-◌, ◌<◌, Bool, false, List, [], ◌∷◌, ◌++◌, if◌then◌else◌, ◌==◌, ◌&&◌, Some}
use Rattle.nc_types.specs.Id.{Id}
use Rattle.nc_types.specs.Channel.{owner_of}
use Rattle.nc_journal.specs.History.{own, Along}
use Rattle.nc_journal.specs.declared.event.Event.{Event}
use Rattle.nc_journal.specs.declared.event.Event.TheVariants.{Stored, Left, Granted, Released, Freed, Sent, Made, Took, Quiet}
use Rattle.nc_journal.specs.declared.alert.AlertLine.{AlertLine}
use Rattle.nc_journal.specs.declared.alert.AlertLine.TheVariants.{LookAnswer, Notice}

-- ---- slots

-- a slot holds no message; a message that is kept; or one that is gone and may still be held
pub data SlotStage : Type 0 where
  Unused : SlotStage
  Buffered : SlotStage
  Retired : SlotStage

abbrev pub stored_stage : Bool → SlotStage
stored_stage kept = if kept then Buffered else Retired

-- the stage of a slot, by the last event that names it in the local history of its owner
abbrev pub slot_stage : ℕ → List Event → SlotStage
slot_stage s [] = Unused
slot_stage s (Stored w c id slot len exp kept members from r ct body ∷ h) = if slot == s then stored_stage kept else slot_stage s h
slot_stage s (Left w c id slot cause ∷ h) = if slot == s then Retired else slot_stage s h
slot_stage s (Freed w slot ∷ h) = if slot == s then Unused else slot_stage s h
slot_stage s (e ∷ h) = slot_stage s h

-- ---- holds

-- how many events of a history are so
abbrev pub times_so : (Event → Bool) → List Event → ℕ
times_so test [] = 0
times_so test (e ∷ h) = if test e then times_so test h + 1 else times_so test h

-- an owner grants a hold of a slot; a hold of an owner's slot is released
abbrev pub grants_slot : (owner slot : ℕ) → Event → Bool
grants_slot owner slot (Granted w g s to) = (w == owner) && (s == slot)
grants_slot owner slot e = false

abbrev pub releases_slot : (owner slot : ℕ) → Event → Bool
releases_slot owner slot (Released w o g s) = (o == owner) && (s == slot)
releases_slot owner slot e = false

-- how many holds of an owner's slot there are
abbrev pub holds : (owner slot : ℕ) → List Event → ℕ
holds owner slot h = times_so (grants_slot owner slot) h - times_so (releases_slot owner slot) h

-- the hold of a number is granted by an owner; it is released
abbrev pub grants_number : (owner g : ℕ) → Event → Bool
grants_number owner g (Granted w n s to) = (w == owner) && (n == g)
grants_number owner g e = false

abbrev pub releases_number : (owner g : ℕ) → Event → Bool
releases_number owner g (Released w o n s) = (o == owner) && (n == g)
releases_number owner g e = false

-- an owner granted a worker the hold of a number and slot
abbrev pub WasGranted : (owner g slot to : ℕ) → List Event → Type 0
WasGranted owner g slot to [] = ⊥
WasGranted owner g slot to (Granted w n s u ∷ h) = ((w ≡ owner) × (n ≡ g) × (s ≡ slot) × (u ≡ to)) ⊎ WasGranted owner g slot to h
WasGranted owner g slot to (e ∷ h) = WasGranted owner g slot to h

-- an alert carries the hold of a number and slot
abbrev pub CarriesHold : (g slot : ℕ) → AlertLine → Type 0
CarriesHold g slot (LookAnswer number q floor found held place) = (held ≡ Some g) × (place ≡ Some slot)
CarriesHold g slot (Notice c id held place) = (held ≡ g) × (place ≡ slot)
CarriesHold g slot _ = ⊥

-- the alert of a number that an owner made for a worker carries the hold
abbrev pub MadeCarrying : (owner to n g slot : ℕ) → List Event → Type 0
MadeCarrying owner to n g slot [] = ⊥
MadeCarrying owner to n g slot (Made v u m a ∷ h) = ((v ≡ owner) × (u ≡ to) × (m ≡ n) × CarriesHold g slot a) ⊎ MadeCarrying owner to n g slot h
MadeCarrying owner to n g slot (e ∷ h) = MadeCarrying owner to n g slot h

-- a worker took the alert with which an owner granted it a hold
abbrev pub WasTaken : (owner g slot to : ℕ) → List Event → Type 0
WasTaken owner g slot to [] = ⊥
WasTaken owner g slot to (Took w from n kind ∷ h) = ((w ≡ to) × (from ≡ owner) × MadeCarrying owner to n g slot h) ⊎ WasTaken owner g slot to h
WasTaken owner g slot to (e ∷ h) = WasTaken owner g slot to h

-- ---- the slot rule

-- a message is stored in the lowest unused slot of its owner, of `slots` in all
pub record TakesLowestUnused (slots w slot : ℕ) (h : List Event) : Type 0 where
  pub within : slot < slots
  pub unused : slot_stage slot (own w h) ≡ Unused
  pub lowest : (s : ℕ) → s < slot → slot_stage s (own w h) ≢ Unused

-- a slot is freed that is retired and that nobody holds
pub record FreesRetired (w slot : ℕ) (h : List Event) : Type 0 where
  pub retired : slot_stage slot (own w h) ≡ Retired
  pub unheld : holds w slot h ≡ 0

-- a hold is released once, by the worker that it was granted to, which took the alert that carries it
pub record ReleasesTaken (w owner g slot : ℕ) (h : List Event) : Type 0 where
  pub granted : WasGranted owner g slot w h
  pub taken : WasTaken owner g slot w h
  pub once : times_so (releases_number owner g) h ≡ 0

-- an event that stores a message of a channel in a slot; one that frees a slot of a worker
abbrev pub StoresIn : List ℕ → Id → ℕ → Event → Type 0
StoresIn c id slot (Stored w d m s len exp kept members from r ct body) = (d ≡ c) × (m ≡ id) × (s ≡ slot)
StoresIn c id slot _ = ⊥

abbrev pub frees_slot : (owner slot : ℕ) → Event → Bool
frees_slot owner slot (Freed w s) = (w == owner) && (s == slot)
frees_slot owner slot e = false

-- a worker holds a stored message: since it was stored, a hold of its slot was granted to the worker, which took it and hasn't released it,
-- and the slot wasn't freed
pub record HoldsMessage (workers w : ℕ) (c : List ℕ) (id : Id) (h : List Event) : Type 0 where
  pub slot : ℕ
  pub since : List Event
  pub stored : Event
  pub seen : List Event
  pub place : h ≡ since ++ stored ∷ seen
  pub is_stored : StoresIn c id slot stored
  pub g : ℕ
  pub granted : WasGranted (owner_of workers c) g slot w since
  pub taken : WasTaken (owner_of workers c) g slot w since
  pub unreleased : times_so (releases_number (owner_of workers c) g) since ≡ 0
  pub unfreed : times_so (frees_slot (owner_of workers c) slot) since ≡ 0

abbrev pub SlotsAt : (workers slots : ℕ) → List Event → Event → Type 0
SlotsAt workers slots h (Stored w c id slot len exp kept members from r ct body) = TakesLowestUnused slots w slot h
SlotsAt workers slots h (Freed w slot) = FreesRetired w slot h
SlotsAt workers slots h (Granted w g slot to) = times_so (grants_number w g) h ≡ 0
SlotsAt workers slots h (Released w owner g slot) = ReleasesTaken w owner g slot h
SlotsAt workers slots h (Sent w k i c id cur looks) = HoldsMessage workers w c id h
SlotsAt workers slots h Quiet = (owner slot : ℕ) → holds owner slot h ≡ 0
SlotsAt workers slots h _ = Unit {0}

-- the slot rule, for some number of workers and of slots of each: the lowest unused slot is taken, nothing held is freed, each hold is granted
-- and released once, who is sent a message holds it, and at quiet nothing is held
abbrev pub IsSlotRule : (workers slots : ℕ) → List Event → Type 0
IsSlotRule workers slots h = Along (SlotsAt workers slots) h
