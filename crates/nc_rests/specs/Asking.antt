-- Looks that a worker asked for: each number is drawn for one channel and one id.
use Rattle.std.specs.Prelude.{◌≡◌, ◌⊎◌, ℕ, ◌≤◌, List, [], ◌∷◌}
use Rattle.nc_types.specs.Id.{Id}
use Rattle.nc_journal.specs.History.{own}
use Rattle.nc_journal.specs.declared.event.Event.{Event}
use Rattle.nc_journal.specs.declared.event.Event.TheVariants.{Looked, Made}
use Rattle.nc_journal.specs.declared.alert.AlertLine.TheVariants.{Look, Edge}
use Rattle.nc_owner_laws.specs.Used.{times}
use Rattle.nc_history.specs.Packets.{IsNext}

-- a worker asked for a look by this number, at this channel and past this id, in its local history
abbrev pub HasAsk : (number : ℕ) → List ℕ → Id → List Event → Type 0
HasAsk number c after [] = ⊥
HasAsk number c after (Made v to n (Look m d a fence) ∷ l) = ((m ≡ number) × (d ≡ c) × (a ≡ after)) ⊎ HasAsk number c after l
HasAsk number c after (e ∷ l) = HasAsk number c after l

-- the numbers by which it asked for looks and edges
abbrev pub ask_numbers : List Event → List ℕ
ask_numbers [] = []
ask_numbers (Made v to n (Look m d a fence) ∷ l) = m ∷ ask_numbers l
ask_numbers (Made v to n (Edge m k d fence) ∷ l) = m ∷ ask_numbers l
ask_numbers (e ∷ l) = ask_numbers l

-- each look for a worker in an owner's local history is one that it asked for
abbrev pub AreAsked : ℕ → List Event → List Event → Type 0
AreAsked w asks [] = Unit {0}
AreAsked w asks (Looked v q from n d a floor found ∷ l) = (from ≡ w → HasAsk n d a asks) × AreAsked w asks l
AreAsked w asks (e ∷ l) = AreAsked w asks l

-- each look of a worker with this number is at this channel and past this id
abbrev pub IsAsked : (w number : ℕ) → List ℕ → Id → List Event → Type 0
IsAsked w number c after [] = Unit {0}
IsAsked w number c after (Looked v q from n d a floor found ∷ l) = (from ≡ w → n ≡ number → (d ≡ c) × (a ≡ after)) × IsAsked w number c after l
IsAsked w number c after (e ∷ l) = IsAsked w number c after l

-- a worker draws each number for one look or edge, and the looks that owners made for it are those that it asked for
pub record AsksWell (w : ℕ) (h : List Event) : Type 0 where
  pub once : (number : ℕ) → times number (ask_numbers (own w h)) ≤ 1
  pub asked : (o : ℕ) → AreAsked w (own w h) (own o h)

-- where a number was drawn once, the looks by it are at the channel and past the id that it was drawn for
abbrev pub AskedOnce : Type 0
AskedOnce = (w number : ℕ) (c : List ℕ) (after : Id) (asks l : List Event) → times number (ask_numbers asks) ≤ 1 → HasAsk number c after asks
    → AreAsked w asks l → IsAsked w number c after l

-- a look that an owner takes next was asked for
abbrev pub NextAsked : Type 0
NextAsked = (w o number : ℕ) (c : List ℕ) (after : Id) (fence : ℕ) (h : List Event) → IsNext w o (Look number c after fence) h
    → HasAsk number c after (own w h)

-- what was asked for stays so, whatever its worker does
abbrev pub AsksStay : Type 0
AsksStay = (w : ℕ) (e : Event) (h l : List Event) → AreAsked w (own w h) l → AreAsked w (own w (e ∷ h)) l
