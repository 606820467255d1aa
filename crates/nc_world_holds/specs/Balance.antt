-- Holds between an owner and a worker: what was granted is released, on its way, or kept.
use Rattle.std.specs.Prelude.{◌≡◌, ℕ, ◌+◌, Bool, List, [], ◌∷◌, if◌then◌else◌, ◌==◌, ◌&&◌, Option, None, Some}
use Rattle.std.specs.List.{AllByRecursion}
use Rattle.nc_types.specs.Id.{Id}
use Rattle.nc_journal.specs.History.{onto}
use Rattle.nc_journal.specs.declared.event.Event.{Event}
use Rattle.nc_journal.specs.declared.event.Event.TheVariants.{Granted, Released}
use Rattle.nc_journal.specs.declared.alert.AlertLine.{AlertLine}
use Rattle.nc_journal.specs.declared.alert.AlertLine.TheVariants as lines
use Rattle.nc_spool_state.specs.declared.kept.Held.{Held}
use Rattle.nc_history.specs.Packets.{Packet, lines_of, pending}
use Rattle.nc_worker_state.specs.Setup.{Setup}
use Rattle.nc_worker_state.specs.Incoming.{Incoming, TakesPacket}
use Rattle.nc_worker_state.specs.Spooled.{Hold}
use Rattle.nc_worker_state.specs.Deed.{told}
use Rattle.nc_worker_state.specs.Desk.{Desk, served}
use Rattle.nc_world.specs.World.{World}
use Rattle.nc_world.specs.Reached.{Reached, IsSetup}

-- an answer that brings a message brings its grant and slot too, and one that doesn't brings none
abbrev pub IsWholeAnswer : Option Id → Option ℕ → Option ℕ → Type 0
IsWholeAnswer (Some id) (Some g) (Some slot) = Unit {0}
IsWholeAnswer None None None = Unit {0}
IsWholeAnswer found g slot = ⊥

abbrev pub IsWholeLine : AlertLine → Type 0
IsWholeLine (lines.LookAnswer number q floor found g slot) = IsWholeAnswer found g slot
IsWholeLine line = Unit {0}

abbrev pub AreWhole : List Packet → Type 0
AreWhole ps = AllByRecursion (λ p. IsWholeLine p.line) ps

abbrev pub IsWholeIncoming : Incoming → Type 0
IsWholeIncoming (TakesPacket from p) = IsWholeLine p.line
IsWholeIncoming incoming = Unit {0}

abbrev pub one_if : Bool → ℕ
one_if b = if b then 1 else 0

-- of the grants that pass a test on their number and slot, as one of all numbers and one slot, or of one number:
module _ (test : ℕ → ℕ → Bool) where
  -- how many an owner made to a worker, and how many the worker released
  abbrev pub granted_to : ℕ → ℕ → List Event → ℕ
  granted_to o w [] = 0
  granted_to o w (Granted v g slot to ∷ h) = if ((v == o) && (to == w)) && test g slot then granted_to o w h + 1 else granted_to o w h
  granted_to o w (e ∷ h) = granted_to o w h

  abbrev pub released_by : ℕ → ℕ → List Event → ℕ
  released_by o w [] = 0
  released_by o w (Released v owner g slot ∷ h) = if ((owner == o) && (v == w)) && test g slot then released_by o w h + 1 else released_by o w h
  released_by o w (e ∷ h) = released_by o w h

  -- how many some alerts carry
  abbrev pub carries_by : Option ℕ → Option ℕ → ℕ
  carries_by (Some g) (Some slot) = one_if (test g slot)
  carries_by g slot = 0

  abbrev pub carries : AlertLine → ℕ
  carries (lines.LookAnswer number q floor found g slot) = carries_by g slot
  carries (lines.Notice c id g slot) = one_if (test g slot)
  carries line = 0

  abbrev pub carried_by : List AlertLine → ℕ
  carried_by [] = 0
  carried_by (l ∷ ls) = carries l + carried_by ls

  -- how many of an owner's holds are among some
  abbrev pub kept_by : ℕ → List (Held Hold) → ℕ
  kept_by o [] = 0
  kept_by o (h ∷ hs) = one_if ((h.owner == o) && test h.g h.slot) + kept_by o hs

  -- how many came to a worker with what comes
  abbrev pub brought : ℕ → Incoming → ℕ
  brought o (TakesPacket from p) = if from == o then carries p.line else 0
  brought o incoming = 0

-- whatever the test: what an owner granted to a worker was released, is on its way, or is kept by the worker's spools
abbrev pub IsBalanced : List Event → World → Type 0
IsBalanced h world = (test : ℕ → ℕ → Bool) (o w : ℕ)
    → granted_to test o w h ≡ released_by test o w h + carried_by test (lines_of (pending o w h)) + kept_by test o (world.workers w).desk.spools.kept

-- the part of a worker's step beside its owner: what came is released, or kept
abbrev pub ServedBalances : Type 0
ServedBalances = (test : ℕ → ℕ → Bool) (setup : Setup) (o me : ℕ) (incoming : Incoming) (next : ℕ → ℕ) (d : Desk) (h : List Event)
    → IsWholeIncoming incoming
    → released_by test o me (onto (told me next (served setup me incoming d).deeds) h) + kept_by test o (served setup me incoming d).after.spools.kept
    ≡ released_by test o me h + brought test o incoming + kept_by test o d.spools.kept

-- what holds of the holds in each reached world: they are balanced, and what is on its way is whole
pub record HoldsKept (h : List Event) (world : World) : Type 0 where
  pub balanced : IsBalanced h world
  pub whole : (v w : ℕ) → AreWhole (pending v w h)

abbrev pub ReachedHolds : Type 0
ReachedHolds = (setup : Setup) (h : List Event) (world : World) → IsSetup setup → Reached setup h world → HoldsKept h world
