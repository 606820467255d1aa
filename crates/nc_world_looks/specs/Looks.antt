-- Looks that workers ask for, and their answers, by the history.
use Rattle.std.specs.Prelude.{◌≡◌, ℕ, ◌+◌, ◌≤◌, List, [], ◌∷◌, ◌==◌}
use Rattle.nc_journal.specs.declared.event.Event.{Event}
use Rattle.nc_journal.specs.declared.alert.AlertLine.{AlertLine}
use Rattle.nc_journal.specs.declared.alert.AlertLine.TheVariants as lines
use Rattle.nc_history.specs.Packets.{pending, sent_lines, received, lines_of}
use Rattle.nc_worker_state.specs.Setup.{Setup}
use Rattle.nc_world.specs.World.{World}
use Rattle.nc_world.specs.Reached.{IsSetup, Reached}
use Rattle.nc_world_holds.specs.Balance.{one_if}

-- an alert asks for the look of this number, or answers it
abbrev pub looking : ℕ → AlertLine → ℕ
looking n (lines.Look number c after fence) = one_if (number == n)
looking n line = 0

abbrev pub looked : ℕ → AlertLine → ℕ
looked n (lines.LookAnswer number q floor found g slot) = one_if (number == n)
looked n line = 0

-- how many of some alerts do
abbrev pub weigh : (AlertLine → ℕ) → List AlertLine → ℕ
weigh f [] = 0
weigh f (a ∷ rest) = f a + weigh f rest

-- the looks of a number that a worker asked an owner for are at most those that are pending there and the answers that the owner made
abbrev pub LooksAreAnswered : Type 0
LooksAreAnswered = (setup : Setup) (h : List Event) (world : World) → IsSetup setup → Reached setup h world → (w o n : ℕ)
    → weigh (looking n) (sent_lines w o h) ≤ weigh (looking n) (lines_of (pending w o h)) + weigh (looked n) (sent_lines o w h)

-- so where nothing is pending between the two, the worker took as many answers at least
abbrev pub RestedLooks : Type 0
RestedLooks = (setup : Setup) (h : List Event) (world : World) → IsSetup setup → Reached setup h world → (w o n : ℕ) → pending w o h ≡ []
    → pending o w h ≡ []
    → weigh (looking n) (sent_lines w o h) ≤ weigh (looked n) (received o w h)

-- and an owner answers no look that wasn't asked for: the answers that it made for a worker, and what is pending from there, are at most what the worker asked
abbrev pub AnswersAreAsked : Type 0
AnswersAreAsked = (setup : Setup) (h : List Event) (world : World) → IsSetup setup → Reached setup h world → (w o n : ℕ)
    → weigh (looked n) (sent_lines o w h) + weigh (looking n) (lines_of (pending w o h)) ≤ weigh (looking n) (sent_lines w o h)
