-- Turns: which comes first, and what one does.
use Rattle.std.specs.Prelude.{ℕ, zero, suc, Bool, List, [], ◌∷◌, ◌++◌, if◌then◌else◌, Option, None, Some}
use Rattle.nc_settle.specs.declared.machine.Turn.{Turn}
use Rattle.nc_settle.specs.declared.machine.Turn.TheVariants.{Nothing, Moved, Worn}

-- the numbers below one: the turns of a round
abbrev pub below : ℕ → List ℕ
below zero = []
below (suc n) = below n ++ n ∷ []

-- of the turns still to come in a round that goes on for ever, the first that has something to do, and the turns behind it; those before it come last
abbrev pub first_turn : (ℕ → Bool) → List ℕ → List ℕ → Option (ℕ × List ℕ)
first_turn can before [] = None
first_turn can before (t ∷ ts) = if can t then Some (t, ts ++ before ++ t ∷ []) else first_turn can (before ++ t ∷ []) ts

-- what a turn does, by whether there is something to do and whether it meets somebody worn
abbrev pub turn_told : Bool → Bool → Turn
turn_told can worn = if can then (if worn then Worn else Moved) else Nothing

-- what a turn leaves: the world after a move, or the world as it was
abbrev pub turn_leaves : {W : Type 0} → Turn → W → W → W
turn_leaves Nothing moved old = old
turn_leaves Moved moved old = moved
turn_leaves Worn moved old = old
