-- What a framer gives.
use Rattle.std.specs.Prelude.{◌≡◌, ℕ, ◌-◌, Bool, true, false, List, [], ◌∷◌, length, drop, Option, None, Some}
use Rattle.std.specs.List.{slice_get}
use Rattle.nc_ws.specs.declared.framer.FrameIn.{FrameIn}
use Rattle.nc_ws.specs.declared.framer.FrameIn.TheVariants.{Message, Reply, Closed}
use Rattle.nc_ws.specs.declared.framer.FrameFault.{FrameFault}
use Rattle.nc_ws.specs.declared.framer.FrameFault.TheVariants.{Failed, NoMemory}

abbrev pub is_closed : FrameIn → Bool
is_closed Message = false
is_closed (Reply bytes) = false
is_closed Closed = true

abbrev pub is_closed_item : Option FrameIn → Bool
is_closed_item None = false
is_closed_item (Some item) = is_closed item

-- the last item is Closed
abbrev pub ends_closed : List FrameIn → Bool
ends_closed list = is_closed_item (slice_get list (length list - 1))

-- no item but the last is Closed
abbrev pub ClosedIsLast : List FrameIn → Type 0
ClosedIsLast [] = Unit {0}
ClosedIsLast (item ∷ []) = Unit {0}
ClosedIsLast (item ∷ other ∷ items) = (is_closed item ≡ false) × ClosedIsLast (other ∷ items)

-- a fault is a failure, and no want of memory
abbrev pub is_failure : FrameFault → Bool
is_failure Failed = true
is_failure NoMemory = false

-- bytes to be sent, as one reply where there are any
abbrev pub reply_of : List ℕ → List FrameIn
reply_of [] = []
reply_of (byte ∷ bytes) = Reply (byte ∷ bytes) ∷ []

-- what was written behind the old bytes, as a reply
abbrev pub written : List ℕ → List ℕ → List FrameIn
written old new = reply_of (drop (length old) new)
