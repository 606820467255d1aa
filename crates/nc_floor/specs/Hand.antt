-- What a worker counts on in what comes to it, and what it gives.
use Rattle.std.specs.Prelude.{◌≡◌, ℕ, ◌<◌, List, IfSome}
use Rattle.nc_alert.specs.declared.alert.Grant.{Grant}
use Rattle.nc_alert.specs.declared.packet.Packet.{Packet}
use Rattle.nc_alert.specs.Packet.{grant_of}
use Rattle.nc_slots.specs.Slots.{HoldAt}
use Rattle.nc_slots.specs.Plain.{RowAt, row_at}
use Rattle.nc_owner.specs.Moment.{IsClock}
use Rattle.nc_owner.specs.AlertLines.{alert_line}
use Rattle.nc_spool.specs.Arrive.{FitsList}
use Rattle.nc_worker_state.specs.declared.input.Input.{Input}
use Rattle.nc_worker_state.specs.declared.input.Input.TheVariants as inputs
use Rattle.nc_worker_state.specs.Worker.{WorkerAt, Seat}
use Rattle.nc_world_laws.specs.Good.{IsLineTo}

-- the number of a worker
abbrev pub me_of : WorkerAt → ℕ
me_of s = s.owner.desk.me

-- a worker with its slots, among those of all
abbrev pub seat_in : WorkerAt → ℕ → List RowAt → Seat
seat_in s me rows = record { worker = s; row = (row_at rows me).slots; counts = λ o. (row_at rows o).holds }

module _ {H : Type 0} (held : H → HoldAt) where
  -- a grant's hold is of the owner's slot that the grant names
  pub record IsGrantOf (from : ℕ) (grant : Grant H) : Type 0 where
    pub owner : (held grant.hold).owner ≡ from
    pub place : (held grant.hold).slot ≡ grant.slot

  -- a packet is from one worker to another, and carries no hold but of its sender's slots
  pub record IsBetween (from to : ℕ) (packet : Packet H) : Type 0 where
    pub sender : packet.from ≡ from
    pub receiver : packet.to ≡ to
    pub granted : IfSome (grant_of packet.alert) (IsGrantOf from)

  -- a packet to the worker comes from one that is there and says what it may say to it; a clock keeps its limit, and a given start has a tag for each name
  abbrev pub IsRight : ℕ → ℕ → Input H → Type 0
  IsRight workers me (inputs.Packet p) = IsBetween p.from me p × (p.from < workers) × IsLineTo workers p.from me (alert_line p.alert)
  IsRight workers me (inputs.Clock t) = IsClock t
  IsRight workers me inputs.Reap = Unit {0}
  IsRight workers me (inputs.Post c body) = Unit {0}
  IsRight workers me (inputs.Poll k list start) = FitsList list start
  IsRight workers me (inputs.Remove c) = Unit {0}
  IsRight workers me (inputs.Inform c) = Unit {0}
