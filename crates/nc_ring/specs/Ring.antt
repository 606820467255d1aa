-- The rule of a ring, over the packets that it holds, the oldest one first, and over what each pass knows.
use Rattle.std.specs.Prelude.{◌≡◌, ℕ, Bool, true, false, List, [], ◌∷◌, ◌++◌, All}
use mathlib.Core.Option.{some}
use lib.ListN.{get_elem?}
use Rattle.nc_alert.specs.declared.packet.Packet.{Packet}
use Rattle.nc_ring.specs.Packets.{Goes, Rises}
use Rattle.nc_ring.specs.declared.view.Log.{Log}
use Rattle.nc_ring.specs.declared.view.Route.{Route}

-- which passes push and take, the way, and all that was pushed and taken
pub record RingAt (H : Type 0) : Type 0 where
  pub writer : ℕ
  pub reader : ℕ
  pub route : Route
  pub sent : List (Packet H)
  pub got : List (Packet H)

module _ {H : Type 0} where
  -- one pass at most pushes, and it knows the way and all that was pushed; one at most takes, and knows all that was taken
  pub record FitsPass (ring : RingAt H) (pass : ℕ) (known : Log H) : Type 0 where
    pub pushing : known.pushes ≡ true → (pass ≡ ring.writer) × (known.route ≡ ring.route) × (known.sent ≡ ring.sent)
    pub taking : known.takes ≡ true → (pass ≡ ring.reader) × (known.route ≡ ring.route) × (known.got ≡ ring.got)

  -- what was pushed is what was taken and then what the ring holds, which is as it was asked
  pub record IsRing (ring : RingAt H) (items : List (Packet H)) (views : List (Log H)) : Type 0 where
    pub whole : ring.sent ≡ ring.got ++ items
    pub go : All (Goes ring.route) items
    pub rise : Rises ring.sent
    pub passes : (pass : ℕ) (known : Log H) → get_elem? views pass ≡ some known → FitsPass ring pass known

  -- the rule
  abbrev pub IsInOrder : List (Packet H) → List (Log H) → Type 0
  IsInOrder items views = (ring : RingAt H) × IsRing ring items views

  abbrev log : Bool → Bool → Route → List (Packet H) → List (Packet H) → Log H
  log pushes takes route sent got = record { pushes = pushes; takes = takes; route = route; sent = sent; got = got }

  -- the first pass, which does both until its ends are cut apart
  abbrev pub both_ends : Log H
  both_ends = log true true (record { workers = 0; from = 0; to = 0 }) [] []

  -- the ends of a ring
  abbrev pub pushing_end : Route → Log H → Log H
  pushing_end route known = log true false route known.sent []

  abbrev pub taking_end : Route → Log H → Log H
  taking_end route known = log false true route [] known.got

  -- one packet more was pushed, or taken
  abbrev pub with_sent : Log H → Packet H → Log H
  with_sent known packet = log known.pushes known.takes known.route (known.sent ++ packet ∷ []) known.got

  abbrev pub with_got : Log H → Packet H → Log H
  with_got known packet = log known.pushes known.takes known.route known.sent (known.got ++ packet ∷ [])
