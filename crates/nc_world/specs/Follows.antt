-- How a journal follows a script: line by line, told by the journal alone.
use Rattle.std.specs.Prelude.{◌≡◌, ℕ, zero, suc, ◌+◌, ◌-◌, Bool, true, false, List, [], ◌∷◌, ◌++◌, length, if◌then◌else◌, ◌==◌, ◌&&◌, nat_lt, Option, None, Some}
use Rattle.std.specs.List.{AllByRecursion}
use Rattle.nc_types.specs.Channel.{owner_of}
use Rattle.nc_journal.specs.History.{onto}
use Rattle.nc_journal.specs.declared.event.Event.{Event}
use Rattle.nc_journal.specs.declared.event.Event.TheVariants.{Clock, Asked, Subscribed, Made, Took}
use Rattle.nc_journal.specs.declared.word.Act.TheVariants as acts
use Rattle.nc_journal.specs.declared.word.ModeLine.TheVariants.{Direct}
use Rattle.nc_journal.specs.declared.alert.AlertLine.TheVariants as alerts
use Rattle.nc_history.specs.Packets.{Packet, kind_of, is_pair, pending, made_count, took_count}
use Rattle.nc_history.specs.Steps.{begins, joined}
use Rattle.nc_worker_state.specs.Setup.{Setup}
use Rattle.nc_world.specs.World.{sum_pairs}
use Rattle.nc_world.specs.Moves.{Move, Carries, Takes, counted, rested, ring_size}
use Rattle.nc_world.specs.Lines.{Line, Blank, Clocks, Reap, Carry, Take, Settle, Post, Poll, Remove, Inform, round, first_turn}
use Rattle.nc_world.specs.OwnersRule.{IsReapOf}

-- how many alerts are pending
abbrev pub pending_count : ℕ → List Event → ℕ
pending_count workers h = sum_pairs (λ v w. length (pending v w h)) workers

-- how many packets of each pair were carried into its ring, which the lines tell
abbrev pub Carried : Type 0
Carried = ℕ → ℕ → ℕ

abbrev pub one_carried : ℕ → ℕ → Carried → Carried
one_carried w v carried x y = if is_pair w v x y then carried x y + 1 else carried x y

-- a carry does something where a packet was made and isn't carried, and the ring has room; a take where a packet is in the ring
abbrev pub can : List Event → Carried → Move → Bool
can h carried (Carries w v) = nat_lt (carried w v) (made_count w v h) && nat_lt (carried w v - took_count w v h) ring_size
can h carried (Takes w v) = nat_lt (took_count v w h) (carried v w)
can h carried move = false

-- ---- one move

-- a step that begins with an event: no other step begins in it
abbrev pub IsStepFrom : Event → List Event → Type 0
IsStepFrom e [] = ⊥
IsStepFrom e (x ∷ es) = (x ≡ e) × AllByRecursion (λ y. begins y ≡ false) es

-- a step in which a worker takes the first of some packets
abbrev pub TakesFirst : ℕ → ℕ → List Packet → List Event → Type 0
TakesFirst w v [] events = ⊥
TakesFirst w v (p ∷ ps) events = IsStepFrom (Took w v p.number (kind_of p.line)) events

abbrev pub IsSame : Carried → Carried → Type 0
IsSame a b = (v w : ℕ) → a v w ≡ b v w

-- nothing happens
abbrev pub Stops : Carried → List Event → Carried → Type 0
Stops carried events after = (events ≡ []) × IsSame after carried

-- a move that does something: a carry tells nothing
abbrev pub IsMoveOf : Move → List Event → Carried → List Event → Carried → Type 0
IsMoveOf (Carries w v) h carried events after = (events ≡ []) × IsSame after (one_carried w v carried)
IsMoveOf (Takes w v) h carried events after = TakesFirst w v (pending v w h) events × IsSame after carried
IsMoveOf move h carried events after = ⊥

abbrev pub Unless : Bool → Type 0 → Type 0 → Type 0
Unless true a b = a
Unless false a b = b

-- a carry or a take that may do nothing
abbrev pub MayMove : Move → List Event → Carried → Carried → List Event → Type 0
MayMove m h carried after events = Unless (can h carried m) (IsMoveOf m h carried events after) (Stops carried events after)

-- ---- settling

-- a turn that does something, and what follows it
pub record Turn (m : Move) (go : List Event → Carried → List Event → Carried → Type 0) (h : List Event) (carried : Carried)
    (events : List Event) (after : Carried) : Type 0 where
  pub step : List Event
  pub behind : List Event
  pub between : Carried
  pub parts : events ≡ step ++ behind
  pub is_move : IsMoveOf m h carried step between
  pub goes : go (onto step h) between behind after

abbrev pub Turns : Option (Move × List Move) → (List Move → List Event → Carried → List Event → Carried → Type 0) → List Event → Carried
    → List Event → Carried → Type 0
Turns None go h carried events after = Stops carried events after
Turns (Some turn) go h carried events after = Turn turn.0 (go turn.1) h carried events after

-- at most so many moves that do something, by turns, until nothing is pending
abbrev pub Settles : ℕ → ℕ → List Move → List Event → Carried → List Event → Carried → Type 0
Settles workers zero turns h carried events after = Stops carried events after
Settles workers (suc n) turns h carried events after =
    Unless (pending_count workers h == 0) (Stops carried events after) (Turns (first_turn (can h carried) [] turns) (Settles workers n) h carried events after)

-- ---- lines

-- behind a line's events stands `quiet` exactly where nothing is pending
pub record Ends (workers : ℕ) (P : List Event → Type 0) (h events : List Event) : Type 0 where
  pub body : List Event
  pub is_body : P body
  pub whole : events ≡ body ++ rested (pending_count workers (onto body h))

-- behind those of a settle stands the number of pending alerts, or `quiet`
pub record Settled (workers n : ℕ) (h : List Event) (carried : Carried) (events : List Event) (after : Carried) : Type 0 where
  pub body : List Event
  pub settles : Settles workers n (round workers) h carried body after
  pub whole : events ≡ body ++ counted (pending_count workers (onto body h))

-- what is asked directly, and the alert that asks the channel's owner
pub record IsPost (setup : Setup) (w : ℕ) (c body : List ℕ) (events : List Event) : Type 0 where
  pub r : ℕ
  pub n : ℕ
  pub same : events ≡ Asked w r None acts.Publish (Some (c ∷ [])) 0 0
      ∷ Made w (owner_of setup.workers c) n (alerts.Publish r c setup.length setup.timeout None body) ∷ []

pub record IsRemove (setup : Setup) (w : ℕ) (c : List ℕ) (events : List Event) : Type 0 where
  pub r : ℕ
  pub n : ℕ
  pub same : events ≡ Asked w r None acts.Delete (Some (c ∷ [])) 0 0 ∷ Made w (owner_of setup.workers c) n (alerts.Delete r c) ∷ []

pub record IsInform (setup : Setup) (w : ℕ) (c : List ℕ) (events : List Event) : Type 0 where
  pub r : ℕ
  pub n : ℕ
  pub same : events ≡ Asked w r None acts.Info (Some (c ∷ [])) 0 0 ∷ Made w (owner_of setup.workers c) n (alerts.Info r c) ∷ []

-- the events of a line put on a history, and what was carried before and after it
abbrev pub IsSegment : Setup → Line → List Event → Carried → List Event → Carried → Type 0
IsSegment setup Blank h carried events after = Stops carried events after
IsSegment setup (Clocks w t) h carried events after = Ends setup.workers (IsStepFrom (Clock w t)) h events × IsSame after carried
IsSegment setup (Reap w) h carried events after = Ends setup.workers (IsReapOf setup w h) h events × IsSame after carried
IsSegment setup (Carry w v) h carried events after = Ends setup.workers (MayMove (Carries w v) h carried after) h events
IsSegment setup (Take w v) h carried events after = Ends setup.workers (MayMove (Takes w v) h carried after) h events
IsSegment setup (Settle n) h carried events after = Settled setup.workers n h carried events after
IsSegment setup (Post w c body) h carried events after = Ends setup.workers (IsPost setup w c body) h events × IsSame after carried
IsSegment setup (Poll w k list start) h carried events after =
    Ends setup.workers (IsStepFrom (Subscribed w k None list Direct start setup.sub_timeout false)) h events × IsSame after carried
IsSegment setup (Remove w c) h carried events after = Ends setup.workers (IsRemove setup w c) h events × IsSame after carried
IsSegment setup (Inform w c) h carried events after = Ends setup.workers (IsInform setup w c) h events × IsSame after carried

-- a journal follows the lines, the last one first, and so many packets of each pair were carried
abbrev pub FollowsTo : Setup → List Line → List (List Event) → Carried → Type 0
FollowsTo setup [] [] carried = (v w : ℕ) → carried v w ≡ 0
FollowsTo setup [] (es ∷ journal) carried = ⊥
FollowsTo setup (line ∷ lines) [] carried = ⊥
FollowsTo setup (line ∷ lines) (es ∷ journal) carried = (before : Carried) × FollowsTo setup lines journal before
    × IsSegment setup line (joined journal) before es carried

abbrev pub Follows : Setup → List Line → List (List Event) → Type 0
Follows setup lines journal = (carried : Carried) × FollowsTo setup lines journal carried
