-- What a worker asks for itself, by the history: what was asked, what is on its way, and what was answered.
use Rattle.std.specs.Prelude.{◌≡◌, ℕ, ◌+◌, ◌≤◌, Bool, false, List, [], ◌∷◌, ◌==◌, ◌&&◌, Option, None, if◌then◌else◌}
use Rattle.nc_types.specs.declared.info.Info.{Info}
use Rattle.nc_journal.specs.Holding.{times_so}
use Rattle.nc_journal.specs.declared.event.Event.{Event}
use Rattle.nc_journal.specs.declared.event.Event.TheVariants.{Asked, Answered, Took, Quiet}
use Rattle.nc_journal.specs.declared.word.Act.TheVariants as acts
use Rattle.nc_journal.specs.declared.alert.AlertLine.{AlertLine}
use Rattle.nc_journal.specs.declared.alert.AlertLine.TheVariants as lines
use Rattle.nc_history.specs.Packets.{Packet, pending}
use Rattle.nc_world.specs.World.{sum_below}
use Rattle.nc_world_holds.specs.Balance.{one_if}

-- a worker asks an owner for itself: it publishes, deletes, or asks for information; and so under a number
abbrev pub asks : ℕ → Event → Bool
asks w (Asked v n None acts.Publish list status rule) = v == w
asks w (Asked v n None acts.Info list status rule) = v == w
asks w (Asked v n None acts.Delete list status rule) = v == w
asks w e = false

abbrev pub asks_under : ℕ → ℕ → Event → Bool
asks_under w r (Asked v n None acts.Publish list status rule) = (v == w) && (n == r)
asks_under w r (Asked v n None acts.Info list status rule) = (v == w) && (n == r)
asks_under w r (Asked v n None acts.Delete list status rule) = (v == w) && (n == r)
asks_under w r e = false

-- a worker answers what was asked under a number
abbrev pub answers_under : ℕ → ℕ → Event → Bool
answers_under w r (Answered v n conn status info json close) = (v == w) && (n == r)
answers_under w r e = false

-- an alert asks under a number, or answers it
abbrev pub asking : ℕ → AlertLine → ℕ
asking r (lines.Publish n c len timeout ct body) = one_if (n == r)
asking r (lines.Info n c) = one_if (n == r)
asking r (lines.Delete n c) = one_if (n == r)
asking r line = 0

abbrev pub answering : ℕ → AlertLine → ℕ
answering r (lines.PubAnswer n status info full) = one_if (n == r)
answering r (lines.DelAnswer n status info) = one_if (n == r)
answering r (lines.InfoAnswer n status info) = one_if (n == r)
answering r line = 0

-- how many of some packets do
abbrev pub among : (AlertLine → ℕ) → List Packet → ℕ
among f [] = 0
among f (p ∷ ps) = f p.line + among f ps

-- how many alerts that ask under a worker's number are pending to the owners, and how many that answer it from them
abbrev pub asking_pending : (workers w r : ℕ) → List Event → ℕ
asking_pending workers w r h = sum_below (λ v. among (asking r) (pending w v h)) workers

abbrev pub answering_pending : (workers w r : ℕ) → List Event → ℕ
answering_pending workers w r h = sum_below (λ v. among (answering r) (pending v w h)) workers

-- a number is asked under once at most; and what was asked is pending to an owner, or its answer is pending, or it was answered, and one of the three
pub record IsWaitedFor (workers w r : ℕ) (h : List Event) : Type 0 where
  pub once : times_so (asks_under w r) h ≤ 1
  pub one : times_so (asks_under w r) h ≡ asking_pending workers w r h + answering_pending workers w r h + times_so (answers_under w r) h

-- how often a number is among some
abbrev pub occurs : ℕ → List ℕ → ℕ
occurs r [] = 0
occurs r (x ∷ xs) = if x == r then occurs r xs + 1 else occurs r xs

-- ---- at the moments

-- what is asked has the next number
abbrev pub DrawnAt : ℕ → List Event → Event → Type 0
DrawnAt first h (Asked w r None acts.Publish list status rule) = r ≡ first + times_so (asks w) h
DrawnAt first h (Asked w r None acts.Info list status rule) = r ≡ first + times_so (asks w) h
DrawnAt first h (Asked w r None acts.Delete list status rule) = r ≡ first + times_so (asks w) h
DrawnAt first h _ = Unit {0}

-- an alert answers a number with a status and information; the first of some packets does
abbrev pub IsAnswer : ℕ → ℕ → Option Info → AlertLine → Type 0
IsAnswer r status info (lines.PubAnswer n s i full) = (n ≡ r) × (s ≡ status) × (i ≡ info)
IsAnswer r status info (lines.DelAnswer n s i) = (n ≡ r) × (s ≡ status) × (i ≡ info)
IsAnswer r status info (lines.InfoAnswer n s i) = (n ≡ r) × (s ≡ status) × (i ≡ info)
IsAnswer r status info line = ⊥

abbrev pub FirstAnswers : ℕ → ℕ → Option Info → List Packet → Type 0
FirstAnswers r status info [] = ⊥
FirstAnswers r status info (p ∷ ps) = IsAnswer r status info p.line

-- the newest event is that a worker took such an alert
abbrev pub TookAnswer : ℕ → ℕ → ℕ → Option Info → List Event → Type 0
TookAnswer w r status info [] = ⊥
TookAnswer w r status info (Took x v n kind ∷ h) = (x ≡ w) × FirstAnswers r status info (pending v w h)
TookAnswer w r status info (e ∷ h) = ⊥

-- what is answered stands directly behind the taking of that answer, with its status and information
abbrev pub AnsweredAt : List Event → Event → Type 0
AnsweredAt h (Answered w r conn status info json close) = (conn ≡ None) × (json ≡ false) × (close ≡ false) × TookAnswer w r status info h
AnsweredAt h _ = Unit {0}

-- at quiet each request was answered, once
abbrev pub RestedAt : List Event → Event → Type 0
RestedAt h Quiet = (w r : ℕ) → times_so (answers_under w r) h ≡ times_so (asks_under w r) h
RestedAt h _ = Unit {0}
