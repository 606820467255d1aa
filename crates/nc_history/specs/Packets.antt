-- The packets between two workers, read off a history.
use Rattle.std.specs.Prelude.{◌≡◌, ℕ, ◌+◌, Bool, false, List, [], ◌∷◌, ◌++◌, drop, map, if◌then◌else◌, ◌==◌, ◌&&◌}
use Rattle.nc_journal.specs.History.{Along}
use Rattle.nc_journal.specs.declared.event.Event.{Event}
use Rattle.nc_journal.specs.declared.event.Event.TheVariants.{Made, Took}
use Rattle.nc_journal.specs.declared.alert.AlertLine.{AlertLine}
use Rattle.nc_journal.specs.declared.alert.AlertLine.TheVariants as lines
use Rattle.nc_journal.specs.declared.word.AlertKind.{AlertKind}
use Rattle.nc_journal.specs.declared.word.AlertKind.TheVariants as kinds

-- an alert under its sender's number of it
pub record Packet : Type 0 where
  pub number : ℕ
  pub line : AlertLine

abbrev pub packet : ℕ → AlertLine → Packet
packet n a = record { number = n; line = a }

abbrev pub kind_of : AlertLine → AlertKind
kind_of (lines.Publish r c len timeout ct body) = kinds.Publish
kind_of (lines.PubAnswer r status info full) = kinds.PubAnswer
kind_of (lines.Look number c after fence) = kinds.Look
kind_of (lines.LookAnswer number q floor found g slot) = kinds.LookAnswer
kind_of (lines.Notice c id g slot) = kinds.Notice
kind_of (lines.Edge number k c fence) = kinds.Edge
kind_of (lines.EdgeAnswer number q floor last) = kinds.EdgeAnswer
kind_of (lines.Join c k) = kinds.Join
kind_of (lines.Part c k) = kinds.Part
kind_of (lines.Delete r c) = kinds.Delete
kind_of (lines.DelAnswer r status info) = kinds.DelAnswer
kind_of (lines.Gone c subs) = kinds.Gone
kind_of (lines.Info r c) = kinds.Info
kind_of (lines.InfoAnswer r status info) = kinds.InfoAnswer

abbrev pub is_pair : ℕ → ℕ → ℕ → ℕ → Bool
is_pair v w x y = (v == x) && (w == y)

-- whether an event is that w takes a packet of v
abbrev pub takes : ℕ → ℕ → Event → Bool
takes v w (Took y x n kind) = is_pair v w x y
takes v w e = false

-- what v made for w and w hasn't taken, the oldest first: a packet is put behind the others, and the first is taken
abbrev pub pending : ℕ → ℕ → List Event → List Packet
pending v w [] = []
pending v w (Made x y n a ∷ h) = if is_pair v w x y then pending v w h ++ packet n a ∷ [] else pending v w h
pending v w (Took y x n kind ∷ h) = if is_pair v w x y then drop 1 (pending v w h) else pending v w h
pending v w (e ∷ h) = pending v w h

-- how many packets v made for w, and how many of them w took
abbrev pub made_count : ℕ → ℕ → List Event → ℕ
made_count v w [] = 0
made_count v w (Made x y n a ∷ h) = if is_pair v w x y then made_count v w h + 1 else made_count v w h
made_count v w (e ∷ h) = made_count v w h

abbrev pub took_count : ℕ → ℕ → List Event → ℕ
took_count v w [] = 0
took_count v w (Took y x n kind ∷ h) = if is_pair v w x y then took_count v w h + 1 else took_count v w h
took_count v w (e ∷ h) = took_count v w h

-- ---- the alerts of packets

abbrev pub lines_of : List Packet → List AlertLine
lines_of ps = map (λ p. p.line) ps

-- the alert of the first packet, if there is one
abbrev pub first_line : List Packet → List AlertLine
first_line [] = []
first_line (p ∷ ps) = p.line ∷ []

-- the alerts that v made for w, and those that w took from v, the first one first
abbrev pub sent_lines : ℕ → ℕ → List Event → List AlertLine
sent_lines v w [] = []
sent_lines v w (Made x y n a ∷ h) = if is_pair v w x y then sent_lines v w h ++ a ∷ [] else sent_lines v w h
sent_lines v w (e ∷ h) = sent_lines v w h

abbrev pub received : ℕ → ℕ → List Event → List AlertLine
received v w [] = []
received v w (Took y x n kind ∷ h) = if is_pair v w x y then received v w h ++ first_line (pending v w h) else received v w h
received v w (e ∷ h) = received v w h

-- the alert that w takes next from v
abbrev pub IsNext : ℕ → ℕ → AlertLine → List Event → Type 0
IsNext v w a h = first_line (pending v w h) ≡ a ∷ []

-- what was taken is a prefix of what was made, and what is pending is the rest
abbrev pub TakenIsPrefix : Type 0
TakenIsPrefix = (v w : ℕ) (h : List Event) → sent_lines v w h ≡ received v w h ++ lines_of (pending v w h)

-- ---- the post rule

-- the first of some packets has this number and kind
abbrev pub FirstIs : List Packet → ℕ → AlertKind → Type 0
FirstIs [] n kind = ⊥
FirstIs (p ∷ ps) n kind = (p.number ≡ n) × (kind_of p.line ≡ kind)

-- what is made has the next number of its pair; what is taken is the first that is pending, and has the next number of those
abbrev pub PostedAt : ℕ → List Event → Event → Type 0
PostedAt first h (Made v w n a) = n ≡ first + made_count v w h
PostedAt first h (Took w v n kind) = (n ≡ first + took_count v w h) × FirstIs (pending v w h) n kind
PostedAt first h _ = Unit {0}

-- the post rule: the packets of each pair have the numbers from a first one on, and are taken in their order
abbrev pub IsPosted : ℕ → List Event → Type 0
IsPosted first h = Along (PostedAt first) h
