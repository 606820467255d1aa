-- Deeds and owners' steps as events: what holds of what is done and of what is made holds of the events.
use Rattle.std.proofs.Common.{◌≡◌, ℕ, List, [], ◌∷◌, ◌++◌, refl, sym, ap, ◌∙◌}
use Rattle.std.specs.List.{AllByRecursion}
use Rattle.nc_journal.specs.declared.event.Event.{Event}
use Rattle.nc_journal.specs.declared.event.Event.TheVariants.{Clock, Joined, Parted, Raised, Stored, Left, Looked, Edged, Granted, Freed, Removed, Made, Took}
use Rattle.nc_journal.specs.declared.alert.AlertLine.{AlertLine}
use Rattle.nc_journal.specs.declared.alert.AlertLine.TheVariants as lines
use Rattle.nc_journal.specs.declared.event.Event.TheVariants.{Answered, Started, Released, Sent, Ended}
use Rattle.nc_owner.specs.AlertLines.{OutLine}
use Rattle.nc_owner_laws.specs.Aside.{IsPlainLine, IsAside}
use Rattle.nc_owner_laws.specs.Kinds.{IsOfOwner}
use Rattle.nc_reaper.specs.Reap.{Step}
use Rattle.nc_owner_laws.specs.Reaping.{steps_woven, next_behind}
use Rattle.nc_owner_laws.specs.Sweeping.{AllEvents, AllAlerts}
use Rattle.nc_owner_laws.specs.Weave.{weave, makes, numbered, numbered_by}
use Rattle.nc_worker_state.specs.Deed.{Deed, Does, Makes, told, next_after}
use Rattle.nc_worker_state.specs.Owned.{OwnersPart}
use Rattle.nc_worker_state.specs.Worker.{woven, part_woven}
use Rattle.nc_world_laws.proofs.WorkerKinds.{IsBy, IsUntaken, IsUnmade, IsOfWorker, AsksOwner, AreDeeds}
use Rattle.nc_world_laws.specs.Good.{IsLineTo}
use Rattle.nc_world_laws.proofs.Local.{eqb_of, all_of, all_append}

-- ---- deeds

-- so of each event that is done
abbrev pub AllDo : (Event → Type 0) → List Deed → Type 0
AllDo P [] = Unit {0}
AllDo P (Does e ∷ deeds) = P e × AllDo P deeds
AllDo P (Makes to a ∷ deeds) = AllDo P deeds

-- so of each alert that is made, with its receiver
abbrev pub AllMake : (ℕ → AlertLine → Type 0) → List Deed → Type 0
AllMake P [] = Unit {0}
AllMake P (Does e ∷ deeds) = AllMake P deeds
AllMake P (Makes to a ∷ deeds) = P to a × AllMake P deeds

does_next : (next : ℕ → ℕ) (e : Event) (es : List Event) → IsUnmade e → next_after next (e ∷ es) ≡ next_after next es
does_next next (Made v to n a) es un = absurd un
does_next next e es un = refl

pub told_append : (me : ℕ) (next : ℕ → ℕ) (xs ys : List Deed) → AllDo IsUnmade xs → told me next (xs ++ ys) ≡ told me next xs ++ told me (next_after next (told me next xs)) ys
told_append me next [] ys un = refl
told_append me next (Makes to a ∷ xs) ys un = ap (λ (l : List Event). Made me to (next to) a ∷ l) (told_append me (numbered next to) xs ys un)
told_append me next (Does e ∷ xs) ys un =
    ap (λ (l : List Event). e ∷ l) (told_append me next xs ys un.1)
    ∙ ap (λ (n : ℕ → ℕ). e ∷ (told me next xs ++ told me n ys)) (sym (does_next next e (told me next xs) un.0))

-- what holds of the events of deeds and of what is made holds of the deeds as events
pub told_all : (P : Event → Type 0) (w : ℕ) (next : ℕ → ℕ) → ((to n : ℕ) (a : AlertLine) → P (Made w to n a)) → (deeds : List Deed) → AllDo P deeds → AllByRecursion P (told w next deeds)
told_all P w next m [] p = tt
told_all P w next m (Does e ∷ deeds) p = (p.0, told_all P w next m deeds p.1)
told_all P w next m (Makes to a ∷ deeds) p = (m to (next to) a, told_all P w (numbered next to) m deeds p)

-- the same where it holds of those alerts alone that the deeds make
pub told_made : (P : Event → Type 0) (Q : ℕ → AlertLine → Type 0) (w : ℕ) (next : ℕ → ℕ) → ((to n : ℕ) (a : AlertLine) → Q to a → P (Made w to n a)) → (deeds : List Deed) → AllDo P deeds → AllMake Q deeds → AllByRecursion P (told w next deeds)
told_made P Q w next m [] p q = tt
told_made P Q w next m (Does e ∷ deeds) p q = (p.0, told_made P Q w next m deeds p.1 q)
told_made P Q w next m (Makes to a ∷ deeds) p q = (m to (next to) a q.0, told_made P Q w (numbered next to) m deeds p q.1)

pub deeds_append : (workers me : ℕ) (xs ys : List Deed) → AreDeeds workers me xs → AreDeeds workers me ys → AreDeeds workers me (xs ++ ys)
deeds_append workers me [] ys a b = b
deeds_append workers me (Does e ∷ xs) ys a b = (a.0, deeds_append workers me xs ys a.1 b)
deeds_append workers me (Makes to l ∷ xs) ys a b = (a.0, deeds_append workers me xs ys a.1 b)

pub deeds_do : (workers me : ℕ) (P : Event → Type 0) → ((e : Event) → IsOfWorker me e → P e) → (deeds : List Deed) → AreDeeds workers me deeds → AllDo P deeds
deeds_do workers me P f [] a = tt
deeds_do workers me P f (Does e ∷ deeds) a = (f e a.0, deeds_do workers me P f deeds a.1)
deeds_do workers me P f (Makes to a ∷ deeds) b = deeds_do workers me P f deeds b.1

pub deeds_make : (workers me : ℕ) (deeds : List Deed) → AreDeeds workers me deeds → AllMake (AsksOwner workers) deeds
deeds_make workers me [] a = tt
deeds_make workers me (Does e ∷ deeds) a = deeds_make workers me deeds a.1
deeds_make workers me (Makes to l ∷ deeds) a = (a.0, deeds_make workers me deeds a.1)

-- ---- owners' steps

pub weave_nothing : (w : ℕ) (next : ℕ → ℕ) (es : List Event) → weave w next es [] ≡ es
weave_nothing w next [] = refl
weave_nothing w next (Granted v g slot to ∷ es) = ap (λ (l : List Event). Granted v g slot to ∷ l) (weave_nothing w next es)
weave_nothing w next (e ∷ es) = ap (λ (l : List Event). e ∷ l) (weave_nothing w next es)

-- so of each event, and of each alert, of an owner's part
abbrev pub PartEvents : (Event → Type 0) → OwnersPart → Type 0
PartEvents P p = AllEvents P p.sweeps × AllByRecursion P p.last.events

abbrev pub PartAlerts : (OutLine → Type 0) → OwnersPart → Type 0
PartAlerts Q p = AllAlerts Q p.sweeps × AllByRecursion Q p.last.alerts

-- where it is so, what follows from it is so too
pub all_events_of : (P Q : Event → Type 0) → ((e : Event) → P e → Q e) → (p : OwnersPart) → PartEvents P p → PartEvents Q p
all_events_of P Q f p a = (all_of (λ x. AllByRecursion P x.events) (λ x. AllByRecursion Q x.events) (λ x b. all_of P Q f x.events b) p.sweeps a.0, all_of P Q f p.last.events a.1)

pub all_alerts_of : (P Q : OutLine → Type 0) → ((a : OutLine) → P a → Q a) → (p : OwnersPart) → PartAlerts P p → PartAlerts Q p
all_alerts_of P Q f p a = (all_of (λ x. AllByRecursion P x.alerts) (λ x. AllByRecursion Q x.alerts) (λ x b. all_of P Q f x.alerts b) p.sweeps a.0, all_of P Q f p.last.alerts a.1)

module _ (P : Event → Type 0) (Q : OutLine → Type 0) (v : ℕ) (m : (n : ℕ) (a : OutLine) → Q a → P (Made v a.to n a.line)) where
  makes_made : (next : ℕ → ℕ) (alerts : List OutLine) → AllByRecursion Q alerts → AllByRecursion P (makes v next alerts)
  makes_made next [] q = tt
  makes_made next (a ∷ alerts) q = (m (next a.to) a q.0, makes_made (numbered next a.to) alerts q.1)

  -- what holds of an owner's events and of the making of its alerts holds of both in one list
  pub woven_made : (next : ℕ → ℕ) (es : List Event) (alerts : List OutLine) → AllByRecursion P es → AllByRecursion Q alerts → AllByRecursion P (weave v next es alerts)
  woven_made next [] alerts p q = makes_made next alerts q
  woven_made next (Granted w g slot to ∷ es) [] p q = (p.0, woven_made next es [] p.1 q)
  woven_made next (Granted w g slot to ∷ es) (a ∷ alerts) p q = (p.0, (m (next a.to) a q.0, woven_made (numbered next a.to) es alerts p.1 q.1))
  woven_made next (e ∷ es) alerts p q = (p.0, woven_made next es alerts p.1 q)

  -- and so of steps, one after the other
  pub steps_made : (next : ℕ → ℕ) (steps : List Step) → AllEvents P steps → AllAlerts Q steps → AllByRecursion P (steps_woven v next steps)
  steps_made next [] p q = tt
  steps_made next (x ∷ steps) p q =
      all_append P (weave v next x.events x.alerts) (steps_woven v (numbered_by next x.alerts) steps)
      (woven_made next x.events x.alerts p.0 q.0) (steps_made (numbered_by next x.alerts) steps p.1 q.1)

  -- and of an owner's part
  pub woven_part : (next : ℕ → ℕ) (p : OwnersPart) → PartEvents P p → PartAlerts Q p → AllByRecursion P (part_woven v next p)
  woven_part next p a b =
      all_append P (steps_woven v next p.sweeps) (woven v (next_behind next p.sweeps) p.last)
      (steps_made next p.sweeps a.0 b.0) (woven_made (next_behind next p.sweeps) p.last.events p.last.alerts a.1 b.1)

any_line : (alerts : List OutLine) → AllByRecursion (λ (a : OutLine). Unit {0}) alerts
any_line [] = tt
any_line (a ∷ alerts) = (tt, any_line alerts)

pub woven_all : (P : Event → Type 0) (v : ℕ) (next : ℕ → ℕ) → ((to n : ℕ) (a : AlertLine) → P (Made v to n a)) → (es : List Event) (alerts : List OutLine) → AllByRecursion P es → AllByRecursion P (weave v next es alerts)
woven_all P v next m es alerts p = woven_made P (λ (a : OutLine). Unit {0}) v (λ n a q. m a.to n a.line) next es alerts p (any_line alerts)

any_lines : (steps : List Step) → AllAlerts (λ (a : OutLine). Unit {0}) steps
any_lines [] = tt
any_lines (x ∷ steps) = (any_line x.alerts, any_lines steps)

pub woven_part_all : (P : Event → Type 0) (v : ℕ) (next : ℕ → ℕ) → ((to n : ℕ) (a : AlertLine) → P (Made v to n a)) → (p : OwnersPart) → PartEvents P p → AllByRecursion P (part_woven v next p)
woven_part_all P v next m p a = woven_part P (λ (a : OutLine). Unit {0}) v (λ n a q. m a.to n a.line) next p a (any_lines p.sweeps, any_line p.last.alerts)

-- ---- kinds

pub by_owner : (me : ℕ) (e : Event) → IsOfOwner me e → IsBy me e
by_owner me (Joined w c from k) p = eqb_of me w p
by_owner me (Parted w c from k) p = eqb_of me w p
by_owner me (Raised w t) p = eqb_of me w p
by_owner me (Stored w c id slot len exp kept members from r ct body) p = eqb_of me w p
by_owner me (Left w c id slot cause) p = eqb_of me w p
by_owner me (Looked w q from number c after floor found) p = eqb_of me w p
by_owner me (Edged w q from number k c floor last) p = eqb_of me w p
by_owner me (Granted w g slot to) p = eqb_of me w p
by_owner me (Freed w slot) p = eqb_of me w p
by_owner me (Removed w c last cause) p = eqb_of me w p
by_owner me e p = absurd p

pub unmade_owner : (me : ℕ) (e : Event) → IsOfOwner me e → IsUnmade e
unmade_owner me (Made w to n a) p = absurd p
unmade_owner me e p = tt

pub untaken_owner : (me : ℕ) (e : Event) → IsOfOwner me e → IsUntaken e
untaken_owner me (Took w from n kind) p = absurd p
untaken_owner me e p = tt

pub by_worker : (me : ℕ) (e : Event) → IsOfWorker me e → IsBy me e
by_worker me (Answered w r conn status info json close) p = eqb_of me w p
by_worker me (Started w k cur) p = eqb_of me w p
by_worker me (Released w owner g slot) p = eqb_of me w p
by_worker me (Sent w k i c id cur looks) p = eqb_of me w p
by_worker me (Ended w k cause) p = eqb_of me w p
by_worker me e p = absurd p

pub unmade_worker : (me : ℕ) (e : Event) → IsOfWorker me e → IsUnmade e
unmade_worker me (Made w to n a) p = absurd p
unmade_worker me e p = tt

pub untaken_worker : (me : ℕ) (e : Event) → IsOfWorker me e → IsUntaken e
untaken_worker me (Took w from n kind) p = absurd p
untaken_worker me e p = tt

pub aside_worker : (me : ℕ) (e : Event) → IsOfWorker me e → IsAside e
aside_worker me (Clock w t) p = absurd p
aside_worker me (Joined w c from k) p = absurd p
aside_worker me (Parted w c from k) p = absurd p
aside_worker me (Raised w t) p = absurd p
aside_worker me (Stored w c id slot len exp kept members from r ct body) p = absurd p
aside_worker me (Left w c id slot cause) p = absurd p
aside_worker me (Looked w q from number c after floor found) p = absurd p
aside_worker me (Edged w q from number k c floor last) p = absurd p
aside_worker me (Granted w g slot to) p = absurd p
aside_worker me (Freed w slot) p = absurd p
aside_worker me (Removed w c last cause) p = absurd p
aside_worker me (Made w to n a) p = absurd p
aside_worker me e p = tt

pub line_asked : (workers from to : ℕ) (a : AlertLine) → AsksOwner workers to a → IsLineTo workers from to a
line_asked workers from to (lines.Publish r c len timeout ct body) p = p
line_asked workers from to (lines.Look number c after fence) p = p
line_asked workers from to (lines.Edge number k c fence) p = p
line_asked workers from to (lines.Join c k) p = p
line_asked workers from to (lines.Part c k) p = p
line_asked workers from to (lines.Delete r c) p = p
line_asked workers from to (lines.Info r c) p = p
line_asked workers from to a p = absurd p

pub plain_asked : (workers to : ℕ) (a : AlertLine) → AsksOwner workers to a → IsPlainLine a
plain_asked workers to (lines.LookAnswer number q floor found g slot) p = absurd p
plain_asked workers to (lines.Notice c id g slot) p = absurd p
plain_asked workers to (lines.EdgeAnswer number q floor last) p = absurd p
plain_asked workers to (lines.Gone c subs) p = absurd p
plain_asked workers to a p = tt
