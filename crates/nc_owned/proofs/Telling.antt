-- Steps are told, one behind the other.
use Rattle.std.proofs.Common.{◌≡◌, ℕ, List, [], ◌∷◌, ◌++◌, refl, sym, ◌∙◌, ap, subst, append_assoc}
use Rattle.std.specs.List.{AllByRecursion}
use Rattle.std.proofs.lemmas.List.{append-nil}
use Rattle.nc_journal.specs.declared.event.Event.{Event}
use Rattle.nc_journal.specs.declared.event.Event.TheVariants.{Granted, Made}
use Rattle.nc_slots.specs.Slots.{HoldAt}
use Rattle.nc_owner.specs.AlertLines.{OutLine, out_lines}
use Rattle.nc_owner.specs.declared.done.Done.{Done}
use Rattle.nc_reaper.specs.Reap.{Step, steps_of}
use Rattle.nc_owner_laws.specs.Reaping.{steps_woven, next_behind}
use Rattle.nc_owner_laws.specs.Weave.{weave, makes, numbered, numbered_by}
use Rattle.nc_worker_state.specs.Deed.{next_after}
use Rattle.nc_outbox.specs.Outboxes.{next_of}
use Rattle.nc_scribe.specs.Kinds.{AreAside}
use Rattle.nc_scribe.specs.Scribe.{ScribeAt, TellsMore, KeepsOwn, AllGranted}
use Rattle.nc_scribe.proofs.Story.{tells_on, tells_next, tells_none, tells_same}

-- ---- the numbers behind a weave

numbers_made : (w : ℕ) (next : ℕ → ℕ) (alerts : List OutLine) → next_after next (makes w next alerts) ≡ numbered_by next alerts
numbers_made w next [] = refl
numbers_made w next (a ∷ alerts) = numbers_made w (numbered next a.to) alerts

numbers_woven : (w : ℕ) (next : ℕ → ℕ) (es : List Event) (alerts : List OutLine) → AreAside es → next_after next (weave w next es alerts) ≡ numbered_by next alerts
numbers_woven w next [] alerts aside = numbers_made w next alerts
numbers_woven w next (Granted v g slot to ∷ es) [] aside = numbers_woven w next es [] aside.1
numbers_woven w next (Granted v g slot to ∷ es) (a ∷ alerts) aside = numbers_woven w (numbered next a.to) es alerts aside.1
numbers_woven w next (Made v to n a ∷ es) alerts aside = absurd cc
numbers_woven w next (e ∷ es) alerts aside = numbers_woven w next es alerts aside.1

-- ---- a step behind others

pub steps_append : (w : ℕ) (next : ℕ → ℕ) (xs : List Step) (x : Step) → steps_woven w next (xs ++ x ∷ []) ≡ steps_woven w next xs ++ weave w (next_behind next xs) x.events x.alerts
steps_append w next [] x = append-nil (weave w next x.events x.alerts)
steps_append w next (y ∷ xs) x =
    let one = weave w next y.events y.alerts in
    let later = numbered_by next y.alerts in
    ap (λ (l : List Event). one ++ l) (steps_append w later xs x) ∙ sym (append_assoc one (steps_woven w later xs) (weave w (next_behind later xs) x.events x.alerts))

-- ---- all steps are told

module _ {H : Type 0} where
  -- each hold that the alerts of some steps carry is of the worker's slot that its grant names
  abbrev pub AreGranted : (H → HoldAt) → ℕ → List (Done H) → Type 0
  AreGranted held me steps = AllByRecursion (λ (done : Done H). AllGranted held me done.alerts) steps

  -- the events of some steps make nothing
  abbrev pub AllAside : List (Done H) → Type 0
  AllAside steps = AllByRecursion (λ (done : Done H). AreAside done.events.events) steps

  -- some steps were told, and the rest is left
  pub record TellsSteps (old new : ScribeAt H) (steps left : List (Done H)) : Type 0 where
    pub part : List Event
    pub woven : part ++ steps_woven new.me (next_of new.outboxes) (steps_of left) ≡ steps_woven old.me (next_of old.outboxes) (steps_of steps)
    pub tells : TellsMore old new part
    pub own : (held : H → HoldAt) → AreGranted held old.me steps → KeepsOwn held old new
    pub granted : (held : H → HoldAt) → AreGranted held old.me steps → AreGranted held new.me left

  pub steps_none : (a : ScribeAt H) (steps : List (Done H)) → TellsSteps a a steps steps
  steps_none a steps = record { part = []; woven = refl; tells = tells_none a; own = λ held all own. own; granted = λ held all. all }

  -- one more was told
  pub steps_next : {a s t : ScribeAt H} {steps left : List (Done H)} {done : Done H} → AreAside done.events.events → TellsSteps a s steps (done ∷ left)
      → TellsMore s t (weave s.me (next_of s.outboxes) done.events.events (out_lines done.alerts)) → ((held : H → HoldAt) → AllGranted held s.me done.alerts → KeepsOwn held s t) → TellsSteps a t steps left
  steps_next {a} {s} {t} {steps} {left} {done} aside p q own =
      let one = weave s.me (next_of s.outboxes) done.events.events (out_lines done.alerts) in
      let numbers : next_of t.outboxes ≡ numbered_by (next_of s.outboxes) (out_lines done.alerts) = tells_next q ∙ numbers_woven s.me (next_of s.outboxes) done.events.events (out_lines done.alerts) aside in
      record {
        part = p.part ++ one;
        woven = append_assoc p.part one _ ∙ (ap (λ (l : List Event). p.part ++ (one ++ l)) (λ i. steps_woven (q.me i) (numbers i) (steps_of left)) ∙ p.woven);
        tells = tells_on p.tells q;
        own = λ held all before. own held (p.granted held all).0 (p.own held all before);
        granted = λ held all. subst (λ (m : ℕ). AreGranted held m left) (sym q.me) (p.granted held all).1;
      }

  -- nothing is left
  pub steps_told : {a s : ScribeAt H} {steps left : List (Done H)} → left ≡ [] → TellsSteps a s steps left → TellsMore a s (steps_woven a.me (next_of a.outboxes) (steps_of steps))
  steps_told {a} {s} {steps} {left} none p =
      tells_same (sym (append-nil p.part) ∙ (ap (λ (l : List (Done H)). p.part ++ steps_woven s.me (next_of s.outboxes) (steps_of l)) (sym none) ∙ p.woven)) p.tells
