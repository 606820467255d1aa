-- The steps of some events put together.
use Rattle.std.proofs.Common.{◌≡◌, ℕ, true, false, cond, List, [], ◌∷◌, ◌++◌, None, refl, ap, ◌∙◌, sym, subst}
use Rattle.std.specs.List.{AllByRecursion}
use Rattle.nc_journal.specs.History.{onto}
use Rattle.nc_journal.specs.declared.event.Event.{Event}
use Rattle.nc_journal.specs.declared.event.Event.TheVariants.{Clock, Opened, Got, Asked, Subscribed, Took, Pending, Quiet}
use Rattle.nc_owner_laws.specs.Kinds.{IsOfOwner}
use Rattle.nc_history.specs.Steps.{begins, step_front, AtEachStep}
use Rattle.nc_world_laws.proofs.WorkerKinds.{IsOfWorker}

-- no step begins with it
abbrev pub IsInner : Event → Type 0
IsInner e = begins e ≡ false

pub inner_owner : (me : ℕ) (e : Event) → IsOfOwner me e → IsInner e
inner_owner me (Clock w t) p = absurd p
inner_owner me (Opened w conn) p = absurd p
inner_owner me (Got w conn bytes) p = absurd p
inner_owner me (Asked w r None act list status rule) p = absurd p
inner_owner me (Subscribed w k None list mode start timeout close) p = absurd p
inner_owner me (Took w from n kind) p = absurd p
inner_owner me (Pending n) p = absurd p
inner_owner me Quiet p = absurd p
inner_owner me e p = refl

pub inner_worker : (me : ℕ) (e : Event) → IsOfWorker me e → IsInner e
inner_worker me (Clock w t) p = absurd p
inner_worker me (Opened w conn) p = absurd p
inner_worker me (Got w conn bytes) p = absurd p
inner_worker me (Asked w r None act list status rule) p = absurd p
inner_worker me (Subscribed w k None list mode start timeout close) p = absurd p
inner_worker me (Took w from n kind) p = absurd p
inner_worker me (Pending n) p = absurd p
inner_worker me Quiet p = absurd p
inner_worker me e p = refl

-- inner events are the front of a step as a whole
front_inner : (es : List Event) → AllByRecursion IsInner es → step_front es ≡ es
front_inner [] i = refl
front_inner (e ∷ es) i = ap (λ b. cond b [] (e ∷ step_front es)) i.0 ∙ ap (λ (l : List Event). e ∷ l) (front_inner es i.1)

-- events that are none, or begin with a step
abbrev pub IsCut : List Event → Type 0
IsCut [] = Unit {0}
IsCut (e ∷ es) = begins e ≡ true

front_cut : (es : List Event) → IsCut es → step_front es ≡ []
front_cut [] c = refl
front_cut (e ∷ es) c = ap (λ b. cond b [] (e ∷ step_front es)) c

front_append : (es fs : List Event) → IsCut fs → step_front (es ++ fs) ≡ step_front es
front_append [] fs c = front_cut fs c
front_append (e ∷ es) fs c = ap (λ (l : List Event). cond (begins e) [] (e ∷ l)) (front_append es fs c)

pub cut_append : (P : List Event → Event → List Event → Type 0) (es fs h : List Event) → IsCut fs → AtEachStep P h es → AtEachStep P (onto es h) fs → AtEachStep P h (es ++ fs)
cut_append P [] fs h c a b = b
cut_append P (e ∷ es) fs h c a b = (subst (P h e) (sym (front_append es fs c)) a.0, cut_append P es fs (e ∷ h) c a.1 b)

-- events inside a step tell nothing by themselves
pub cut_inner : (P : List Event → Event → List Event → Type 0) → ((h : List Event) (e : Event) (es : List Event) → IsInner e → P h e es) → (es h : List Event) → AllByRecursion IsInner es → AtEachStep P h es
cut_inner P inner [] h i = tt
cut_inner P inner (e ∷ es) h i = (inner h e (step_front es) i.0, cut_inner P inner es (e ∷ h) i.1)

-- a step
pub cut_step : (P : List Event → Event → List Event → Type 0) → ((h : List Event) (e : Event) (es : List Event) → IsInner e → P h e es) → (e : Event) (es h : List Event) → AllByRecursion IsInner es → P h e es → AtEachStep P h (e ∷ es)
cut_step P inner e es h i p = (subst (P h e) (sym (front_inner es i)) p, cut_inner P inner es (e ∷ h) i)
