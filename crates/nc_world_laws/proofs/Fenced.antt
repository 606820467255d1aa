-- What an owner does with a look or an edge behind a fence: the floor's rise, if any, and then what it would do on the raised owner.
use Rattle.std.proofs.Common.{◌≡◌, ℕ, List, [], ◌∷◌, ◌++◌, refl, sym, ap, ◌∙◌, subst}
use Rattle.std.specs.List.{AllByRecursion}
use Rattle.nc_types.specs.Id.{Id}
use Rattle.nc_journal.specs.History.{onto}
use Rattle.nc_journal.specs.declared.event.Event.{Event}
use Rattle.nc_journal.specs.declared.event.Event.TheVariants.{Raised, Made}
use Rattle.nc_journal.specs.declared.alert.AlertLine.TheVariants as lines
use Rattle.nc_owner.specs.State.{OwnerAt}
use Rattle.nc_owner.specs.Publish.{Polls}
use Rattle.nc_owner.specs.Look.{look_events, look_alerts}
use Rattle.nc_owner.specs.Fence.{with_floor, raise_events}
use Rattle.nc_owner.specs.Edge.{edged_event, edge_line, edge_events, edge_alerts}
use Rattle.nc_owner.specs.OtherSteps.{touch_events_of, touch_after}
use Rattle.nc_owner_laws.specs.Weave.{weave}
use Rattle.nc_owner_laws.proofs.Kept.{all_append}
use Rattle.nc_owner_laws.proofs.Weaving.{weave_nothing}
use Rattle.nc_owner_laws.proofs.Fences.{raised_so, raise_are, onto_raised, weave_raised, edge_are, weave_edge, onto_edge}
use Rattle.nc_worker_state.specs.Owned.{Holding, owned_by}
use Rattle.nc_worker_state.specs.Worker.{woven}

-- ---- what is the same behind a fence

-- what a rise of the floor leaves, a fence leaves
pub same_raised : {X : Type 0} (f : List Event → X) (fence : ℕ) (s : OwnerAt) (h : List Event) → f (Raised s.desk.me fence ∷ h) ≡ f h → f (onto (raise_events fence s) h) ≡ f h
same_raised f fence s h same = raised_so (λ es x. f (onto es h) ≡ f h) fence s refl (λ _. same)

-- so it is before other events
pub same_behind : {X : Type 0} (f : List Event → X) (fence : ℕ) (s : OwnerAt) (es : List Event) → f (Raised s.desk.me fence ∷ es) ≡ f es → f (raise_events fence s ++ es) ≡ f es
same_behind f fence s es same = raised_so (λ xs x. f (xs ++ es) ≡ f es) fence s refl (λ _. same)

-- what a rise of the floor keeps, a fence keeps
pub keeps_raised : (P : List Event → Type 0) (fence : ℕ) (s : OwnerAt) (h : List Event) → P h → P (Raised s.desk.me fence ∷ h) → P (onto (raise_events fence s) h)
keeps_raised P fence s h none one = raised_so (λ es x. P (onto es h)) fence s none (λ _. one)

-- ---- all events of a look or an edge

module _ (P : Event → Type 0) (polls : Polls) (from number : ℕ) (c : List ℕ) (fence : ℕ) (s : Holding) (raised : P (Raised s.owner.desk.me fence)) where
  -- what holds of a rise of the floor and of the look's own events holds of all
  pub look_all : (id : Id) → AllByRecursion P (look_events from number c id s.row (with_floor fence s.owner)) → AllByRecursion P (owned_by polls from (lines.Look number c id fence) s).events
  look_all id look = all_append P (raise_events fence s.owner) (look_events from number c id s.row (with_floor fence s.owner)) (raise_are P fence s.owner raised) look

  -- what holds of a rise of the floor, of a touch and of the edge holds of all
  pub edge_all : (k : ℕ) → AllByRecursion P (touch_events_of c s.row s.owner) → P (edged_event from number k c (touch_after c s.row (with_floor fence s.owner))) → AllByRecursion P (owned_by polls from (lines.Edge number k c fence) s).events
  edge_all k touch one = all_append P (raise_events fence s.owner) (edge_events from number k c s.row (with_floor fence s.owner)) (raise_are P fence s.owner raised) (edge_are P from number k c s.row (with_floor fence s.owner) touch one)

-- ---- their events with the alerts that are made

module _ (me : ℕ) (next : ℕ → ℕ) (polls : Polls) (from number : ℕ) (c : List ℕ) (fence : ℕ) (s : Holding) where
  -- the rise comes first
  pub look_woven : (id : Id) → woven me next (owned_by polls from (lines.Look number c id fence) s)
      ≡ raise_events fence s.owner ++ weave me next (look_events from number c id s.row (with_floor fence s.owner)) (look_alerts from number c id s.row (with_floor fence s.owner))
  look_woven id = weave_raised me next fence s.owner (look_events from number c id s.row (with_floor fence s.owner)) (look_alerts from number c id s.row (with_floor fence s.owner))

  pub look_onto : (id : Id) (h : List Event) → onto (woven me next (owned_by polls from (lines.Look number c id fence) s)) h
      ≡ onto (weave me next (look_events from number c id s.row (with_floor fence s.owner)) (look_alerts from number c id s.row (with_floor fence s.owner))) (onto (raise_events fence s.owner) h)
  look_onto id h = onto_raised me next fence s.owner (look_events from number c id s.row (with_floor fence s.owner)) (look_alerts from number c id s.row (with_floor fence s.owner)) h

  -- then what leaves at the touch, the edge, and its answer
  pub edge_woven : (k : ℕ) → woven me next (owned_by polls from (lines.Edge number k c fence) s)
      ≡ raise_events fence s.owner ++ (touch_events_of c s.row s.owner
      ++ edged_event from number k c (touch_after c s.row (with_floor fence s.owner)) ∷ Made me from (next from) (edge_line from number c (touch_after c s.row (with_floor fence s.owner))).line ∷ [])
  edge_woven k =
      weave_raised me next fence s.owner (edge_events from number k c s.row (with_floor fence s.owner)) (edge_alerts from number c s.row (with_floor fence s.owner))
      ∙ ap (λ (l : List Event). raise_events fence s.owner ++ l) (weave_edge me next from number k c s.row (with_floor fence s.owner))

  pub edge_onto : (k : ℕ) (h : List Event) → onto (woven me next (owned_by polls from (lines.Edge number k c fence) s)) h
      ≡ Made me from (next from) (edge_line from number c (touch_after c s.row (with_floor fence s.owner))).line ∷ edged_event from number k c (touch_after c s.row (with_floor fence s.owner))
      ∷ onto (touch_events_of c s.row s.owner) (onto (raise_events fence s.owner) h)
  edge_onto k h =
      let x = with_floor fence s.owner in
      let y = touch_after c s.row x in
      onto_raised me next fence s.owner (edge_events from number k c s.row x) (edge_alerts from number c s.row x) h
      ∙ onto_edge me next next from number k c s.row x (onto (raise_events fence s.owner) h)
      ∙ ap (λ (l : List Event). Made me from (next from) (edge_line from number c y).line ∷ edged_event from number k c y ∷ onto l (onto (raise_events fence s.owner) h)) (weave_nothing me next (touch_events_of c s.row s.owner))

  -- what is so behind a rise of the floor, where there is one, and then behind the look, is so behind the whole
  pub look_behind : (P : List Event → Type 0) (id : Id) (h : List Event)
      → P (onto (weave me next (look_events from number c id s.row (with_floor fence s.owner)) (look_alerts from number c id s.row (with_floor fence s.owner))) (onto (raise_events fence s.owner) h))
      → P (onto (woven me next (owned_by polls from (lines.Look number c id fence) s)) h)
  look_behind P id h p = subst P (sym (look_onto id h)) p

  pub edge_behind : (P : List Event → Type 0) (k : ℕ) (h : List Event)
      → P (Made me from (next from) (edge_line from number c (touch_after c s.row (with_floor fence s.owner))).line ∷ edged_event from number k c (touch_after c s.row (with_floor fence s.owner))
      ∷ onto (touch_events_of c s.row s.owner) (onto (raise_events fence s.owner) h))
      → P (onto (woven me next (owned_by polls from (lines.Edge number k c fence) s)) h)
  edge_behind P k h p = subst P (sym (edge_onto k h)) p
