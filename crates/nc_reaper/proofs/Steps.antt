-- The events of steps, one behind the other.
use Rattle.std.proofs.Common.{◌≡◌, ◌<◌, ◌+◌, ℕ, Bool, true, false, List, [], ◌∷◌, ◌++◌, refl, sym, ap, subst, ◌∙◌, append_assoc, length, drop, get_or, fold}
use Rattle.std.proofs.lemmas.List.{append-nil, at_drop_more}
use Rattle.nc_types.specs.Message.{Message}
use Rattle.nc_journal.specs.declared.event.Event.{Event}
use Rattle.nc_alert.specs.declared.packet.Outgoing.{Outgoing}
use Rattle.nc_slots.specs.declared.slot.Slot.{Slot}
use Rattle.nc_owner.specs.declared.done.Done.{Done}
use Rattle.nc_owner.specs.State.{OwnerAt}
use Rattle.nc_owner.specs.AlertLines.{out_lines}
use Rattle.nc_owner.specs.OtherSteps.{touch_after}
use Rattle.nc_owner.specs.Remove.{after_removal, is_reaped, sweep_after, sweep_alerts, sweep_events, sweep_row}
use Rattle.nc_reaper.specs.Reap.{Step, Swept, step, step_of, steps_of, state, swept, sweep_step, events_of}

-- with a step more
pub events_push : (steps : List Step) (s : Step) → events_of (steps ++ s ∷ []) ≡ events_of steps ++ s.events
events_push [] s = append-nil s.events
events_push (x ∷ steps) s = ap (λ (es : List Event). x.events ++ es) (events_push steps s) ∙ sym (append_assoc x.events (events_of steps) s.events)

append_steps : {H : Type 0} (before : List (Done H)) (done : Done H) → steps_of (before ++ done ∷ []) ≡ steps_of before ++ step_of done ∷ []
append_steps [] done = refl
append_steps (x ∷ before) done = ap (λ (steps : List Step). step_of x ∷ steps) (append_steps before done)

-- with one more, that makes no alert
pub steps_push : {H : Type 0} (before after : List (Done H)) (done : Done H) → after ≡ before ++ done ∷ [] → done.alerts ≡ [] → steps_of after ≡ steps_of before ++ step done.events.events [] ∷ []
steps_push {H} before after done pushed empty =
    ap (λ (x : List (Done H)). steps_of x) pushed ∙ (append_steps before done ∙ ap (λ (x : List (Outgoing H)). steps_of before ++ step done.events.events (out_lines x) ∷ []) empty)

-- a channel more was swept, and what was done is told
pub one_swept : {H : Type 0} → (s s2 : OwnerAt) (row row2 : List (Slot Message)) (before after : List (Done H)) (done : Done H) (c : List ℕ)
    → done.events.events ≡ sweep_events c row s → out_lines done.alerts ≡ sweep_alerts c row s → s2 ≡ sweep_after c row s → row2 ≡ sweep_row c row s → after ≡ before ++ done ∷ []
    → state s2 row2 (steps_of after) ≡ swept (state s row (steps_of before)) c
one_swept {H} s s2 row row2 before after done c events alerts owner slots pushed =
    let steps : steps_of after ≡ steps_of before ++ sweep_step c row s ∷ [] = ap (λ (x : List (Done H)). steps_of x) pushed ∙ (append_steps before done ∙ λ i. steps_of before ++ step (events i) (alerts i) ∷ []) in
    λ i. record { owner = owner i; row = slots i; steps = steps i }

after_me : (goes : Bool) (c : List ℕ) (s : OwnerAt) → (after_removal goes c s).desk.me ≡ s.desk.me
after_me true c s = refl
after_me false c s = refl

-- an owner stays its worker's
pub sweep_me : (c : List ℕ) (row : List (Slot Message)) (s : OwnerAt) → (sweep_after c row s).desk.me ≡ s.desk.me
sweep_me c row s = after_me (is_reaped c row s) c (touch_after c row s)

-- one channel fewer is to be swept
pub next_swept : {H : Type 0} → (me : ℕ) (slots slots2 : ℕ → List (Slot Message)) (s s2 : OwnerAt) (before after : List (Done H)) (done : Done H) (names : List (List ℕ)) (i : ℕ) (c : List ℕ) → i < length names → c ≡ get_or names i c → s.desk.me ≡ me
    → done.events.events ≡ sweep_events c (slots s.desk.me) s → out_lines done.alerts ≡ sweep_alerts c (slots s.desk.me) s → s2 ≡ sweep_after c (slots s.desk.me) s → slots2 s.desk.me ≡ sweep_row c (slots s.desk.me) s → after ≡ before ++ done ∷ []
    → fold swept (state s2 (slots2 me) (steps_of after)) (drop (i + 1) names) ≡ fold swept (state s (slots me) (steps_of before)) (drop i names)
next_swept me slots slots2 s s2 before after done names i c lt is is_me events alerts owner row pushed =
    let one = subst (λ (m : ℕ). state s2 (slots2 m) (steps_of after) ≡ swept (state s (slots m) (steps_of before)) c) is_me (one_swept s s2 (slots s.desk.me) (slots2 s.desk.me) before after done c events alerts owner row pushed) in
    let x = state s (slots me) (steps_of before) in
    ap (λ (y : Swept). fold swept y (drop (i + 1) names)) one ∙ (ap (λ (n : List ℕ). fold swept x (n ∷ drop (i + 1) names)) is ∙ sym (at_drop_more (fold swept x) names i c lt))
