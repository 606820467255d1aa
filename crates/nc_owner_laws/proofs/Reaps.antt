-- A reap over histories.
use Rattle.std.proofs.Common.{◌≡◌, ℕ, Bool, true, false, List, [], ◌∷◌, ◌++◌, refl, sym, ap, ◌∙◌, subst, fold}
use Rattle.std.specs.List.{AllByRecursion}
use Rattle.std.proofs.lemmas.List.{append-nil}
use Rattle.nc_types.specs.Channel.{owner_of}
use Rattle.nc_types.specs.Message.{Message}
use Rattle.nc_journal.specs.History.{onto}
use Rattle.nc_journal.specs.declared.event.Event.{Event}
use Rattle.nc_buffer.specs.Buffer.{is_expired}
use Rattle.nc_slots.specs.declared.slot.Slot.{Slot}
use Rattle.nc_owner.specs.declared.poll.PollAnswer.{PollAnswer}
use Rattle.nc_owner.specs.State.{OwnerAt, bench_of, entries_of, opened}
use Rattle.nc_owner.specs.Leave.{leavers}
use Rattle.nc_owner.specs.Poll.{freed_events}
use Rattle.nc_owner.specs.Remove.{row_of_removal, is_reaped, sweep_row, sweep_after}
use Rattle.nc_owner.specs.OtherSteps.{touch_after, touched_row, polled_after, polled_row, polled_events, names_of}
use Rattle.nc_reaper.specs.Reap.{Step, Swept, state, swept, swept_all, sweep_step, polled_step, events_of}
use Rattle.nc_owner_laws.specs.HoldsKept.{HoldsFit}
use Rattle.nc_owner_laws.specs.Kinds.{IsOfOwner, AreOfOwner}
use Rattle.nc_owner_laws.specs.Reaping.{Keeps, steps_woven, next_behind, ReapKeeps, ReapHoldsFit}
use Rattle.nc_owner_laws.specs.Weave.{weave, numbered_by}
use Rattle.nc_owner_laws.proofs.Kept.{all_append}
use Rattle.nc_owner_laws.proofs.OwnerSteps as steps
use Rattle.nc_owner_laws.proofs.InOrder as order
use Rattle.nc_owner_laws.proofs.AnsweredOnce as answers
use Rattle.nc_owner_laws.proofs.EventKinds as kinds
use Rattle.nc_owner_laws.proofs.Removes.{is_me, sweep_keeps}
use Rattle.nc_owner_laws.proofs.Stamping.{onto_append}
use Rattle.nc_owner_laws.proofs.ToldPolls.{left_fits, polled_fits}

-- ---- steps one after the other

onto_steps : (w : ℕ) (next : ℕ → ℕ) (xs ys : List Step) (h : List Event) → onto (steps_woven w next (xs ++ ys)) h ≡ onto (steps_woven w (next_behind next xs) ys) (onto (steps_woven w next xs) h)
onto_steps w next [] ys h = refl
onto_steps w next (x ∷ xs) ys h =
    let one = weave w next x.events x.alerts in
    let later = numbered_by next x.alerts in
    onto_append one (steps_woven w later (xs ++ ys)) h
    ∙ onto_steps w later xs ys (onto one h)
    ∙ ap (λ (l : List Event). onto (steps_woven w (next_behind later xs) ys) l) (sym (onto_append one (steps_woven w later xs) h))

-- a step more is put on behind the others
pub step_more : (w : ℕ) (next : ℕ → ℕ) (xs : List Step) (x : Step) (h : List Event) → onto (weave w (next_behind next xs) x.events x.alerts) (onto (steps_woven w next xs) h) ≡ onto (steps_woven w next (xs ++ x ∷ [])) h
step_more w next xs x h =
    ap (λ (l : List Event). onto l (onto (steps_woven w next xs) h)) (sym (append-nil (weave w (next_behind next xs) x.events x.alerts)))
    ∙ sym (onto_steps w next xs (x ∷ []) h)

-- what is so of the events of each step is so of all
pub all_of_steps : (P : Event → Type 0) (xs : List Step) → AllByRecursion (λ x. AllByRecursion P x.events) xs → AllByRecursion P (events_of xs)
all_of_steps P [] a = tt
all_of_steps P (x ∷ xs) a = all_append P x.events (events_of xs) a.0 (all_of_steps P xs a.1)

-- ---- the sweeps, and the polls

module _ (me workers slots first : ℕ) (next : ℕ → ℕ) (h : List Event) where
  record Sweeping (x : Swept) : Type 0 where
    keeps : Keeps me workers slots first x.row (onto (steps_woven me next x.steps) h) x.owner
    of_owner : AllByRecursion (λ y. AreOfOwner me y.events) x.steps

  is_mine : (x : Swept) → Sweeping x → x.owner.desk.me ≡ me
  is_mine x k = is_me me workers slots first x.row (onto (steps_woven me next x.steps) h) x.owner k.keeps.stands

  -- a step more
  put_on : (xs : List Step) (x : Step) (v : ℕ) (row : List (Slot Message)) (s : OwnerAt) → v ≡ me → Keeps me workers slots first row (onto (weave v (next_behind next xs) x.events x.alerts) (onto (steps_woven me next xs) h)) s
      → Keeps me workers slots first row (onto (steps_woven me next (xs ++ x ∷ [])) h) s
  put_on xs x v row s is k =
      subst (λ (l : List Event). Keeps me workers slots first row l s)
      (ap (λ (w : ℕ). onto (weave w (next_behind next xs) x.events x.alerts) (onto (steps_woven me next xs) h)) is ∙ step_more me next xs x h) k

  sweep : (x : Swept) (c : List ℕ) → owner_of workers c ≡ me → Sweeping x → Sweeping (swept x c)
  sweep x c mine k =
      let is = is_mine x k in
      let one = sweep_step c x.row x.owner in
      record {
        keeps = put_on x.steps one x.owner.desk.me (sweep_row c x.row x.owner) (sweep_after c x.row x.owner) is
            (sweep_keeps me workers slots first (next_behind next x.steps) c x.row (onto (steps_woven me next x.steps) h) x.owner mine k.keeps);
        of_owner = all_append (λ y. AreOfOwner me y.events) x.steps (one ∷ []) k.of_owner (subst (λ (v : ℕ). AreOfOwner v one.events) is ((kinds.owners_kinds x.row x.owner).sweep c), tt);
      }

  sweep_all : (names : List (List ℕ)) (x : Swept) → AllByRecursion (λ c. owner_of workers c ≡ me) names → Sweeping x → Sweeping (fold swept x names)
  sweep_all [] x mine k = k
  sweep_all (c ∷ names) x mine k = sweep_all names (swept x c) mine.1 (sweep x c mine.0 k)

pub reap_keeps : ReapKeeps
reap_keeps me workers slots first next exact counts polls row new_row h told s new owns r k =
    let x = swept_all row s in
    let z = sweep_all me workers slots first next h (names_of s) (state s row []) owns (record { keeps = k; of_owner = tt }) in
    let is = is_mine me workers slots first next h x z in
    let more = polled_step s.desk.me polls in
    let before = onto (steps_woven me next x.steps) h in
    let o = z.keeps in
    let v = x.owner.desk.me in
    let numbers = next_behind next x.steps in
    let same : v ≡ s.desk.me = is ∙ sym (is_me me workers slots first row h s k.stands) in
    let last : Keeps me workers slots first (polled_row polls x.row) (onto (weave v numbers (polled_events polls x.owner) []) before) (polled_after polls x.owner) = record {
      stands = (steps.others_stand me workers slots first numbers x.row before x.owner o.stands).polled polls r.polls.each;
      ordered = (order.others_in_order me workers slots first numbers x.row before x.owner o.stands o.ordered).polled polls;
      new_answers = (answers.others_answer_new me workers slots first numbers x.row before x.owner o.stands o.ordered o.new_answers).polled polls;
    } in
    let freed : Keeps me workers slots first (polled_row polls x.row) (onto (weave v numbers more.events more.alerts) before) (polled_after polls x.owner) =
    subst (λ (w : ℕ). Keeps me workers slots first (polled_row polls x.row) (onto (weave v numbers (freed_events w polls) []) before) (polled_after polls x.owner)) same last in
    let all : Keeps me workers slots first (polled_row polls x.row) (onto (steps_woven me next (x.steps ++ more ∷ [])) h) (polled_after polls x.owner) =
    put_on me workers slots first next h x.steps more v (polled_row polls x.row) (polled_after polls x.owner) is freed in
    let mine : AllByRecursion (λ y. AreOfOwner me y.events) (x.steps ++ more ∷ []) =
    all_append (λ y. AreOfOwner me y.events) x.steps (more ∷ []) z.of_owner (subst (λ (w : ℕ). AreOfOwner w (freed_events s.desk.me polls)) (is_me me workers slots first row h s k.stands) ((kinds.owners_kinds row s).polled polls), tt) in
    record {
      keeps = subst (λ (l : List Step). Keeps me workers slots first new_row (onto (steps_woven me next l) h) new) (sym r.happened)
          (subst (λ (y : OwnerAt). Keeps me workers slots first new_row (onto (steps_woven me next (x.steps ++ more ∷ [])) h) y) (sym r.owner)
          (subst (λ (y : List (Slot Message)). Keeps me workers slots first y (onto (steps_woven me next (x.steps ++ more ∷ [])) h) (polled_after polls x.owner)) (sym r.slots) all));
      of_owner = subst (λ (l : List Step). AreOfOwner me (events_of l)) (sym r.happened) (all_of_steps (IsOfOwner me) (x.steps ++ more ∷ []) mine);
    }

-- ---- the holds

removal_holds : (goes : Bool) (c : List ℕ) (row : List (Slot Message)) (counts : List ℕ) (s : OwnerAt) → HoldsFit row counts → HoldsFit (row_of_removal goes c row s) counts
removal_holds true c row counts s f = left_fits (entries_of (opened c s)) row counts f
removal_holds false c row counts s f = f

touch_holds : (c : List ℕ) (row : List (Slot Message)) (counts : List ℕ) (s : OwnerAt) → HoldsFit row counts → HoldsFit (touched_row c row s) counts
touch_holds c row counts s f = left_fits (leavers (is_expired s.desk.clock) (bench_of c row s)) row counts f

sweep_holds : (c : List ℕ) (row : List (Slot Message)) (counts : List ℕ) (s : OwnerAt) → HoldsFit row counts → HoldsFit (sweep_row c row s) counts
sweep_holds c row counts s f = removal_holds (is_reaped c row s) c (touched_row c row s) counts (touch_after c row s) (touch_holds c row counts s f)

sweeps_hold : (counts : List ℕ) (names : List (List ℕ)) (x : Swept) → HoldsFit x.row counts → HoldsFit (fold swept x names).row counts
sweeps_hold counts [] x f = f
sweeps_hold counts (c ∷ names) x f = sweeps_hold counts names (swept x c) (sweep_holds c x.row counts x.owner f)

pub reap_holds_fit : ReapHoldsFit
reap_holds_fit counts polls row new_row told s new r f =
    let x = swept_all row s in
    subst (λ (y : List (Slot Message)). HoldsFit y counts) (sym (r.slots ∙ ap (λ (a : List PollAnswer). polled_row a x.row) (r.polls.told refl)))
    (polled_fits x.owner.desk.retired x.row counts (sweeps_hold counts (names_of s) (state s row []) f))
