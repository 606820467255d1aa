-- All channels of an owner are swept, and a channel is deleted.
use Rattle.std.proofs.Common.{◌≡◌, ℕ, Bool, true, false, cond, List, [], ◌∷◌, ◌++◌, Some, None, refl, sym, ◌∙◌, subst, fold, map}
use Rattle.std.specs.List.{AllByRecursion}
use Rattle.nc_types.specs.Message.{Message}
use Rattle.nc_types.specs.declared.info.Info.{Info}
use Rattle.nc_alert.specs.declared.packet.Outgoing.{Outgoing}
use Rattle.nc_slots.specs.declared.slot.Slot.{Slot}
use Rattle.nc_slots.specs.Slots.{HoldAt}
use Rattle.nc_owner.specs.declared.done.Done.{Done}
use Rattle.nc_owner.specs.declared.member.Member.{Member}
use Rattle.nc_owner.specs.declared.poll.PollAnswer.{PollAnswer}
use Rattle.nc_owner.specs.AlertLines.{OutLine, out_lines}
use Rattle.nc_owner.specs.OtherSteps.{names_of, touch_after, touched_of}
use Rattle.nc_owner.specs.Publish.{info_of}
use Rattle.nc_owner.specs.Remove.{after_removal, alerts_of_removal, concerned, delete_after, delete_alerts, delete_answer, delete_line, gone_line, is_reaped, sweep_events}
use Rattle.nc_owner.specs.State.{OwnerAt, exists, opened}
use Rattle.nc_reaper.specs.Reap.{Step, Swept, polled_step, state, steps_of, sweep_step, swept, swept_all}
use Rattle.nc_reaper.proofs.Steps.{sweep_me}
use Rattle.nc_owner_laws.specs.OwnerFits.{OwnerFits}
use Rattle.nc_owner_laws.specs.Kinds.{AreOfOwner}
use Rattle.nc_owner_laws.proofs.Kept.{all_append}
use Rattle.nc_owner_laws.proofs.Steps.{sweep_fits}
use Rattle.nc_owner_laws.proofs.EventKinds.{owners_kinds}
use Rattle.nc_scribe.specs.Scribe.{AllGranted}
use Rattle.nc_owned.proofs.Shares.{all_aside, has_grant, no_grant}
use Rattle.nc_owned.proofs.Telling.{AllAside, AreGranted}

-- ---- an owner stays its worker's, and fits its slots

pub sweeps_me : (names : List (List ℕ)) (x : Swept) → (fold swept x names).owner.desk.me ≡ x.owner.desk.me
sweeps_me [] x = refl
sweeps_me (c ∷ names) x = sweeps_me names (swept x c) ∙ sweep_me c x.row x.owner

pub sweeps_fit : (names : List (List ℕ)) (x : Swept) → OwnerFits x.row x.owner → OwnerFits (fold swept x names).row (fold swept x names).owner
sweeps_fit [] x f = f
sweeps_fit (c ∷ names) x f = sweeps_fit names (swept x c) (sweep_fits c x.row x.owner f)

removal_me : (goes : Bool) (c : List ℕ) (s : OwnerAt) → (after_removal goes c s).desk.me ≡ s.desk.me
removal_me true c s = refl
removal_me false c s = refl

pub delete_me : (c : List ℕ) (row : List (Slot Message)) (s : OwnerAt) → (delete_after c row s).desk.me ≡ s.desk.me
delete_me c row s = removal_me (exists c s) c (touch_after c row s)

-- ---- alerts of removals carry no hold

abbrev CarriesNone : OutLine → Type 0
CarriesNone a = has_grant a.line ≡ false

gones_carry : (c : List ℕ) (members : List Member) (ws : List ℕ) → AllByRecursion CarriesNone (map (gone_line c members) ws)
gones_carry c members [] = tt
gones_carry c members (w ∷ ws) = (refl, gones_carry c members ws)

removal_carries : (goes : Bool) (c : List ℕ) (s : OwnerAt) → AllByRecursion CarriesNone (alerts_of_removal goes c s)
removal_carries true c s = gones_carry c (opened c s).members (concerned (opened c s))
removal_carries false c s = tt

answer_carries : (b : Bool) (from r : ℕ) (info : Info) → CarriesNone (cond b (delete_answer from r 200 (Some info)) (delete_answer from r 404 None))
answer_carries true from r info = refl
answer_carries false from r info = refl

delete_carries : (from r : ℕ) (c : List ℕ) (row : List (Slot Message)) (s : OwnerAt) → AllByRecursion CarriesNone (delete_alerts from r c row s)
delete_carries from r c row s =
    all_append CarriesNone (alerts_of_removal (exists c s) c (touch_after c row s)) (delete_line from r c row s ∷ [])
    (removal_carries (exists c s) c (touch_after c row s)) (answer_carries (exists c s) from r (info_of (touched_of c row s).channel), tt)

-- ---- the steps of a reap make no alert but by their alerts, which carry no hold

abbrev IsPlain : ℕ → Step → Type 0
IsPlain w x = AreOfOwner w x.events × AllByRecursion CarriesNone x.alerts

sweeps_plain : (w : ℕ) (names : List (List ℕ)) (x : Swept) → x.owner.desk.me ≡ w → AllByRecursion (IsPlain w) x.steps → AllByRecursion (IsPlain w) (fold swept x names).steps
sweeps_plain w [] x is a = a
sweeps_plain w (c ∷ names) x is a =
    let events = subst (λ (v : ℕ). AreOfOwner v (sweep_events c x.row x.owner)) is ((owners_kinds x.row x.owner).sweep c) in
    let alerts = removal_carries (is_reaped c x.row x.owner) c (touch_after c x.row x.owner) in
    sweeps_plain w names (swept x c) (sweep_me c x.row x.owner ∙ is) (all_append (IsPlain w) x.steps (sweep_step c x.row x.owner ∷ []) a ((events, alerts), tt))

reap_plain : (polls : List PollAnswer) (row : List (Slot Message)) (s : OwnerAt) → AllByRecursion (IsPlain s.desk.me) ((swept_all row s).steps ++ polled_step s.desk.me polls ∷ [])
reap_plain polls row s =
    all_append (IsPlain s.desk.me) (swept_all row s).steps (polled_step s.desk.me polls ∷ []) (sweeps_plain s.desk.me (names_of s) (state s row []) refl tt) (((owners_kinds row s).polled polls, tt), tt)

module _ {H : Type 0} where
  none_carried : (held : H → HoldAt) (me : ℕ) (os : List (Outgoing H)) → AllByRecursion CarriesNone (out_lines os) → AllGranted held me os
  none_carried held me [] all = tt
  none_carried held me (o ∷ os) all = (no_grant held me o.alert all.0, none_carried held me os all.1)

  plain_aside : (w : ℕ) (steps : List (Done H)) → AllByRecursion (IsPlain w) (steps_of steps) → AllAside steps
  plain_aside w [] all = tt
  plain_aside w (done ∷ steps) all = (all_aside w done.events.events all.0.0, plain_aside w steps all.1)

  plain_granted : (held : H → HoldAt) (me w : ℕ) (steps : List (Done H)) → AllByRecursion (IsPlain w) (steps_of steps) → AreGranted held me steps
  plain_granted held me w [] all = tt
  plain_granted held me w (done ∷ steps) all = (none_carried held me done.alerts all.0.1, plain_granted held me w steps all.1)

  -- so it is where these are the steps
  pub reap_aside : (polls : List PollAnswer) (row : List (Slot Message)) (s : OwnerAt) (steps : List (Done H)) → steps_of steps ≡ (swept_all row s).steps ++ polled_step s.desk.me polls ∷ [] → AllAside steps
  reap_aside polls row s steps is = plain_aside s.desk.me steps (subst (λ (l : List Step). AllByRecursion (IsPlain s.desk.me) l) (sym is) (reap_plain polls row s))

  pub reap_granted : (held : H → HoldAt) (me : ℕ) (polls : List PollAnswer) (row : List (Slot Message)) (s : OwnerAt) (steps : List (Done H)) → steps_of steps ≡ (swept_all row s).steps ++ polled_step s.desk.me polls ∷ []
      → AreGranted held me steps
  reap_granted held me polls row s steps is = plain_granted held me s.desk.me steps (subst (λ (l : List Step). AllByRecursion (IsPlain s.desk.me) l) (sym is) (reap_plain polls row s))

  pub delete_granted : (held : H → HoldAt) (me from r : ℕ) (c : List ℕ) (row : List (Slot Message)) (s : OwnerAt) (os : List (Outgoing H)) → out_lines os ≡ delete_alerts from r c row s → AllGranted held me os
  delete_granted held me from r c row s os is = none_carried held me os (subst (λ (l : List OutLine). AllByRecursion CarriesNone l) (sym is) (delete_carries from r c row s))
