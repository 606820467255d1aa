-- Of which kinds the events and the alerts of sweeps and of deletions are.
use Rattle.std.proofs.Common.{◌≡◌, ◌⊎◌, inl, inr, ℕ, Bool, true, false, cond, List, [], ◌∷◌, ◌++◌, Option, None, Some, refl, ◌∙◌, fold, map}
use Rattle.std.specs.List.{AllByRecursion}
use Rattle.nc_types.specs.Channel.{owner_of}
use Rattle.nc_types.specs.Message.{Message}
use Rattle.nc_types.specs.declared.info.Info.{Info}
use Rattle.nc_journal.specs.declared.word.LeftCause.{LeftCause}
use Rattle.nc_journal.specs.declared.word.LeftCause.TheVariants.{Expired, Deleted}
use Rattle.nc_journal.specs.declared.word.RemovedCause.{RemovedCause}
use Rattle.nc_journal.specs.declared.word.RemovedCause.TheVariants.{Reaped, Deleted as ByDeletion}
use Rattle.nc_buffer.specs.Buffer.{is_expired}
use Rattle.nc_buffer.specs.declared.entry.Entry.{Entry}
use Rattle.nc_slots.specs.declared.slot.Slot.{Slot}
use Rattle.nc_owner.specs.declared.member.Member.{Member}
use Rattle.nc_owner.specs.AlertLines.{OutLine}
use Rattle.nc_owner.specs.Leave.{left_event, leavers}
use Rattle.nc_owner.specs.OtherSteps.{touch_events_of, touched_of, touch_after, names_of}
use Rattle.nc_owner.specs.Publish.{info_of}
use Rattle.nc_owner.specs.Remove.{removal_lefts, concerned, gone_line, delete_answer, delete_alerts, events_of_removal, alerts_of_removal, after_removal, is_reaped}
use Rattle.nc_owner.specs.State.{OwnerAt, bench_of, entries_of, exists, opened}
use Rattle.nc_reaper.specs.Reap.{Swept, state, swept, sweep_step}
use Rattle.nc_owner_laws.specs.Sweeping.{IsOfRemovals, IsLoss, IsOfDeletion, SweepsAre, ReapsAre, DeletionsAre}
use Rattle.nc_owner_laws.proofs.Kept.{all_append}

module _ (workers me : ℕ) (c : List ℕ) (mine : owner_of workers c ≡ me) where
  -- ---- what leaves, and the channel

  lefts_are : (v : ℕ) (cause : LeftCause) (es : List Entry) → v ≡ me → AllByRecursion (IsOfRemovals workers me) (map (left_event v c cause) es)
  lefts_are v cause [] is = tt
  lefts_are v cause (e ∷ es) is = (is, lefts_are v cause es is)

  removal_is : (goes : Bool) (cause : RemovedCause) (s : OwnerAt) → s.desk.me ≡ me → AllByRecursion (IsOfRemovals workers me) (events_of_removal goes cause c s)
  removal_is true cause s is = all_append (IsOfRemovals workers me) (removal_lefts c Deleted s) _ (lefts_are s.desk.me Deleted (entries_of (opened c s)) is) ((is, mine), tt)
  removal_is false cause s is = tt

  -- a touch, and a removal or none
  touched_is : (goes : Bool) (cause : RemovedCause) (row : List (Slot Message)) (s : OwnerAt) → s.desk.me ≡ me → AllByRecursion (IsOfRemovals workers me) (touch_events_of c row s ++ events_of_removal goes cause c (touch_after c row s))
  touched_is goes cause row s is =
      all_append (IsOfRemovals workers me) (touch_events_of c row s) _
      (lefts_are s.desk.me Expired (leavers (is_expired s.desk.clock) (bench_of c row s)) is)
      (removal_is goes cause (touch_after c row s) is)

-- ---- who is told

-- what holds of each line that a channel is gone
module _ (Q : OutLine → Type 0) (c : List ℕ) (gone : (ms : List Member) (w : ℕ) → Q (gone_line c ms w)) where
  gones_so : (ms : List Member) (ws : List ℕ) → AllByRecursion Q (map (gone_line c ms) ws)
  gones_so ms [] = tt
  gones_so ms (w ∷ ws) = (gone ms w, gones_so ms ws)

  -- holds of all that a removal tells
  pub told_so : (goes : Bool) (s : OwnerAt) → AllByRecursion Q (alerts_of_removal goes c s)
  told_so true s = let ch = opened c s in gones_so ch.members (concerned ch)
  told_so false s = tt

  -- and, where it holds of the answer too, of all that a deletion tells
  pub deletion_told : (from r : ℕ) (row : List (Slot Message)) (s : OwnerAt) → ((status : ℕ) (info : Option Info) → (status ≡ 200) ⊎ (status ≡ 404) → Q (delete_answer from r status info)) → AllByRecursion Q (delete_alerts from r c row s)
  deletion_told from r row s answered = all_append Q (alerts_of_removal (exists c s) c (touch_after c row s)) _ (told_so (exists c s) (touch_after c row s)) (by (exists c s), tt)
    where
      info : Option Info
      info = Some (info_of (touched_of c row s).channel)

      by : (b : Bool) → Q (cond b (delete_answer from r 200 info) (delete_answer from r 404 None))
      by true = answered 200 info (inl refl)
      by false = answered 404 None (inr refl)

-- ---- the sweeps of a reap

same_me : (goes : Bool) (c : List ℕ) (s : OwnerAt) → (after_removal goes c s).desk.me ≡ s.desk.me
same_me true c s = refl
same_me false c s = refl

module _ (workers me : ℕ) where
  record Sweeping (x : Swept) : Type 0 where
    is_me : x.owner.desk.me ≡ me
    are : SweepsAre workers me x.steps

  sweep : (x : Swept) (c : List ℕ) → owner_of workers c ≡ me → Sweeping x → Sweeping (swept x c)
  sweep x c mine k =
      let goes = is_reaped c x.row x.owner in
      let one = sweep_step c x.row x.owner in
      record {
        is_me = same_me goes c (touch_after c x.row x.owner) ∙ k.is_me;
        are = record {
          events = all_append (λ y. AllByRecursion (IsOfRemovals workers me) y.events) x.steps (one ∷ []) k.are.events (touched_is workers me c mine goes Reaped x.row x.owner k.is_me, tt);
          alerts = all_append (λ y. AllByRecursion (λ a. IsLoss workers me a.line) y.alerts) x.steps (one ∷ []) k.are.alerts (told_so (λ a. IsLoss workers me a.line) c (λ ms w. mine) goes (touch_after c x.row x.owner), tt);
        };
      }

  sweep_all : (names : List (List ℕ)) (x : Swept) → AllByRecursion (λ c. owner_of workers c ≡ me) names → Sweeping x → Sweeping (fold swept x names)
  sweep_all [] x mine k = k
  sweep_all (c ∷ names) x mine k = sweep_all names (swept x c) mine.1 (sweep x c mine.0 k)

pub reaps_are : ReapsAre
reaps_are workers me row s is owns = (sweep_all workers me (names_of s) (state s row []) owns (record { is_me = is; are = record { events = tt; alerts = tt } })).are

-- ---- a deletion

pub deletions_are : DeletionsAre
deletions_are workers me from r c row s is mine = record {
  events_are = touched_is workers me c mine (exists c s) ByDeletion row s is;
  alerts_are = deletion_told (λ a. IsOfDeletion workers me from r a.to a.line) c (λ ms w. mine) from r row s (λ status info is. (refl, refl, is));
}
