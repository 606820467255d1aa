-- What leaves where a channel is removed is retired, and nothing is freed.
use Rattle.std.proofs.Common.{ℕ, Bool, true, false, List, [], ◌∷◌, sym, subst}
use Rattle.nc_types.specs.Message.{Message}
use Rattle.nc_journal.specs.declared.word.LeftCause.TheVariants.{Expired, Deleted}
use Rattle.nc_journal.specs.declared.word.RemovedCause.{RemovedCause}
use Rattle.nc_journal.specs.declared.word.RemovedCause.TheVariants.{Reaped}
use Rattle.nc_journal.specs.declared.event.Event.TheVariants.{Removed}
use Rattle.nc_buffer.specs.Buffer.{is_expired}
use Rattle.nc_slots.specs.declared.slot.Slot.{Slot}
use Rattle.nc_owner.specs.State.{OwnerAt, bench_of, entries_of, opened}
use Rattle.nc_owner.specs.Edge.{last_in}
use Rattle.nc_owner.specs.Leave.{leavers}
use Rattle.nc_owner.specs.OtherSteps.{touch_after, touch_events_of}
use Rattle.nc_owner.specs.Remove.{after_removal, events_of_removal, is_reaped, removal_lefts, sweep_after, sweep_events}
use Rattle.nc_owner.specs.Rules.{IsUnheld, FreesOnlyRetired, FreesUnheld}
use Rattle.nc_owner.proofs.Freeing.{all_append, lefts_free}
use Rattle.nc_owner.proofs.Retiring.{retired_after, after_append, retired_append, IsWithin, lefts_retire, left_within}

-- a removal
removal_retires : (goes : Bool) (cause : RemovedCause) (c : List ℕ) (s : OwnerAt) (r : List ℕ) → FreesOnlyRetired r (events_of_removal goes cause c s)
removal_retires true cause c s r = retired_append r (removal_lefts c Deleted s) (Removed s.desk.me c (last_in c s) cause ∷ []) (lefts_retire r s.desk.me c Deleted (entries_of (opened c s))) tt
removal_retires false cause c s r = tt

removal_within : (goes : Bool) (cause : RemovedCause) (c : List ℕ) (s : OwnerAt) (r : List ℕ) → IsWithin s.desk.retired r → IsWithin (after_removal goes c s).desk.retired (retired_after r (events_of_removal goes cause c s))
removal_within true cause c s r within =
    let es = entries_of (opened c s) in
    subst (IsWithin (after_removal true c s).desk.retired) (sym (after_append r (removal_lefts c Deleted s) (Removed s.desk.me c (last_in c s) cause ∷ []))) (left_within s.desk.retired r s.desk.me c Deleted es within)
removal_within false cause c s r within = within

removal_frees : (counts : List ℕ) (goes : Bool) (cause : RemovedCause) (c : List ℕ) (s : OwnerAt) → FreesUnheld counts (events_of_removal goes cause c s)
removal_frees counts true cause c s = all_append (IsUnheld counts) (removal_lefts c Deleted s) (Removed s.desk.me c (last_in c s) cause ∷ []) (lefts_free counts s.desk.me c Deleted (entries_of (opened c s))) (tt, tt)
removal_frees counts false cause c s = tt

-- a sweep of one channel
pub sweep_retires : (c : List ℕ) (row : List (Slot Message)) (s : OwnerAt) (r : List ℕ) → FreesOnlyRetired r (sweep_events c row s)
sweep_retires c row s r =
    let lefts = touch_events_of c row s in
    let goes = is_reaped c row s in
    retired_append r lefts (events_of_removal goes Reaped c (touch_after c row s)) (lefts_retire r s.desk.me c Expired (leavers (is_expired s.desk.clock) (bench_of c row s)))
    (removal_retires goes Reaped c (touch_after c row s) (retired_after r lefts))

pub sweep_within : (c : List ℕ) (row : List (Slot Message)) (s : OwnerAt) (r : List ℕ) → IsWithin s.desk.retired r → IsWithin (sweep_after c row s).desk.retired (retired_after r (sweep_events c row s))
sweep_within c row s r within =
    let lefts = touch_events_of c row s in
    let goes = is_reaped c row s in
    let touched = touch_after c row s in
    subst (IsWithin (sweep_after c row s).desk.retired) (sym (after_append r lefts (events_of_removal goes Reaped c touched)))
    (removal_within goes Reaped c touched (retired_after r lefts) (left_within s.desk.retired r s.desk.me c Expired (leavers (is_expired s.desk.clock) (bench_of c row s)) within))

pub sweep_frees : (counts c : List ℕ) (row : List (Slot Message)) (s : OwnerAt) → FreesUnheld counts (sweep_events c row s)
sweep_frees counts c row s =
    let goes = is_reaped c row s in
    all_append (IsUnheld counts) (touch_events_of c row s) (events_of_removal goes Reaped c (touch_after c row s)) (lefts_free counts s.desk.me c Expired (leavers (is_expired s.desk.clock) (bench_of c row s)))
    (removal_frees counts goes Reaped c (touch_after c row s))
