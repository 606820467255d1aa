-- What holds of messages that leave and of a removal holds of each event of a deletion.
use Rattle.std.proofs.Common.{ℕ, Bool, true, false, List, map}
use Rattle.std.specs.List.{AllByRecursion}
use Rattle.nc_types.specs.Id.{Id}
use Rattle.nc_types.specs.Message.{Message}
use Rattle.nc_journal.specs.declared.event.Event.{Event}
use Rattle.nc_journal.specs.declared.event.Event.TheVariants.{Removed}
use Rattle.nc_journal.specs.declared.word.LeftCause.{LeftCause}
use Rattle.nc_journal.specs.declared.word.LeftCause.TheVariants.{Expired, Deleted}
use Rattle.nc_journal.specs.declared.word.RemovedCause.TheVariants.{Deleted as ByDeletion}
use Rattle.nc_buffer.specs.declared.entry.Entry.{Entry}
use Rattle.nc_buffer.specs.Buffer.{is_expired}
use Rattle.nc_slots.specs.declared.slot.Slot.{Slot}
use Rattle.nc_owner.specs.Edge.{last_in}
use Rattle.nc_owner.specs.Leave.{left_event, leavers}
use Rattle.nc_owner.specs.OtherSteps.{touch_events_of, touch_after}
use Rattle.nc_owner.specs.Remove.{removal_lefts, events_of_removal, delete_events}
use Rattle.nc_owner.specs.State.{OwnerAt, bench_of, entries_of, exists, opened}
use Rattle.nc_world_laws.proofs.Local.{all_append}

pub delete_are : (P : Event → Type 0) (c : List ℕ) (row : List (Slot Message)) (s : OwnerAt) → ((w : ℕ) (d : List ℕ) (cause : LeftCause) (es : List Entry) → AllByRecursion P (map (left_event w d cause) es)) → ((w : ℕ) (last : Id) → P (Removed w c last ByDeletion))
    → AllByRecursion P (delete_events c row s)
delete_are P c row s left removed = all_append P (touch_events_of c row s) _ (left s.desk.me c Expired (leavers (is_expired s.desk.clock) (bench_of c row s))) (by (exists c s))
  where
    by : (b : Bool) → AllByRecursion P (events_of_removal b ByDeletion c (touch_after c row s))
    by true = let t = touch_after c row s in all_append P (removal_lefts c Deleted t) _ (left t.desk.me c Deleted (entries_of (opened c t))) (removed t.desk.me (last_in c t), tt)
    by false = tt
