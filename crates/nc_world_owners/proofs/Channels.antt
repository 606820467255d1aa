-- An owner's events are on channels that it owns.
use Rattle.std.proofs.Common.{ℕ, Bool, true, false, cond, List, [], ◌∷◌}
use Rattle.std.specs.Prelude.{◌==◌}
use Rattle.std.specs.List.{AllByRecursion}
use Rattle.nc_journal.specs.History.{own, is_by, Along}
use Rattle.nc_journal.specs.Stamp.{IsStamped, StampedAt}
use Rattle.nc_journal.specs.declared.event.Event.{Event}
use Rattle.nc_journal.specs.declared.event.Event.TheVariants.{Joined, Parted, Stored, Left, Looked, Edged, Removed}
use Rattle.nc_owner_laws.specs.Buffered.{LeavesStored}
use Rattle.nc_world_laws.proofs.Local.{eqb_self}
use Rattle.nc_world_owners.specs.ByOwner.{IsByChannelOwner, AreByChannelOwners, IsAskedFrom, AreAskedFrom}
use Rattle.nc_world_owners.proofs.Asked.{IsAsked}
use Rattle.nc_world_owners.proofs.Gluing.{all_rest, all_head, along_rest, along_head, stored_there}

-- who asks
asked_from : (workers : ℕ) (e : Event) → IsAsked workers e → IsAskedFrom workers e
asked_from workers (Joined w c from k) a = a.1
asked_from workers (Parted w c from k) a = a.1
asked_from workers (Looked w q from number c after floor found) a = a.1
asked_from workers (Edged w q from number k c floor last) a = a.1
asked_from workers e a = tt

pub all_asked_from : (workers : ℕ) (h : List Event) → AllByRecursion (IsAsked workers) h → AreAskedFrom workers h
all_asked_from workers [] a = tt
all_asked_from workers (e ∷ h) a = (asked_from workers e a.0, all_asked_from workers h a.1)

-- ---- local histories

-- what an event tells of the histories of all workers
module _ (workers : ℕ) where
  -- each event of the whole history is on a channel of who did it, where it is so of each local history, what leaves was stored, and the stamps are right
  whole_at : (e : Event) (h : List Event) → ((v : ℕ) → IsStamped workers (own v (e ∷ h))) → ((v : ℕ) → Along LeavesStored (own v (e ∷ h))) → ((v : ℕ) → AllByRecursion (IsAsked workers) (own v (e ∷ h))) → IsByChannelOwner workers e
  whole_at (Joined w c from k) h s l a = (all_head (IsAsked workers) (w == w) (Joined w c from k) (own w h) (eqb_self w) (a w)).0
  whole_at (Parted w c from k) h s l a = (all_head (IsAsked workers) (w == w) (Parted w c from k) (own w h) (eqb_self w) (a w)).0
  whole_at (Looked w q from number c after floor found) h s l a = (all_head (IsAsked workers) (w == w) (Looked w q from number c after floor found) (own w h) (eqb_self w) (a w)).0
  whole_at (Edged w q from number k c floor last) h s l a = (all_head (IsAsked workers) (w == w) (Edged w q from number k c floor last) (own w h) (eqb_self w) (a w)).0
  whole_at (Stored w c id slot len exp kept members from r ct body) h s l a = (along_head (StampedAt workers) (w == w) (Stored w c id slot len exp kept members from r ct body) (own w h) (eqb_self w) (s w)).owner
  whole_at (Removed w c last cause) h s l a = (along_head (StampedAt workers) (w == w) (Removed w c last cause) (own w h) (eqb_self w) (s w)).owner
  whole_at (Left w c id slot cause) h s l a =
      stored_there workers w c id h (along_rest (StampedAt workers) (w == w) (Left w c id slot cause) (own w h) (s w)) (along_head LeavesStored (w == w) (Left w c id slot cause) (own w h) (eqb_self w) (l w))
  whole_at e h s l a = tt

  pub whole_owned : (h : List Event) → ((v : ℕ) → IsStamped workers (own v h)) → ((v : ℕ) → Along LeavesStored (own v h)) → ((v : ℕ) → AllByRecursion (IsAsked workers) (own v h)) → AreByChannelOwners workers h
  whole_owned [] s l a = tt
  whole_owned (e ∷ h) s l a = (whole_at e h s l a, whole_owned h (λ v. along_rest (StampedAt workers) (is_by v e) e (own v h) (s v)) (λ v. along_rest LeavesStored (is_by v e) e (own v h) (l v)) (λ v. all_rest (IsAsked workers) (is_by v e) e (own v h) (a v)))

  from_at : (e : Event) (h : List Event) → ((v : ℕ) → AllByRecursion (IsAsked workers) (own v (e ∷ h))) → IsAskedFrom workers e
  from_at (Joined w c from k) h a = (all_head (IsAsked workers) (w == w) (Joined w c from k) (own w h) (eqb_self w) (a w)).1
  from_at (Parted w c from k) h a = (all_head (IsAsked workers) (w == w) (Parted w c from k) (own w h) (eqb_self w) (a w)).1
  from_at (Looked w q from number c after floor found) h a = (all_head (IsAsked workers) (w == w) (Looked w q from number c after floor found) (own w h) (eqb_self w) (a w)).1
  from_at (Edged w q from number k c floor last) h a = (all_head (IsAsked workers) (w == w) (Edged w q from number k c floor last) (own w h) (eqb_self w) (a w)).1
  from_at e h a = tt

  pub whole_asked : (h : List Event) → ((v : ℕ) → AllByRecursion (IsAsked workers) (own v h)) → AreAskedFrom workers h
  whole_asked [] a = tt
  whole_asked (e ∷ h) a = (from_at e h a, whole_asked h (λ v. all_rest (IsAsked workers) (is_by v e) e (own v h) (a v)))

-- what holds of all events of a history holds of those of a worker
pub own_all : (P : Event → Type 0) (v : ℕ) (h : List Event) → AllByRecursion P h → AllByRecursion P (own v h)
own_all P v [] a = tt
own_all P v (e ∷ h) a = by (is_by v e) (own_all P v h a.1)
  where
    by : (b : Bool) → AllByRecursion P (own v h) → AllByRecursion P (cond b (e ∷ own v h) (own v h))
    by true r = (a.0, r)
    by false r = r
