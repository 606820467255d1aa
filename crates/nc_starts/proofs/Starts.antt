-- Every start.
use Rattle.std.proofs.Common.{◌≡◌, ℕ, List, [], ◌∷◌, ◌++◌, refl, sym, ap, ◌∙◌, subst, append_assoc}
use Rattle.std.specs.List.{AllByRecursion}
use Rattle.nc_types.specs.declared.start.Start.TheVariants.{Newest, Oldest, Given}
use Rattle.nc_types.specs.Id.{IsPast}
use Rattle.nc_types.specs.Cursor.{CursorAt, cursor_id}
use Rattle.nc_journal.specs.History.{Along, own}
use Rattle.nc_journal.specs.Stamp.{IsStamped}
use Rattle.nc_journal.specs.Message.{published}
use Rattle.nc_journal.specs.Standing.{Stage, Starting, stage_of}
use Rattle.nc_journal.specs.declared.event.Event.{Event}
use Rattle.nc_journal.specs.declared.event.Event.TheVariants.{Started}
use Rattle.nc_journal.proofs.Buffers.{published-append}
use Rattle.nc_owner_laws.specs.InOrder.{LooksAt}
use Rattle.nc_rests.proofs.Histories.{along_at}
use Rattle.nc_journal.specs.Edges.{since_last}
use Rattle.nc_journal.specs.Newest.{StartsNewest}
use Rattle.nc_journal.specs.Sending.{StartsFrom, StartedAt}
use Rattle.nc_starts.specs.Starts.{StartsThen, StartedThen, StartsStay}
use Rattle.nc_starts.proofs.Edges.{along_own}
use Rattle.nc_starts.proofs.Newest.{newest_starts}

-- an event that stores nothing may be left out
published_skip : (c : List ℕ) (newer : List Event) (x : Event) (s : List Event) → published c (x ∷ []) ≡ [] → published c ((newer ++ x ∷ []) ++ s) ≡ published c (newer ++ s)
published_skip c newer x s none =
    published-append c (newer ++ x ∷ []) s
    ∙ ap (λ ms. published c s ++ ms) (published-append c newer (x ∷ []) ∙ ap (λ ms. ms ++ published c newer) none)
    ∙ sym (published-append c newer s)

newest_skip : (workers w k : ℕ) (list : List (List ℕ)) (cur : CursorAt) (newer : List Event) (x : Event) (older : List Event) → ((c : List ℕ) → published c (x ∷ []) ≡ []) → StartsNewest workers w k list cur (newer ++ x ∷ []) older → StartsNewest workers w k list cur newer older
newest_skip workers w k list cur newer x older none s = record {
  starts = s.starts;
  behind = λ j c last at_list at_lasts.
      let b = s.behind j c last at_list at_lasts in
      record { before = b.before; later = subst (AllByRecursion (λ m. IsPast m.id (cursor_id cur j))) (published_skip c newer x (since_last (s.starts.edges j c last at_list at_lasts)) (none c)) b.later };
}

starts_from : (workers w k : ℕ) (cur : CursorAt) (newer : List Event) (x : Event) (older : List Event) (s : Stage) → ((c : List ℕ) → published c (x ∷ []) ≡ []) → IsStamped workers ((newer ++ x ∷ []) ++ older) → ((o : ℕ) → Along LooksAt (own o older)) → StartsThen workers w k cur older s → StartsFrom workers w k cur newer older s
starts_from workers w k cur newer x older (Starting list once Oldest) none stamped tells s = s
starts_from workers w k cur newer x older (Starting list once (Given from)) none stamped tells s = s
starts_from workers w k cur newer x older (Starting list once Newest) none stamped tells s = newest_skip workers w k list cur newer x older none (newest_starts workers w k list cur (newer ++ x ∷ []) older stamped tells s)
starts_from workers w k cur newer x older s none stamped tells at = absurd at

started_in : (workers : ℕ) (newer : List Event) (e : Event) (older : List Event) → IsStamped workers ((newer ++ e ∷ []) ++ older) → ((o : ℕ) → Along LooksAt (own o older)) → StartedThen workers older e → StartedAt workers newer e older
started_in workers newer (Started w k cur) older stamped tells s = starts_from workers w k cur newer (Started w k cur) older (stage_of k (own w older)) (λ c. refl) stamped tells s
started_in workers newer e older stamped tells s = tt

pub starts_stay : StartsStay
starts_stay workers h stamped tells s newer e older is =
    let place : h ≡ (newer ++ e ∷ []) ++ older = is ∙ sym (append_assoc newer (e ∷ []) older) in
    started_in workers newer e older (subst (IsStamped workers) place stamped)
    (λ o. along_own o LooksAt (newer ++ e ∷ []) older (subst (λ (l : List Event). Along LooksAt (own o l)) place (tells o)))
    (along_at (StartedThen workers) newer e older (subst (Along (StartedThen workers)) is s))
