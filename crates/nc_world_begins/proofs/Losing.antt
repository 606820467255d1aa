-- A channel is gone: each start that is left knows what it knew.
use Rattle.std.proofs.Common.{inl, inr, List, [], ◌∷◌, sym, subst}
use Rattle.std.specs.List.{AllByRecursion}
use Rattle.nc_journal.specs.History.{onto}
use Rattle.nc_journal.specs.declared.word.EndedCause.TheVariants.{Deleted}
use Rattle.nc_spool_state.specs.Starting.{StartingAt}
use Rattle.nc_spool.specs.Calls.{board_of, gone_facts, gone_after}
use Rattle.nc_spool_members.specs.Starts.{IsAmong}
use Rattle.nc_spool_members.proofs.Started.{keep-starts}
use Rattle.nc_worker_state.specs.Deed.{told}
use Rattle.nc_worker_state.specs.Spooled.{Hold, loses}
use Rattle.nc_world_begins.specs.Knowing.{StartHolds}
use Rattle.nc_world_begins.specs.Calls.{LossHolds}
use Rattle.nc_world_begins.proofs.Staying.{stays_onto, start_stays}
use Rattle.nc_world_begins.proofs.Beside.{gone_beside, events_beside}

-- what holds of all holds of one among them
among_so : (P : StartingAt → Type 0) (x : StartingAt) (starts : List StartingAt) → AllByRecursion P starts → IsAmong x starts → P x
among_so P x [] each is = absurd is
among_so P x (start ∷ starts) each (inl same) = subst P (sym same) each.0
among_so P x (start ∷ starts) each (inr is) = among_so P x starts each.1 is

all_among : (P Q : StartingAt → Type 0) → ((x : StartingAt) → P x → Q x) → (starts new : List StartingAt) → AllByRecursion P starts → AllByRecursion (λ x. IsAmong x starts) new → AllByRecursion Q new
all_among P Q f starts [] each among = tt
all_among P Q f starts (x ∷ new) each among = (f x (among_so P x starts each among.0), all_among P Q f starts new each among.1)

pub loss_holds : LossHolds
loss_holds workers me next c subs h s each =
    let after = onto (told me next (loses me c subs s).deeds) h in
    all_among (StartHolds workers me h) (StartHolds workers me after)
    (λ x holds. start_stays workers me h after x (stays_onto me x.reader.k (told me next (loses me c subs s).deeds) h (events_beside x.reader.k me Deleted next (gone_facts c subs s) (gone_beside x.reader.k c subs (board_of s) tt))) holds)
    s.starts (gone_after c subs s).starts each ((keep-starts Hold s).removal c subs)
