-- The step on a channel that is gone sends nothing, and leaves each subscriber standing at the key of its spool.
use Rattle.std.proofs.Common.{List, ◌∷◌, sym, subst}
use Rattle.std.specs.List.{AllByRecursion}
use Rattle.nc_types.specs.Channel.{owner_of}
use Rattle.nc_journal.specs.History.{Along}
use Rattle.nc_journal.specs.declared.event.Event.{Event}
use Rattle.nc_journal.specs.declared.event.Event.TheVariants.{Took}
use Rattle.nc_journal.specs.declared.word.EndedCause.TheVariants.{Deleted}
use Rattle.nc_spool_state.specs.Spool.{SpoolAt}
use Rattle.nc_spool.specs.Calls.{board_of, gone_facts, gone_after}
use Rattle.nc_spool_laws.proofs.Lists.{all-changed}
use Rattle.nc_sends.specs.GoodSends.{IsGoodSend}
use Rattle.nc_world_told.specs.Readers.{StandHere}
use Rattle.nc_world_told.proofs.Written.{written_is, IsUnsent, unsent_written}
use Rattle.nc_world_told.proofs.Leaving.{loss_unsent, loss_stand}
use Rattle.nc_world_calls.specs.Losing.{LossSendsNothing, LossStands}
use Rattle.nc_world_calls.proofs.Answering.{took_good, took_stands}

pub loss_sends_nothing : LossSendsNothing
loss_sends_nothing workers me n c subs kind next h s good =
    let a = loss_unsent c subs (board_of s) in
    subst (Along (IsGoodSend workers)) (written_is me Deleted next (gone_facts c subs s) (Took me (owner_of workers c) n kind ∷ h))
    (unsent_written workers me Deleted next (gone_facts c subs s) (Took me (owner_of workers c) n kind ∷ h) (subst (AllByRecursion IsUnsent) (sym a.are) a.all) (took_good workers me (owner_of workers c) n kind h good))

pub loss_stands : LossStands
loss_stands workers me n c subs kind next h s singly stand =
    subst (λ (l : List Event). AllByRecursion (λ (x : SpoolAt). StandHere me x l) (gone_after c subs s).shelf) (written_is me Deleted next (gone_facts c subs s) (Took me (owner_of workers c) n kind ∷ h))
    (loss_stand me Deleted next (Took me (owner_of workers c) n kind ∷ h) c subs (board_of s) singly
    (all-changed (λ (x : SpoolAt). StandHere me x h) (λ (x : SpoolAt). StandHere me x (Took me (owner_of workers c) n kind ∷ h)) s.shelf (λ x f. took_stands me (owner_of workers c) n kind h x.key x.readers f) stand))
