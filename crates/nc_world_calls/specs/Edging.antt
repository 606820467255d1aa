-- The step of a worker that takes the answer to an edge.
use Rattle.std.specs.Prelude.{ℕ, List}
use Rattle.nc_types.specs.Id.{Id}
use Rattle.nc_journal.specs.History.{onto, Along}
use Rattle.nc_journal.specs.declared.event.Event.{Event}
use Rattle.nc_spool.specs.Calls.{SpoolsAt}
use Rattle.nc_worker_state.specs.Deed.{told}
use Rattle.nc_worker_state.specs.Spooled.{Hold, edges}
use Rattle.nc_sends.specs.GoodSends.{IsGoodSend}

-- it writes no sends
abbrev pub EdgeSendsNothing : Type 0
EdgeSendsNothing = (workers me : ℕ) (next : ℕ → ℕ) (number floor : ℕ) (last : Id) (s : SpoolsAt Hold) (h : List Event)
    → Along (IsGoodSend workers) h → Along (IsGoodSend workers) (onto (told me next (edges me number floor last s).deeds) h)
