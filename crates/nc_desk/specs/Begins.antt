-- What comes to a worker directly.
use Rattle.std.specs.Prelude.{◌≡◌, ◌++◌}
use Rattle.nc_worker_state.specs.Setup.{Setup}
use Rattle.nc_worker_state.specs.Incoming.{Incoming}
use Rattle.nc_worker_state.specs.Deed.{told}
use Rattle.nc_worker_state.specs.Desk.{opening, begun}
use Rattle.nc_outbox.specs.Outboxes.{next_of}
use Rattle.nc_scribe.specs.Scribe.{ScribeAt, TellsMore}
use Rattle.nc_desk.specs.Desk.{told_desk}
use Rattle.nc_desk.specs.declared.desk.Desk.{Desk as DeskAt}

-- the event that it came was told, and what the desk did with it, and the desk is left so
pub record Begins {H : Type 0} (setup : Setup) (incoming : Incoming) (old new : DeskAt H) (scribe later : ScribeAt H) : Type 0 where
  pub after : told_desk new ≡ (begun setup scribe.me incoming (told_desk old)).after
  pub tells : TellsMore scribe later (opening setup scribe.me incoming (told_desk old)
      ++ told scribe.me (next_of scribe.outboxes) (begun setup scribe.me incoming (told_desk old)).deeds)
