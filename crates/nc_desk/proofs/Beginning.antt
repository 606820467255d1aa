-- What comes directly is told, and then what the desk does.
use Rattle.std.proofs.Common.{◌≡◌, true, [], ◌∷◌, ◌++◌, ◌∙◌}
use Rattle.nc_journal.specs.declared.event.Event.{Event}
use Rattle.nc_worker_state.specs.Deed.{told}
use Rattle.nc_worker_state.specs.Desk.{Served}
use Rattle.nc_outbox.specs.Outboxes.{next_of}
use Rattle.nc_scribe.specs.Kinds.{is_aside}
use Rattle.nc_scribe.specs.Scribe.{ScribeAt, TellsMore}
use Rattle.nc_scribe.proofs.Story.{tells_on, tells_same, tells_next, next_after-aside}
use Rattle.nc_desk.specs.Desk.{Serves}
use Rattle.nc_desk.specs.declared.desk.Desk.{Desk as DeskAt}

pub begins_by : {H : Type 0} → (new : DeskAt H) (s t u : ScribeAt H) (e is : Event) (r : Served) → e ≡ is → is_aside is ≡ true → TellsMore s t (e ∷ []) → Serves new t u r
    → TellsMore s u ((is ∷ []) ++ told s.me (next_of s.outboxes) r.deeds)
begins_by new s t u e is r same aside p q =
    let one = tells_same (λ i. same i ∷ []) p in
    tells_same (λ i. (is ∷ []) ++ told (one.me i) ((tells_next one ∙ next_after-aside is [] (next_of s.outboxes) aside) i) r.deeds) (tells_on one q.tells)
