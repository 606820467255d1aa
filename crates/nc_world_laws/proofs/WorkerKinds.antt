-- Of which kinds the events of a worker's step are.
use Rattle.std.specs.Prelude.{◌≡◌, ℕ, true, List, [], ◌∷◌}
use Rattle.nc_journal.specs.History.{is_by}
use Rattle.nc_types.specs.Channel.{owner_of}
use Rattle.nc_types.specs.Message.{IsContentType}
use Rattle.nc_journal.specs.declared.event.Event.{Event}
use Rattle.nc_journal.specs.declared.event.Event.TheVariants.{Answered, Started, Released, Sent, Ended, Made, Took}
use Rattle.nc_journal.specs.declared.alert.AlertLine.{AlertLine}
use Rattle.nc_journal.specs.declared.alert.AlertLine.TheVariants as lines
use Rattle.nc_alert.specs.Packet.{IsTimeout}
use Rattle.nc_worker_state.specs.Deed.{Deed, Does, Makes}

-- a worker did it
abbrev pub IsBy : ℕ → Event → Type 0
IsBy w e = is_by w e ≡ true

-- no packet is taken
abbrev pub IsUntaken : Event → Type 0
IsUntaken (Took w from n kind) = ⊥
IsUntaken _ = Unit {0}

-- no packet is made
abbrev pub IsUnmade : Event → Type 0
IsUnmade (Made w to n a) = ⊥
IsUnmade _ = Unit {0}

-- what a worker does inside a step beside its owner, without what it makes
abbrev pub IsOfWorker : ℕ → Event → Type 0
IsOfWorker me (Answered w r conn status info json close) = w ≡ me
IsOfWorker me (Started w k cur) = w ≡ me
IsOfWorker me (Released w owner g slot) = w ≡ me
IsOfWorker me (Sent w k i c id cur looks) = w ≡ me
IsOfWorker me (Ended w k cause) = w ≡ me
IsOfWorker me _ = ⊥

-- an alert that asks the owner of a channel
abbrev pub AsksOwner : ℕ → ℕ → AlertLine → Type 0
AsksOwner workers to (lines.Publish r c len timeout ct body) = (owner_of workers c ≡ to) × IsTimeout timeout × IsContentType ct
AsksOwner workers to (lines.Look number c after fence) = owner_of workers c ≡ to
AsksOwner workers to (lines.Edge number k c fence) = owner_of workers c ≡ to
AsksOwner workers to (lines.Join c k) = owner_of workers c ≡ to
AsksOwner workers to (lines.Part c k) = owner_of workers c ≡ to
AsksOwner workers to (lines.Delete r c) = owner_of workers c ≡ to
AsksOwner workers to (lines.Info r c) = owner_of workers c ≡ to
AsksOwner workers to _ = ⊥

-- each deed is the worker's own, or asks an owner
abbrev pub AreDeeds : ℕ → ℕ → List Deed → Type 0
AreDeeds workers me [] = Unit {0}
AreDeeds workers me (Does e ∷ deeds) = IsOfWorker me e × AreDeeds workers me deeds
AreDeeds workers me (Makes to a ∷ deeds) = AsksOwner workers to a × AreDeeds workers me deeds
