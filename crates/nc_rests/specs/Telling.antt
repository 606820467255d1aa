-- What an owner's local history tells of looks, and what a place learns from it.
use Rattle.std.specs.Prelude.{◌≡◌, ℕ, ◌≤◌, List, [], ◌∷◌, IfSome}
use Rattle.nc_types.specs.Id.{Id, IsPast}
use Rattle.nc_types.specs.Channel.{owner_of}
use Rattle.nc_journal.specs.History.{own}
use Rattle.nc_journal.specs.Message.{buffer}
use Rattle.nc_journal.specs.declared.event.Event.{Event}
use Rattle.nc_journal.specs.declared.event.Event.TheVariants.{Took}
use Rattle.nc_journal.specs.declared.word.AlertKind.{AlertKind}
use Rattle.nc_journal.specs.declared.alert.AlertLine.TheVariants.{Notice}
use Rattle.nc_owner_laws.specs.AnsweredOnce.{answer_numbers}
use Rattle.nc_owner_laws.specs.Behind.{NothingIsPast, WokenByFirst}
use Rattle.nc_owner_laws.specs.Drawn.{look_numbers}
use Rattle.nc_owner_laws.specs.OwnerStanding.{look_past}
use Rattle.nc_owner_laws.specs.Used.{times}
use Rattle.nc_owner_laws.specs.Wake.{NotYet, Waiting, ByNotice, wake, hears, made_to, IsOnlyAt}
use Rattle.nc_history.specs.Packets.{pending, IsNext}
use Rattle.nc_rests.specs.Rests.{Nothing, Found, RestsAt}

-- between the owner's steps: what a worker heard of a look is what happened to it; a look that waits or was woken was made at one channel;
-- what woke it was first stored behind it; while it waits nothing that is buffered is past its id; each number is drawn once and each look answered once
pub record OwnerTells (o : ℕ) (l : List Event) : Type 0 where
  pub heard : (w : ℕ) (c : List ℕ) (q : ℕ) → IsOnlyAt c q l → hears c q NotYet (made_to w l) ≡ wake w c q l
  pub only : (w : ℕ) (c : List ℕ) (q : ℕ) → (wake w c q l ≡ NotYet → ⊥) → IsOnlyAt c q l
  pub first : (w : ℕ) (c : List ℕ) (q : ℕ) (id : Id) → wake w c q l ≡ ByNotice id → WokenByFirst o w c q id l
  pub past : (w : ℕ) (c : List ℕ) (q : ℕ) → wake w c q l ≡ Waiting → IfSome (look_past w c q l) (λ after. NothingIsPast after (buffer c l))
  pub once : (q : ℕ) → times q (look_numbers l) ≤ 1
  pub answered_once : (w q : ℕ) → times q (answer_numbers (made_to w l)) ≤ 1

-- the first notice of its channel turns a place where nothing was found into one that found its message, where that is past the cursor
abbrev pub NoticeFinds : Type 0
NoticeFinds = (workers w : ℕ) (c : List ℕ) (after : Id) (q floor : ℕ) (id : Id) (g slot : ℕ) (n : ℕ) (kind : AlertKind) (h : List Event)
    → let o = owner_of workers c in
    OwnerTells o (own o h) → IsNext o w (Notice c id g slot) h → IsPast id after
    → RestsAt workers w c after (Nothing q floor) h → RestsAt workers w c after (Found q id) (Took w o n kind ∷ h)

-- a worker has taken all that an owner made for it
abbrev pub TookAll : ℕ → ℕ → List Event → Type 0
TookAll o w h = pending o w h ≡ []

-- where nothing was found, and all was taken, no message that is buffered is past the cursor
abbrev pub NothingLacks : Type 0
NothingLacks = (workers w : ℕ) (c : List ℕ) (after : Id) (q floor : ℕ) (h : List Event) → let o = owner_of workers c in
    OwnerTells o (own o h) → TookAll o w h → RestsAt workers w c after (Nothing q floor) h → NothingIsPast after (buffer c (own o h))
