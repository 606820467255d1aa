-- The messages of a channel: which were stored, which are gone, which are buffered.
use Rattle.std.specs.Prelude.{ℕ, Bool, false, not, List, [], ◌∷◌, ◌++◌, if◌then◌else◌, ◌&&◌, ◌||◌, filter, Option, find, bytes_eq}
use Rattle.std.specs.List.{AllByRecursion}
use Rattle.nc_types.specs.Id.{Id, IsPast, is_past, id_eq}
use Rattle.nc_journal.specs.Stamp.{IsStamped}
use Rattle.nc_journal.specs.declared.event.Event.{Event}
use Rattle.nc_journal.specs.declared.event.Event.TheVariants.{Stored, Left}

-- a message as it was stored; within its channel its id names it
pub record Message : Type 0 where
  pub id : Id
  pub slot : ℕ
  pub expires : ℕ
  pub ct : Option (List ℕ)
  pub body : List ℕ

abbrev pub stored_message : Id → ℕ → ℕ → Option (List ℕ) → List ℕ → Message
stored_message id slot expires ct body = record { id = id; slot = slot; expires = expires; ct = ct; body = body }

-- the messages of a channel that were stored, in the order in which they were
abbrev pub published : List ℕ → List Event → List Message
published c [] = []
published c (Stored w d id slot len exp kept members from r ct body ∷ h) =
    if bytes_eq d c then published c h ++ stored_message id slot exp ct body ∷ [] else published c h
published c (e ∷ h) = published c h

-- an event after which a message is gone: it was never kept, or it leaves
abbrev pub lets_go : List ℕ → Id → Event → Bool
lets_go c id (Stored w d m slot len exp kept members from r ct body) = not kept && (bytes_eq d c && id_eq m id)
lets_go c id (Left w d m slot cause) = bytes_eq d c && id_eq m id
lets_go c id _ = false

abbrev pub is_gone : List ℕ → Id → List Event → Bool
is_gone c id [] = false
is_gone c id (e ∷ h) = lets_go c id e || is_gone c id h

-- the buffer of a channel: the messages that were stored and aren't gone
abbrev pub buffer : List ℕ → List Event → List Message
buffer c h = filter (λ m. not (is_gone c m.id h)) (published c h)

-- the first message of the buffer past an id
abbrev pub first_past : List ℕ → Id → List Event → Option Message
first_past c after h = find (λ m. is_past m.id after) (buffer c h)

-- each message's id is past those of the ones before it
abbrev pub IsRising : List Message → Type 0
IsRising [] = Unit {0}
IsRising (m ∷ rest) = AllByRecursion (λ later. IsPast later.id m.id) rest × IsRising rest

-- under the stamp rule the ids of a channel rise strictly over the whole history, through every removal
abbrev pub RisingLaw : Type 0
RisingLaw = (workers : ℕ) (h : List Event) → IsStamped workers h → (c : List ℕ) → IsRising (published c h)
