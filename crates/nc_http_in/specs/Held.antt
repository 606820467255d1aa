-- What a reader holds of the bytes not yet answered, and which bytes it stands for.
use Rattle.std.specs.Prelude.{◌≡◌, ℕ, Bool, true, false, List, [], ◌∷◌, ◌++◌, if◌then◌else◌}
use Rattle.nc_types.specs.declared.request.Request.{Request}
use Rattle.nc_http_head.specs.Ends.{trailer_end}
use Rattle.nc_http_in.specs.Items.{Item, whole, refused, neither, Within, Trailed, Data as DataOf, Chunks, Counted, IsItem}
use Rattle.nc_http_in.specs.Lists.{Begins, Items, bad, unended}
use Rattle.nc_http_in.specs.declared.next.Next.{Next}
use Rattle.nc_http_in.specs.declared.next.Next.TheVariants.{Request as Asked, More, Bad}

-- what is next: an item from its beginning, or a part of a request whose earlier parts were taken off
pub data Part : Type 0 where
  begun : Part
  counted : Request → ℕ → Part
  line : Request → Part
  chunk : Request → ℕ → Part
  trailer : Request → Part
  over : ℕ → Part

-- the part that is next, and the bytes from there on
pub record Held : Type 0 where
  pub part : Part
  pub behind : List ℕ

-- the item that these bytes make of the part
abbrev pub IsItemFrom : Part → List ℕ → Item → Type 0
IsItemFrom begun bytes i = IsItem bytes i
IsItemFrom (counted q n) bytes i = Counted q n bytes i
IsItemFrom (line q) bytes i = (count : ℕ) × Chunks count q bytes i
IsItemFrom (chunk q size) bytes i = (count : ℕ) × DataOf (Chunks count) q size bytes i
IsItemFrom (trailer q) bytes i = Within 16384 (trailer_end bytes) bytes (Trailed q) i
IsItemFrom (over status) bytes i = i ≡ refused status

-- whatever follows, what is found from this part on is found from that one
abbrev pub LeadsFrom : Part → List ℕ → Part → List ℕ → Type 0
LeadsFrom part bytes next rest = (more : List ℕ) (i : Item) → IsItemFrom next (rest ++ more) i → IsItemFrom part (bytes ++ more) i

-- a reader of nothing
abbrev pub fresh : List ℕ → Held
fresh bytes = record { part = begun; behind = bytes }

-- a refusal was answered
abbrev pub is_over : Part → Bool
is_over begun = false
is_over (counted q n) = false
is_over (line q) = false
is_over (chunk q size) = false
is_over (trailer q) = false
is_over (over status) = true

-- a piece comes behind the bytes, but behind a refusal nothing is kept
abbrev pub fed : Held → List ℕ → Held
fed held piece = if is_over held.part then held else record { part = held.part; behind = held.behind ++ piece }

-- what is left once the bytes were handed out
abbrev pub emptied : Held → Held
emptied held = if is_over held.part then held else fresh []

-- the reader goes on from where it was: whatever follows, it finds what it would have found
abbrev pub GoesOn : Held → Held → Type 0
GoesOn old new = LeadsFrom old.part old.behind new.part new.behind

-- what a reader answers, and what it holds then
abbrev pub Answers : Held → Held → Next → Type 0
Answers old new (Asked q) = IsItemFrom old.part old.behind (whole q new.behind) × (new.part ≡ begun)
Answers old new More = IsItemFrom old.part old.behind neither × GoesOn old new
Answers old new (Bad status) = IsItemFrom old.part old.behind (refused status) × (new ≡ record { part = over status; behind = [] })

-- ---- all bytes that were fed

-- whatever follows, the item that the reader finds is that of these bytes
abbrev pub StandsFor : Held → List ℕ → Type 0
StandsFor held bytes = (more : List ℕ) (i : Item) → IsItemFrom held.part (held.behind ++ more) i → IsItem (bytes ++ more) i

-- of all bytes that were fed these requests were answered, and the reader stands for the rest
abbrev pub HasRead : Held → List ℕ → List Request → Type 0
HasRead held bytes requests = (rest : List ℕ) × Begins bytes requests rest × StandsFor held rest

-- nothing of a further request was taken off: what the reader has is all that was fed and not yet answered
abbrev pub HasLeft : Held → List ℕ → List Request → Type 0
HasLeft held bytes requests = Begins bytes requests held.behind × (held.part ≡ begun)

-- what an answer says of all bytes that were fed: the next request, or that there is none and how they end
abbrev pub AnswerTells : List ℕ → List Request → Held → Next → Type 0
AnswerTells bytes requests new (Asked q) = HasRead new bytes (requests ++ q ∷ [])
AnswerTells bytes requests new More = Items bytes requests unended × HasRead new bytes requests
AnswerTells bytes requests new (Bad status) = Items bytes requests (bad status) × HasRead new bytes requests
