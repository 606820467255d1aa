-- What holds of the items of bytes, and of a reader that is fed them in pieces.
use Rattle.std.specs.Prelude.{◌≡◌, ◌≢◌, ℕ, List, [], ◌∷◌, ◌++◌}
use Rattle.nc_types.specs.declared.request.Request.{Request}
use Rattle.nc_http_in.specs.Items.{Item, neither, IsItem, followed}
use Rattle.nc_http_in.specs.Lists.{End, Items}
use Rattle.nc_http_in.specs.Held.{Held, fresh, fed, GoesOn, Answers, HasRead, HasLeft, AnswerTells}
use Rattle.nc_http_in.specs.declared.next.Next.{Next}
use Rattle.nc_http_in.specs.declared.next.Next.TheVariants.{Request as Asked}

-- an item that isn't neither stays the same, whatever follows
abbrev pub ItemStays : Type 0
ItemStays = (bytes more : List ℕ) (i : Item) → i ≢ neither → IsItem bytes i → IsItem (bytes ++ more) (followed more i)

-- no bytes have two items
abbrev pub OneItem : Type 0
OneItem = (bytes : List ℕ) (i j : Item) → IsItem bytes i → IsItem bytes j → i ≡ j

-- no bytes have two lists of items
abbrev pub OneList : Type 0
OneList = (bytes : List ℕ) (requests others : List Request) (end other : End) → Items bytes requests end → Items bytes others other
    → (requests ≡ others) × (end ≡ other)

-- a new reader has read nothing
abbrev pub ReadsNothing : Type 0
ReadsNothing = HasRead (fresh []) [] []

-- a piece that is fed comes behind all bytes
abbrev pub ReadsPiece : Type 0
ReadsPiece = (held : Held) (bytes : List ℕ) (requests : List Request) (piece : List ℕ) → HasRead held bytes requests
    → HasRead (fed held piece) (bytes ++ piece) requests

-- an answer tells the next item of all bytes
abbrev pub TellsNext : Type 0
TellsNext = (old new : Held) (next : Next) (bytes : List ℕ) (requests : List Request) → HasRead old bytes requests → Answers old new next
    → AnswerTells bytes requests new next

-- what goes on has read what was read
abbrev pub StaysRead : Type 0
StaysRead = (old new : Held) (bytes : List ℕ) (requests : List Request) → HasRead old bytes requests → GoesOn old new → HasRead new bytes requests

-- behind a request that was answered the reader has all that was fed and not yet answered
abbrev pub LeavesRest : Type 0
LeavesRest = (old new : Held) (q : Request) (bytes : List ℕ) (requests : List Request) → HasRead old bytes requests → Answers old new (Asked q)
    → HasLeft new bytes (requests ++ q ∷ [])

-- and so has it when more is fed
abbrev pub RestGrows : Type 0
RestGrows = (held : Held) (bytes : List ℕ) (requests : List Request) (piece : List ℕ) → HasLeft held bytes requests
    → HasLeft (fed held piece) (bytes ++ piece) requests
