-- Closed stands only as the last of what reads gave.
use Rattle.std.proofs.Common.{◌≡◌, ℕ, false, List, [], ◌∷◌, ◌++◌, inl, inr, refl, sym, subst, drop, length}
use Rattle.tungstenite.specs.Socket.{Socket}
use Rattle.nc_ws.specs.declared.pipe.Pipe.{Pipe}
use Rattle.nc_ws.specs.declared.told.Told.{Told}
use Rattle.nc_ws.specs.declared.told.Told.TheVariants.{Data, Control, Close, Empty, NoMemory, Failed}
use Rattle.nc_ws.specs.declared.framer.FrameIn.{FrameIn}
use Rattle.nc_ws.specs.declared.framer.FrameIn.TheVariants as Item
use Rattle.nc_ws.specs.Items.{is_closed, ClosedIsLast, reply_of, written}
use Rattle.nc_ws.specs.Reads.{Turn, Stopped, Closes, Ended, message_items, items_at, items_of}

-- no item of a list is Closed
IsOpen : List FrameIn → Type 0
IsOpen [] = Unit {0}
IsOpen (item ∷ items) = (is_closed item ≡ false) × IsOpen items

open_append : (xs ys : List FrameIn) → IsOpen xs → IsOpen ys → IsOpen (xs ++ ys)
unfolding IsOpen
open_append [] ys a b = b
open_append (x ∷ xs) ys a b = (a.0, open_append xs ys a.1 b)

open_reply : (bytes : List ℕ) → IsOpen (reply_of bytes)
unfolding IsOpen
open_reply [] = tt
open_reply (b ∷ bs) = (refl, tt)

open_message : (told : Told) → IsOpen (message_items told)
unfolding IsOpen
open_message Data = (refl, tt)
open_message Control = tt
open_message Close = tt
open_message Empty = tt
open_message NoMemory = tt
open_message Failed = tt

open_items_at : (s t : Socket Pipe) (told : Told) → IsOpen (items_at s t told)
open_items_at s t told = open_append (written s.stream.out.items t.stream.out.items) (message_items told) (open_reply (drop (length s.stream.out.items) t.stream.out.items)) (open_message told)

open_items : (s : Socket Pipe) (turns : List Turn) → IsOpen (items_of s turns)
unfolding IsOpen
open_items s [] = tt
open_items s (turn ∷ turns) = open_append (items_at s turn.1 turn.0) (items_of turn.1 turns) (open_items_at s turn.1 turn.0) (open_items turn.1 turns)

open_is_last : (xs : List FrameIn) → IsOpen xs → ClosedIsLast xs
unfolding IsOpen
open_is_last [] a = tt
open_is_last (x ∷ []) a = tt
open_is_last (x ∷ y ∷ xs) a = (a.0, open_is_last (y ∷ xs) a.1)

behind_is_last : (xs : List FrameIn) (item : FrameIn) → IsOpen xs → ClosedIsLast (xs ++ item ∷ [])
unfolding IsOpen
behind_is_last [] item a = tt
behind_is_last (x ∷ []) item a = (a.0, tt)
behind_is_last (x ∷ y ∷ xs) item a = (a.0, behind_is_last (y ∷ xs) item a.1)

stopped_last : (s t : Socket Pipe) (list : List FrameIn) → Stopped s t list → ClosedIsLast list
stopped_last s t list e =
    subst ClosedIsLast (sym e.gave)
    (open_is_last (items_of s e.turns ++ items_at e.last t Empty) (open_append (items_of s e.turns) (items_at e.last t Empty) (open_items s e.turns) (open_items_at e.last t Empty)))

closes_last : (s t : Socket Pipe) (list : List FrameIn) → Closes s t list → ClosedIsLast list
closes_last s t list e =
    let reply = written e.closed.stream.out.items t.stream.out.items in
    let before = items_of s e.turns ++ items_at e.last e.closed Close in
    subst ClosedIsLast (sym e.gave)
    (behind_is_last (before ++ reply) Item.Closed
    (open_append before reply
    (open_append (items_of s e.turns) (items_at e.last e.closed Close) (open_items s e.turns) (open_items_at e.last e.closed Close))
    (open_reply (drop (length e.closed.stream.out.items) t.stream.out.items))))

-- what a call gave has Closed only as its last
pub ended_last : (s t : Socket Pipe) (list : List FrameIn) → Ended s t list → ClosedIsLast list
ended_last s t list (inl e) = stopped_last s t list e
ended_last s t list (inr e) = closes_last s t list e
