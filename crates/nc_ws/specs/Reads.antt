-- The reads of one call of a framer, one after the other, and what they gave.
use Rattle.std.specs.Prelude.{◌≡◌, ◌⊎◌, ℕ, List, [], ◌∷◌, ◌++◌, Option, Some, Result, Ok, Err, Bool, true, false, length, ◌==◌}
use Rattle.tungstenite.specs.Socket.{Socket, Reads, Flushed}
use Rattle.tungstenite.specs.declared.message.Message.{Message}
use Rattle.tungstenite.specs.declared.error.Error.{Error}
use Rattle.nc_ws.specs.declared.pipe.Pipe.{Pipe}
use Rattle.nc_ws.specs.declared.told.Told.{Told}
use Rattle.nc_ws.specs.declared.told.Told.TheVariants.{Data, Control, Close, Empty, NoMemory, Failed}
use Rattle.nc_ws.specs.declared.framer.FrameIn.{FrameIn}
use Rattle.nc_ws.specs.declared.framer.FrameIn.TheVariants as Item
use Rattle.nc_ws.specs.declared.framer.FrameFault.{FrameFault}
use Rattle.nc_ws.specs.Told.{told_of}
use Rattle.nc_ws.specs.Items.{written, is_failure}

-- the bytes that a pipe has left, and those that were written into it
abbrev pub left : Pipe → Option (List ℕ)
left pipe = Some pipe.bytes.items

abbrev pub shown : Pipe → Option (List ℕ)
shown pipe = Some pipe.out.items

-- one read of a socket, as `tungstenite` promises it, in a word
abbrev pub Reading : Socket Pipe → Socket Pipe → Told → Type 0
Reading s t told = (r : Result Message Error) × Reads left s t r × (told ≡ told_of r)

-- the list has a message for a read that gave one
abbrev pub message_items : Told → List FrameIn
message_items Data = Item.Message ∷ []
message_items told = []

-- what the socket wrote in a read, as a reply, and then the read's message
abbrev pub items_at : Socket Pipe → Socket Pipe → Told → List FrameIn
items_at s t told = written s.stream.out.items t.stream.out.items ++ message_items told

-- a read is the last: it found the pipe empty, or gave a close or a fault
abbrev pub is_last : Told → List ℕ → Bool
is_last Data left_bytes = false
is_last Control left_bytes = false
is_last Close left_bytes = true
is_last Empty left_bytes = length left_bytes == 0
is_last NoMemory left_bytes = true
is_last Failed left_bytes = true

-- what a read told, and the socket after it
abbrev pub Turn : Type 0
Turn = Told × Socket Pipe

-- reads lead from one socket to another, and none of them is the last
abbrev pub Follows : Socket Pipe → List Turn → Socket Pipe → Type 0
Follows s [] t = t ≡ s
Follows s (turn ∷ turns) t = Reading s turn.1 turn.0 × (is_last turn.0 turn.1.stream.bytes.items ≡ false) × Follows turn.1 turns t

-- what they gave, in order
abbrev pub items_of : Socket Pipe → List Turn → List FrameIn
items_of s [] = []
items_of s (turn ∷ turns) = items_at s turn.1 turn.0 ++ items_of turn.1 turns

-- a piece was put behind the bytes that weren't read yet, and nothing is written
pub record Fed (old : Pipe) (piece : List ℕ) (new : Pipe) : Type 0 where
  pub bytes : new.bytes.items ≡ old.bytes.items ++ piece
  pub out : new.out.items ≡ []

-- reads lead up to one that found the pipe empty, and the list is what they gave
pub record Stopped (start end : Socket Pipe) (list : List FrameIn) : Type 0 where
  pub turns : List Turn
  pub last : Socket Pipe
  pub follows : Follows start turns last
  pub stop : Reading last end Empty
  pub empty : end.stream.bytes.items ≡ []
  pub gave : list ≡ items_of start turns ++ items_at last end Empty

-- reads lead up to one that gave a close, whose answer was written then, and the list is what they gave, and Closed
pub record Closes (start end : Socket Pipe) (list : List FrameIn) : Type 0 where
  pub turns : List Turn
  pub last : Socket Pipe
  pub closed : Socket Pipe
  pub follows : Follows start turns last
  pub close : Reading last closed Close
  pub flushed : Flushed shown closed end
  pub answered : end.output ≡ []
  pub gave : list ≡ items_of start turns ++ items_at last closed Close ++ written closed.stream.out.items end.stream.out.items ++ Item.Closed ∷ []

abbrev pub Ended : Socket Pipe → Socket Pipe → List FrameIn → Type 0
Ended start end list = Stopped start end list ⊎ Closes start end list

-- reads lead up to one that failed for another cause than the empty pipe or want of memory
pub record Fails (start end : Socket Pipe) : Type 0 where
  pub turns : List Turn
  pub last : Socket Pipe
  pub follows : Follows start turns last
  pub failed : Reading last end Failed

-- what a call gave: its piece joined the bytes that weren't read yet, and reads came to their end
abbrev pub Takes : Pipe → List ℕ → Socket Pipe → List FrameIn → Type 0
Takes old piece new list = (start : Socket Pipe) × Fed old piece start.stream × Ended start new list

-- the same where a read failed
abbrev pub FailsBehind : Pipe → List ℕ → Socket Pipe → Type 0
FailsBehind old piece new = (start : Socket Pipe) × Fed old piece start.stream × Fails start new

-- what the last read of a call leads to: a close is answered, and a fault is told
abbrev pub Finishes : Told → Socket Pipe → Socket Pipe → List FrameIn → Result (List FrameIn) FrameFault → Type 0
Finishes Close s t list (Ok all) =
    Flushed shown s t × (t.output ≡ []) × (all ≡ list ++ written s.stream.out.items t.stream.out.items ++ Item.Closed ∷ [])
Finishes Failed s t list (Ok all) = ⊥
Finishes NoMemory s t list (Ok all) = ⊥
Finishes told s t list (Ok all) = (t ≡ s) × (all ≡ list)
Finishes told s t list (Err fault) = is_failure fault ≡ true → (told ≡ Failed) × (t ≡ s)
