-- What a read of a socket came to, in a word.
use Rattle.std.specs.Prelude.{Result, Ok, Err}
use Rattle.std.specs.IoError.{error_kind}
use Rattle.std.specs.declared.io.ErrorKind.{ErrorKind}
use Rattle.std.specs.declared.io.ErrorKind.TheVariants as Kind
use Rattle.tungstenite.specs.declared.message.Message.{Message}
use Rattle.tungstenite.specs.declared.message.Message.TheVariants as Sent
use Rattle.tungstenite.specs.declared.error.Error.{Error}
use Rattle.tungstenite.specs.declared.error.Error.TheVariants as Cause
use Rattle.nc_ws.specs.declared.told.Told.{Told}
use Rattle.nc_ws.specs.declared.told.Told.TheVariants.{Data, Control, Close, Empty, NoMemory, Failed}

-- an error of the pipe: it would block where it is empty
abbrev pub told_of_kind : ErrorKind → Told
told_of_kind Kind.WouldBlock = Empty
told_of_kind Kind.OutOfMemory = NoMemory
told_of_kind kind = Failed

-- an error of a read
abbrev pub told_of_error : Error → Told
told_of_error (Cause.Io cause) = told_of_kind (error_kind cause)
told_of_error Cause.OutOfMemory = NoMemory
told_of_error error = Failed

-- a message that a read gave
abbrev pub told_of_message : Message → Told
told_of_message (Sent.Text text) = Data
told_of_message (Sent.Binary bytes) = Data
told_of_message (Sent.Ping bytes) = Control
told_of_message (Sent.Pong bytes) = Control
told_of_message (Sent.Close frame) = Close

abbrev pub told_of : Result Message Error → Told
told_of (Ok message) = told_of_message message
told_of (Err error) = told_of_error error
