-- The socket of a framer that took nothing yet.
use Rattle.std.specs.Prelude.{◌≡◌, [], Some, false}
use Rattle.tungstenite.specs.Socket.{Socket, IsFresh}
use Rattle.tungstenite.specs.declared.Role.TheVariants.{Server}
use Rattle.nc_ws.specs.declared.pipe.Pipe.{Pipe}

-- a server's socket on an empty pipe, between messages, that takes masked frames and messages of at most 65,536 bytes
pub record IsBegun (socket : Socket Pipe) : Type 0 where
  pub fresh : IsFresh socket socket.stream Server
  pub unread : socket.stream.bytes.items ≡ []
  pub unwritten : socket.stream.out.items ≡ []
  pub message_limit : socket.conn.config.max_message_size ≡ Some 65536
  pub frame_limit : socket.conn.config.max_frame_size ≡ Some 65536
  pub masked : socket.conn.config.accept_unmasked_frames ≡ false
