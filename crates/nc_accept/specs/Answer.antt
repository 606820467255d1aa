-- The server's answer to an opening (RFC 6455, section 4.2.2).
use Rattle.std.specs.Prelude.{ℕ, Bool, true, false, List, [], ◌++◌, codes}
use Rattle.base64.specs.Engines.{standard}
use Rattle.base64.specs.GeneralPurpose.{encode_of}
use Rattle.sha1.specs.Sha1.{sha1}
use Rattle.nc_accept.specs.declared.opening.Opening.{Opening}

-- a line, ended by CR LF
abbrev pub line : List ℕ → List ℕ
line text = text ++ codes "\r\n"

-- base64 of the SHA-1 of the key's text and the fixed text behind it (point 5.4 of that section)
abbrev pub accept_value : List ℕ → List ℕ
accept_value key = encode_of standard (sha1 (key ++ codes "258EAFA5-E914-47DA-95CA-C5AB0DC85B11"))

-- the field of the protocol where it was asked for
abbrev pub protocol_line : Bool → List ℕ
protocol_line true = line (codes "Sec-WebSocket-Protocol: ws+meta.nchan")
protocol_line false = []

-- the status line, the fields and the empty line behind them
abbrev pub answer_text : Opening → List ℕ
answer_text opening =
    line (codes "HTTP/1.1 101 Switching Protocols")
    ++ line (codes "Upgrade: websocket")
    ++ line (codes "Connection: Upgrade")
    ++ line (codes "Sec-WebSocket-Accept: " ++ accept_value opening.key)
    ++ protocol_line opening.meta
    ++ line []
