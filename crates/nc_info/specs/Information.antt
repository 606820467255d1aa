-- What is told of a channel, as a text of lines and as a JSON object (RFC 8259).
use Rattle.std.specs.Prelude.{ℕ, List, [], ◌∷◌, ◌++◌, codes, Option, Some, None}
use Rattle.std.specs.Fmt.{decimal}
use Rattle.nc_types.specs.Id.{Id}
use Rattle.nc_types.specs.Written.{id_text}
use Rattle.nc_types.specs.declared.info.Info.{Info}

abbrev pub line_feed : List ℕ
line_feed = 10 ∷ []

-- an id, or `-` where there is none
abbrev pub plain_id : Option Id → List ℕ
plain_id None = codes "-"
plain_id (Some id) = id_text id

-- three lines: how many messages are kept, how many members there are, and the last id
abbrev pub plain_text : Info → List ℕ
plain_text info =
    codes "queued messages: " ++ decimal info.messages ++ line_feed
    ++ codes "active subscribers: " ++ decimal info.members ++ line_feed
    ++ codes "last message id: " ++ plain_id info.last ++ line_feed

-- an id as a JSON string, or `null` where there is none
abbrev pub json_id : Option Id → List ℕ
json_id None = codes "null"
json_id (Some id) = codes "\"" ++ id_text id ++ codes "\""

-- one object of the same three, without a line end
abbrev pub json_text : Info → List ℕ
json_text info =
    codes "{\"messages\": " ++ decimal info.messages
    ++ codes ", \"subscribers\": " ++ decimal info.members
    ++ codes ", \"last_message_id\": " ++ json_id info.last ++ codes "}"
