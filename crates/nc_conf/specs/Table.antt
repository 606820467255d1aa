-- The table of directives.
use Rattle.std.specs.Prelude.{ℕ, Bool, true, false, List, [], ◌∷◌, codes, if◌then◌else◌, Option, Some, None, bytes_eq}
use Rattle.nc_conf.specs.declared.table.Block.{Block}
use Rattle.nc_conf.specs.declared.table.Block.TheVariants.{Main, Events, Http, Server, Location}
use Rattle.nc_conf.specs.declared.table.Standing.{Standing}
use Rattle.nc_conf.specs.declared.table.Standing.TheVariants.{In, Settings}
use Rattle.nc_conf.specs.declared.table.Shape.{Shape}
use Rattle.nc_conf.specs.declared.table.Shape.TheVariants as shapes
use Rattle.nc_conf.specs.declared.table.Row.{Row}

-- a directive that ends at its `;`, and stands once in a block
abbrev pub line : Standing → ℕ → ℕ → Shape → Row
line standing least most shape = record { standing = standing; opens = None; least = least; most = most; shape = shape; times = Some 1 }

-- a directive with a block and without arguments, that stands once in a block
abbrev pub block : Block → Block → Row
block place opens = record { standing = In place; opens = Some opens; least = 0; most = 0; shape = shapes.Nothing; times = Some 1 }

-- a setting, of one argument
abbrev pub setting : Shape → Row
setting shape = line Settings 1 1 shape

abbrev pub location_row : Row
location_row = record { standing = In Server; opens = Some Location; least = 1; most = 2; shape = shapes.Path; times = None }

abbrev pub listen_row : Row
listen_row = record { standing = In Server; opens = None; least = 1; most = 1; shape = shapes.Address; times = Some 16 }

-- each setting with its name
abbrev pub settings : List (List ℕ × Row)
settings =
    (codes "client_max_body_size", setting shapes.Size)
    ∷ (codes "nchan_message_buffer_length", setting (shapes.Number 0 1000000))
    ∷ (codes "nchan_message_timeout", setting shapes.Seconds)
    ∷ (codes "nchan_subscriber_timeout", setting shapes.Seconds)
    ∷ (codes "nchan_subscriber_first_message", setting shapes.First)
    ∷ (codes "nchan_max_channel_id_length", setting (shapes.Number 1 1024))
    ∷ []

-- each directive with its name
abbrev pub rows : List (List ℕ × Row)
rows =
    (codes "worker_processes", line (In Main) 1 1 (shapes.Number 1 16))
    ∷ (codes "events", block Main Events)
    ∷ (codes "worker_connections", line (In Events) 1 1 (shapes.Number 1 65535))
    ∷ (codes "http", block Main Http)
    ∷ (codes "nchan_slots", line (In Http) 1 1 (shapes.Number 1 4096))
    ∷ (codes "server", block Http Server)
    ∷ (codes "listen", listen_row)
    ∷ (codes "location", location_row)
    ∷ (codes "nchan_publisher", line (In Location) 0 1 shapes.HttpWord)
    ∷ (codes "nchan_subscriber", line (In Location) 0 2 shapes.Ways)
    ∷ (codes "nchan_pubsub", line (In Location) 0 0 shapes.Nothing)
    ∷ (codes "nchan_channel_id", line (In Location) 1 7 shapes.ChannelId)
    ∷ settings

-- the row of a name in a table
abbrev pub row_in : List (List ℕ × Row) → List ℕ → Option Row
row_in [] name = None
row_in (r ∷ rs) name = if bytes_eq name r.0 then Some r.1 else row_in rs name

abbrev pub row_of : List ℕ → Option Row
row_of name = row_in rows name

abbrev pub same_kind : Block → Block → Bool
same_kind Main Main = true
same_kind Events Events = true
same_kind Http Http = true
same_kind Server Server = true
same_kind Location Location = true
same_kind _ _ = false

abbrev pub takes_settings : Block → Bool
takes_settings Main = false
takes_settings Events = false
takes_settings Http = true
takes_settings Server = true
takes_settings Location = true

-- a directive may stand in a kind of block
abbrev pub stands_in : Standing → Block → Bool
stands_in (In place) kind = same_kind place kind
stands_in Settings kind = takes_settings kind
