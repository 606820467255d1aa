-- What the directives of a text without faults configure.
use Rattle.std.specs.Prelude.{ℕ, ◌+◌, Bool, true, false, List, [], ◌∷◌, codes, if◌then◌else◌, ◌||◌, Option, Some, None, position, map, unwrap_or, slice_get, filter, bytes_eq}
use Rattle.std.specs.List.{find, list_any, filter_map}
use Rattle.std.specs.Option.{option_and_then, option_or}
use Rattle.nc_types.specs.Settings.{SettingsAt}
use Rattle.nc_types.specs.Config.{ConfigAt, ListenAt}
use Rattle.nc_types.specs.declared.config.IdText.{IdText}
use Rattle.nc_types.specs.declared.config.Location.{Location}
use Rattle.nc_conf.specs.declared.table.Shape.{Shape}
use Rattle.nc_conf.specs.declared.table.Shape.TheVariants as shapes
use Rattle.nc_conf.specs.declared.table.Row.{Row}
use Rattle.nc_conf.specs.declared.syntax.Word.{Word}
use Rattle.nc_conf.specs.declared.syntax.Directive.{Directive}
use Rattle.nc_conf.specs.Value.{number, seconds, size, address, id_text}
use Rattle.nc_conf.specs.Table.{row_of}
use Rattle.nc_conf.specs.Faults.{is_named, is_word, is_exact, path_of, has_line}

-- the directive of a name in a block
abbrev pub line_in : List Directive → Option ℕ → List ℕ → Option Directive
line_in ds block name = find (is_named block name) ds

abbrev pub block_of : Directive → Option ℕ
block_of d = d.within

-- the block around a block
abbrev pub around : List Directive → Option ℕ → Option ℕ
around ds block = option_and_then block_of (option_and_then (slice_get ds) block)

-- a setting's directive: the block's own, else that of the block around it, else that of the next
abbrev pub inherited : List Directive → Option ℕ → List ℕ → Option Directive
inherited ds block name = option_or (line_in ds block name) (option_or (line_in ds (around ds block) name) (line_in ds (around ds (around ds block)) name))

abbrev pub first_of : List Word → Option (List ℕ)
first_of [] = None
first_of (w ∷ ws) = Some w.text

abbrev pub argument : Directive → Option (List ℕ)
argument d = first_of d.args

-- the number that an argument of a shape stands for
abbrev pub value : Shape → List ℕ → Option ℕ
value (shapes.Number low high) text = number low high text
value shapes.Seconds text = seconds text
value shapes.Size text = size text
value _ text = None

abbrev pub value_in : Directive → Row → Option ℕ
value_in d r = option_and_then (value r.shape) (argument d)

-- the number that a directive sets, by its row
abbrev pub value_of : Directive → Option ℕ
value_of d = option_and_then (value_in d) (row_of d.name.text)

abbrev pub number_or : ℕ → Option Directive → ℕ
number_or otherwise line = unwrap_or (option_and_then value_of line) otherwise

abbrev pub has_argument : List ℕ → Option Directive → Bool
has_argument text None = false
has_argument text (Some d) = list_any (is_word text) d.args

-- the settings of a block
abbrev pub settings_of : List Directive → Option ℕ → SettingsAt
settings_of ds block = record {
  length = number_or 10 (inherited ds block (codes "nchan_message_buffer_length"));
  timeout = number_or 3600 (inherited ds block (codes "nchan_message_timeout"));
  sub_timeout = number_or 0 (inherited ds block (codes "nchan_subscriber_timeout"));
  newest = has_argument (codes "newest") (inherited ds block (codes "nchan_subscriber_first_message"));
  max_name = number_or 1024 (inherited ds block (codes "nchan_max_channel_id_length"));
  max_body = number_or 65536 (inherited ds block (codes "client_max_body_size"));
}

-- the ways to subscribe: those that are named, or both where none is
abbrev pub is_way_of : List ℕ → List Word → Bool
is_way_of way [] = true
is_way_of way (w ∷ ws) = list_any (is_word way) (w ∷ ws)

abbrev pub allows : List ℕ → Option Directive → Bool
allows way None = false
allows way (Some d) = is_way_of way d.args

abbrev pub subscribes : List Directive → ℕ → List ℕ → Bool
subscribes ds block way = has_line ds block (codes "nchan_pubsub") || allows way (line_in ds (Some block) (codes "nchan_subscriber"))

abbrev pub id_of : Word → IdText
id_of w = id_text w.text

abbrev pub ids_of : Option Directive → List IdText
ids_of None = []
ids_of (Some d) = map id_of d.args

abbrev pub text_of : Option Word → List ℕ
text_of None = []
text_of (Some w) = w.text

-- a location, with the number of its directive
abbrev pub location_of : List Directive → ℕ → Directive → Location
location_of ds i d = record {
  exact = is_exact d.args;
  path = text_of (path_of d.args);
  publisher = has_line ds i (codes "nchan_publisher") || has_line ds i (codes "nchan_pubsub");
  longpoll = subscribes ds i (codes "longpoll");
  socket = subscribes ds i (codes "websocket");
  ids = ids_of (line_in ds (Some i) (codes "nchan_channel_id"));
  settings = settings_of ds (Some i);
}

abbrev pub has_name : List ℕ → Directive → Bool
has_name name d = bytes_eq d.name.text name

-- the locations among directives of the numbers from i on
abbrev pub locations_from : List Directive → ℕ → List Directive → List Location
locations_from ds i [] = []
locations_from ds i (d ∷ later) =
    if has_name (codes "location") d then location_of ds i d ∷ locations_from ds (i + 1) later else locations_from ds (i + 1) later

abbrev pub listened : Directive → Option ListenAt
listened d = option_and_then address (argument d)

-- the addresses of the `listen` lines, or one where there are none
abbrev pub addresses_or : List ListenAt → List ListenAt
addresses_or [] = record { host = codes "127.0.0.1"; port = 8080 } ∷ []
addresses_or (a ∷ more) = a ∷ more

abbrev pub addresses : List Directive → List ListenAt
addresses ds = addresses_or (filter_map listened (filter (has_name (codes "listen")) ds))

abbrev pub block_named : List Directive → List ℕ → Option ℕ
block_named ds name = position (has_name name) ds

-- the server's block, or where there is none the http block
abbrev pub base_block : List Directive → Option ℕ
base_block ds = option_or (block_named ds (codes "server")) (block_named ds (codes "http"))

abbrev pub config_of : List Directive → ConfigAt
config_of ds = record {
  workers = number_or 1 (line_in ds None (codes "worker_processes"));
  slots = number_or 1024 (line_in ds (block_named ds (codes "http")) (codes "nchan_slots"));
  listen = addresses ds;
  base = settings_of ds (base_block ds);
  locations = locations_from ds 0 ds;
}
