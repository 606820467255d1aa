-- Where a subscriber begins, as its request says it.
use Rattle.std.specs.Prelude.{◌≡◌, ◌≢◌, ◌-◌, ◌&&◌, ℕ, ℤ, negsuc, Bool, List, [], ◌∷◌, length, take, drop, codes, Option, Some, None, replicate, nat_eq, if◌then◌else◌}
use Rattle.std.specs.List.{starts_with, ends_with}
use Rattle.nc_types.specs.Cursor.{CursorAt}
use Rattle.nc_types.specs.Settings.{SettingsAt}
use Rattle.nc_types.specs.declared.request.Request.{Request}
use Rattle.nc_types.specs.declared.start.Start.{Start}
use Rattle.nc_types.specs.declared.start.Start.TheVariants as starts
use Rattle.nc_ident.specs.Date.{SpellsDate}
use Rattle.nc_ident.specs.Spelling.{SpellsTags, SpellsId}
use Rattle.nc_accept.specs.Fields.{values, items, is_word_among, first}
use Rattle.nc_route.specs.Query.{argument, query_of}

-- a WebSocket is asked for: an item of an `Upgrade` field is `websocket`
abbrev pub asks_socket : Request → Bool
asks_socket q = is_word_among (codes "websocket") (items (codes "Upgrade") q.fields)

-- what a request gives to begin at: nothing, a date, a date and tags, or an id
pub data Given : Type 0 where
  Nothing : Given
  Date : List ℕ → Given
  DateAndTags : List ℕ → List ℕ → Given
  Id : List ℕ → Given

-- a text without `W/` at its front
abbrev pub without_weak : List ℕ → List ℕ
without_weak text = if starts_with nat_eq text (codes "W/") then drop 2 text else text

-- a text without its quotation marks, where one stands at its front and another at its end
abbrev pub without_quotes : List ℕ → List ℕ
without_quotes text =
    if starts_with nat_eq text (codes "\"") && ends_with nat_eq (drop 1 text) (codes "\"") then take (length (drop 1 text) - 1) (drop 1 text) else text

-- the tags in the value of an `If-None-Match` field
abbrev pub tags_in : List ℕ → List ℕ
tags_in value = without_quotes (without_weak value)

abbrev pub given_by_date : List ℕ → Option (List ℕ) → Given
given_by_date date None = Date date
given_by_date date (Some tags) = DateAndTags date (tags_in tags)

-- what a long poll gives, by its first `If-Modified-Since` and its first `If-None-Match`: tags without a date are ignored
abbrev pub given_by_poll : Option (List ℕ) → Option (List ℕ) → Given
given_by_poll None tags = Nothing
given_by_poll (Some date) tags = given_by_date date tags

-- what the opening of a WebSocket gives, by its argument `last_event_id`
abbrev pub given_by_socket : List ℕ → Given
given_by_socket [] = Nothing
given_by_socket (b ∷ bs) = Id (b ∷ bs)

abbrev pub poll_given : Request → Given
poll_given q = given_by_poll (first (values (codes "If-Modified-Since") q.fields)) (first (values (codes "If-None-Match") q.fields))

abbrev pub socket_given : Request → Given
socket_given q = given_by_socket (argument (codes "last_event_id") (query_of q.query))

abbrev pub given : Request → Given
given q = if asks_socket q then socket_given q else poll_given q

-- ---- what is given, read as the start of so many names

abbrev pub IsNoDate : List ℕ → Type 0
IsNoDate text = (time : ℕ) → SpellsDate text time → ⊥

-- a date is given, and the text is none
abbrev pub HasNoDate : Given → Type 0
HasNoDate (Date date) = IsNoDate date
HasNoDate (DateAndTags date tags) = IsNoDate date
HasNoDate _ = ⊥

-- tags or an id are given, and the text spells none, of any number of names
abbrev pub AreMalformed : Given → Type 0
AreMalformed (DateAndTags date text) = (tags : List ℤ) → SpellsTags text tags → ⊥
AreMalformed (Id text) = (cursor : CursorAt) → SpellsId text cursor → ⊥
AreMalformed _ = ⊥

-- tags or an id are given, of another number of names
abbrev pub AreOthers : ℕ → Given → Type 0
AreOthers n (DateAndTags date text) = (tags : List ℤ) × SpellsTags text tags × (length tags ≢ n)
AreOthers n (Id text) = (cursor : CursorAt) × SpellsId text cursor × (length cursor.tags ≢ n)
AreOthers n _ = ⊥

-- where a subscriber begins that gives nothing
abbrev pub configured : SettingsAt → Start
configured settings = if settings.newest then starts.Newest else starts.Oldest

-- the start of a time and tags
abbrev pub start_at : ℕ → List ℤ → Start
start_at time tags = starts.Given (record { time = time; tags = tags })

-- the start that is given
abbrev pub IsGivenStart : SettingsAt → ℕ → Given → Start → Type 0
IsGivenStart settings n Nothing start = start ≡ configured settings
IsGivenStart settings n (Date date) start = (time : ℕ) × SpellsDate date time × (start ≡ start_at time (replicate n (negsuc 0)))
IsGivenStart settings n (DateAndTags date text) start =
    (time : ℕ) × SpellsDate date time × (tags : List ℤ) × SpellsTags text tags × (length tags ≡ n) × (start ≡ start_at time tags)
IsGivenStart settings n (Id text) start = (cursor : CursorAt) × SpellsId text cursor × (length cursor.tags ≡ n) × (start ≡ starts.Given cursor)
