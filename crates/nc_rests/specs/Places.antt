-- The places of spools as they are kept: what is so of each, and what keeps it.
use Rattle.std.specs.Prelude.{◌≡◌, ℕ, false, List, ◌∷◌, Option, None, Some}
use Rattle.std.specs.Option.{option_map}
use Rattle.nc_types.specs.Id.{Id, is_past}
use Rattle.nc_types.specs.Channel.{owner_of}
use Rattle.nc_journal.specs.History.{Along, own}
use Rattle.nc_journal.specs.declared.event.Event.{Event}
use Rattle.nc_journal.specs.declared.event.Event.TheVariants.{Made, Took}
use Rattle.nc_journal.specs.declared.alert.AlertLine.{AlertLine}
use Rattle.nc_journal.specs.declared.alert.AlertLine.TheVariants.{Look, LookAnswer, Notice}
use Rattle.nc_journal.specs.declared.word.AlertKind.{AlertKind}
use Rattle.nc_owner_laws.specs.InOrder.{LooksAt, HasLook}
use Rattle.nc_spool_state.specs.declared.place.Quiet.{Quiet}
use Rattle.nc_spool_state.specs.declared.place.Place.{Place}
use Rattle.nc_spool_state.specs.declared.hear.News.{News}
use Rattle.nc_spool_state.specs.declared.hear.Heard.{Heard}
use Rattle.nc_spool_state.specs.declared.hear.Heard.TheVariants.{Stays, Forgets, Looks, Finds}
use Rattle.nc_spool_state.specs.Hear.{learned, notice_says, gone_says}
use Rattle.nc_spool_state.specs.declared.place.Place.TheVariants as places
use Rattle.nc_history.specs.Packets.{takes, IsNext}
use Rattle.nc_rests.specs.Asking.{HasAsk, IsAsked}
use Rattle.nc_rests.specs.Keeping.{is_signal}
use Rattle.nc_rests.specs.Rests.{Nothing, Found, RestsAt}
use Rattle.nc_rests.specs.Telling.{OwnerTells}

-- an earlier answer that is kept beside a new look
abbrev pub EarlierHolds : ℕ → ℕ → List ℕ → Id → Option Quiet → List Event → Type 0
EarlierHolds workers w c after None h = Unit {0}
EarlierHolds workers w c after (Some quiet) h = RestsAt workers w c after (Nothing quiet.q quiet.floor) h

-- what is so of a place of worker w, at a channel and past an id: its look was asked for, or it rests
abbrev pub PlaceHolds : ℕ → ℕ → List ℕ → Id → Place → List Event → Type 0
PlaceHolds workers w c after (places.Asked number earlier) h = HasAsk number c after (own w h) × EarlierHolds workers w c after earlier h
PlaceHolds workers w c after (places.Nothing quiet) h = RestsAt workers w c after (Nothing quiet.q quiet.floor) h
PlaceHolds workers w c after (places.Found q id owner g) h = RestsAt workers w c after (Found q id) h

-- what is so of a place by what it makes of what it heard; where it looks again nothing yet
abbrev pub HeardHolds : ℕ → ℕ → List ℕ → Id → Place → Heard → List Event → Type 0
HeardHolds workers w c after place Stays h = PlaceHolds workers w c after place h
HeardHolds workers w c after place (Forgets forgot) h = PlaceHolds workers w c after forgot h
HeardHolds workers w c after place Looks h = Unit {0}
HeardHolds workers w c after place (Finds found) h = PlaceHolds workers w c after found h

-- an event keeps it, but that the worker takes an alert of the channel's owner
abbrev pub PlaceStays : Type 0
PlaceStays = (workers w : ℕ) (c : List ℕ) (after : Id) (place : Place) (e : Event) (h : List Event) → takes (owner_of workers c) w e ≡ false
    → PlaceHolds workers w c after place h → PlaceHolds workers w c after place (e ∷ h)

-- such an alert keeps it too, unless it signals the channel
abbrev pub PlaceTakes : Type 0
PlaceTakes = (workers w : ℕ) (c : List ℕ) (after : Id) (place : Place) (from n : ℕ) (kind : AlertKind) (a : AlertLine) (h : List Event)
    → IsNext from w a h → (from ≡ owner_of workers c → is_signal c a ≡ false)
    → PlaceHolds workers w c after place h → PlaceHolds workers w c after place (Took w from n kind ∷ h)

-- a place is asked by the making of its look; and so it is behind a fence, beside its earlier answer
abbrev pub PlaceAsks : Type 0
PlaceAsks = (workers w to number : ℕ) (c : List ℕ) (after : Id) (fence n : ℕ) (earlier : Option Quiet) (h : List Event)
    → EarlierHolds workers w c after earlier h
    → PlaceHolds workers w c after (places.Asked number earlier) (Made w to n (Look number c after fence) ∷ h)

-- the answer to its look
abbrev pub PlaceLearns : Type 0
PlaceLearns = (workers w : ℕ) (c : List ℕ) (after : Id) (number q floor : ℕ) (news : Option News) (g slot : Option ℕ) (n : ℕ)
    (kind : AlertKind) (h : List Event) → let o = owner_of workers c in
    let found = option_map (λ (x : News). x.id) news in
    IsNext o w (LookAnswer number q floor found g slot) h → HasLook o q w number floor found (own o h) → IsAsked w number c after (own o h)
    → Along LooksAt (own o h)
    → PlaceHolds workers w c after (learned after (record { q = q; floor = floor }) news) (Took w o n kind ∷ h)

-- a message of its channel
abbrev pub PlaceNotices : Type 0
PlaceNotices = (workers w : ℕ) (c : List ℕ) (after : Id) (place : Place) (news : News) (g slot : ℕ) (n : ℕ) (kind : AlertKind)
    (h : List Event) → let o = owner_of workers c in
    OwnerTells o (own o h) → IsNext o w (Notice c news.id g slot) h → PlaceHolds workers w c after place h
    → HeardHolds workers w c after place (notice_says news (is_past news.id after) place) (Took w o n kind ∷ h)

-- its channel is gone
abbrev pub PlaceLoses : Type 0
PlaceLoses = (workers w : ℕ) (c : List ℕ) (after : Id) (place : Place) (n : ℕ) (kind : AlertKind) (h : List Event) → let o = owner_of workers c in
    PlaceHolds workers w c after place h → HeardHolds workers w c after place (gone_says place) (Took w o n kind ∷ h)

-- what it made of what it heard stays so until the place is treated, and after
abbrev pub HeardStays : Type 0
HeardStays = (workers w : ℕ) (c : List ℕ) (after : Id) (place : Place) (heard : Heard) (e : Event) (h : List Event)
    → takes (owner_of workers c) w e ≡ false → HeardHolds workers w c after place heard h → HeardHolds workers w c after place heard (e ∷ h)
