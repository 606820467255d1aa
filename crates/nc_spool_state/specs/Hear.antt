-- What a place makes of what it hears: the answer to a look, a message that was stored, a channel that is gone.
use Rattle.std.specs.Prelude.{ℕ, Bool, Option, None, Some, if◌then◌else◌}
use Rattle.nc_types.specs.Id.{Id, is_past}
use Rattle.nc_spool_state.specs.declared.place.Quiet.{Quiet}
use Rattle.nc_spool_state.specs.declared.place.Place.{Place}
use Rattle.nc_spool_state.specs.declared.place.Place.TheVariants.{Asked, Nothing, Found}
use Rattle.nc_spool_state.specs.declared.hear.News.{News}
use Rattle.nc_spool_state.specs.declared.hear.Heard.{Heard}
use Rattle.nc_spool_state.specs.declared.hear.Heard.TheVariants.{Stays, Forgets, Looks, Finds}

-- a message as it is found at a place that rests on the look `q`
abbrev pub found_by : ℕ → News → Place
found_by q news = Found q news.id news.owner news.g

-- what a place knows after the answer to its look: a message, if there is one past its id
abbrev pub learned : Id → Quiet → Option News → Place
learned after quiet None = Nothing quiet
learned after quiet (Some news) = if is_past news.id after then found_by quiet.q news else Nothing quiet

-- what a place makes of a stored message, which is past its id or not: with nothing it finds the message or looks again;
-- asked beside an earlier answer it finds the message, resting on that answer's look, or forgets the answer
abbrev pub notice_says : News → Bool → Place → Heard
notice_says news past (Nothing quiet) = if past then Finds (found_by quiet.q news) else Looks
notice_says news past (Asked number (Some quiet)) = if past then Finds (found_by quiet.q news) else Forgets (Asked number None)
notice_says news past (Asked number None) = Stays
notice_says news past (Found q id owner g) = Stays

-- what a place makes of the removal of its channel: with nothing it looks again, and asked it forgets an earlier answer
abbrev pub gone_says : Place → Heard
gone_says (Nothing quiet) = Looks
gone_says (Asked number (Some quiet)) = Forgets (Asked number None)
gone_says (Asked number None) = Stays
gone_says (Found q id owner g) = Stays
