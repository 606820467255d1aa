-- Hearing: the answer to a look comes, a message was stored, a channel is gone.
use Rattle.std.specs.Prelude.{ℕ, List, Option, None, Some, fold, find}
use Rattle.nc_types.specs.Id.{Id, is_past}
use Rattle.nc_spool_state.specs.declared.place.Quiet.{Quiet}
use Rattle.nc_spool_state.specs.declared.place.Place.TheVariants.{Asked}
use Rattle.nc_spool_state.specs.declared.hear.News.{News}
use Rattle.nc_spool_state.specs.declared.hear.Heard.{Heard}
use Rattle.nc_spool_state.specs.declared.hear.Heard.TheVariants.{Stays, Forgets, Looks, Finds}
use Rattle.nc_spool_state.specs.Hear.{learned, notice_says, gone_says}
use Rattle.nc_spool_state.specs.Key.{KeyAt, name_at, id_at, place_of}
use Rattle.nc_spool_state.specs.Place.{place_awaiting}
use Rattle.nc_spool_state.specs.Spool.{SpoolAt, awaits, place_at, with_place}
use Rattle.nc_spool_state.specs.Shelf.{spool_of, others, without_first, keys_with}
use Rattle.nc_spool.specs.declared.board.Board.{Board}
use Rattle.nc_spool.specs.Board.{looked, shelved}
use Rattle.nc_spool.specs.Decide.{decided}

-- a look with the fence 0 at a place of a key
abbrev pub looked_again : KeyAt → ℕ → Board → Board
looked_again key j b = looked (name_at key j) (id_at key j) 0 b

-- a spool that was taken from the shelf, once a place of it heard something; one that finds a message decides
abbrev pub heeded : Heard → ℕ → SpoolAt → Board → Board
heeded Stays j s b = shelved s b
heeded (Forgets place) j s b = shelved (with_place j place s) b
heeded Looks j s b = shelved (with_place j (Asked b.next None) s) (looked_again s.key j b)
heeded (Finds place) j s b = decided (with_place j place s) b

-- the answer to a look at the place that awaits it, if there is one, after which the spool decides
abbrev pub answered_at : Option ℕ → Quiet → Option News → SpoolAt → Board → Board
answered_at None quiet news s b = shelved s b
answered_at (Some j) quiet news s b = decided (with_place j (learned (id_at s.key j) quiet news) s) b

-- the answer to the look of a number, in a spool that was taken from the shelf
abbrev pub answered_in : ℕ → Quiet → Option News → SpoolAt → Board → Board
answered_in number quiet news s b = answered_at (place_awaiting number s.places) quiet news s b

-- the same where there may be no such spool, and nothing happens
abbrev pub answered_by : Option SpoolAt → ℕ → Quiet → Option News → Board → Board
answered_by None number quiet news b = b
answered_by (Some s) number quiet news b = answered_in number quiet news s b

-- the answer to a look: it goes to the spool that awaits its number
abbrev pub answered : ℕ → Quiet → Option News → Board → Board
answered number quiet news b = answered_by (find (awaits number) b.shelf) number quiet news (record b { shelf = without_first (awaits number) b.shelf })

-- a stored message at the place of its channel, if there is one
abbrev pub noticed_place : Option ℕ → News → SpoolAt → Board → Board
noticed_place None news s b = shelved s b
noticed_place (Some j) news s b = heeded (notice_says news (is_past news.id (id_at s.key j)) (place_at s j)) j s b

-- a stored message in a spool that was taken from the shelf
abbrev pub noticed_in : List ℕ → News → SpoolAt → Board → Board
noticed_in c news s b = noticed_place (place_of c s.key.list) news s b

-- the same where there may be no such spool any more
abbrev pub noticed_by : Option SpoolAt → List ℕ → News → Board → Board
noticed_by None c news b = b
noticed_by (Some s) c news b = noticed_in c news s b

-- the spool of a key hears of a stored message, if it still stands
abbrev pub noticed_at : List ℕ → News → Board → KeyAt → Board
noticed_at c news b key = noticed_by (spool_of key b.shelf) c news (record b { shelf = others key b.shelf })

-- a message was stored: each spool that has the channel when the step begins hears of it, in ascending order
abbrev pub noticed : List ℕ → News → Board → Board
noticed c news b = fold (noticed_at c news) b (keys_with c b.shelf)

-- a removal at the place of the channel, if there is one
abbrev pub emptied_place : Option ℕ → SpoolAt → Board → Board
emptied_place None s b = shelved s b
emptied_place (Some j) s b = heeded (gone_says (place_at s j)) j s b

-- a removal in a spool that was taken from the shelf
abbrev pub emptied_in : List ℕ → SpoolAt → Board → Board
emptied_in c s b = emptied_place (place_of c s.key.list) s b

-- the same where there may be no such spool any more
abbrev pub emptied_by : Option SpoolAt → List ℕ → Board → Board
emptied_by None c b = b
emptied_by (Some s) c b = emptied_in c s b

-- the spool of a key hears of a removal, if it still stands
abbrev pub emptied_at : List ℕ → Board → KeyAt → Board
emptied_at c b key = emptied_by (spool_of key b.shelf) c (record b { shelf = others key b.shelf })

-- a channel is gone: each spool that has it hears of it, in ascending order
abbrev pub emptied : List ℕ → Board → Board
emptied c b = fold (emptied_at c) b (keys_with c b.shelf)
