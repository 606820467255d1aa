-- The small steps of spools.
use Rattle.std.specs.Prelude.{ℕ, ◌+◌, Bool, List, [], ◌∷◌, ◌++◌, Option, None, Some, fold}
use Rattle.nc_types.specs.Id.{Id}
use Rattle.nc_types.specs.Channel.{owner_of}
use Rattle.nc_spool_state.specs.declared.place.Place.{Place}
use Rattle.nc_spool_state.specs.declared.place.Place.TheVariants.{Asked}
use Rattle.nc_spool_state.specs.declared.spool.Reader.{Reader}
use Rattle.nc_spool_state.specs.Key.{KeyAt, id_at}
use Rattle.nc_spool_state.specs.Spool.{SpoolAt, with_reader}
use Rattle.nc_spool_state.specs.Shelf.{spool_of, others, with_spool}
use Rattle.nc_spool.specs.declared.ask.Ask.{Ask}
use Rattle.nc_spool.specs.declared.ask.Ask.TheVariants.{Look, Part}
use Rattle.nc_spool.specs.declared.fact.Fact.{Fact}
use Rattle.nc_spool.specs.declared.fact.Fact.TheVariants.{Out, Ended}
use Rattle.nc_spool.specs.declared.board.Board.{Board}

-- the places of a new spool, whose looks draw the numbers from `next` on
abbrev pub fresh_places : ℕ → List (List ℕ) → List Place
fresh_places next [] = []
fresh_places next (c ∷ names) = Asked next None ∷ fresh_places (next + 1) names

-- a new spool, where nobody stands yet
abbrev pub fresh_spool : ℕ → KeyAt → SpoolAt
fresh_spool next key = record { key = key; places = fresh_places next key.list; readers = [] }

-- a fact is told, behind the others
abbrev pub told : Fact → Board → Board
told fact b = record b { facts = b.facts ++ fact ∷ [] }

-- something is asked of the owner of a channel
abbrev pub made : List ℕ → Ask → Board → Board
made c ask b = told (Out (record { to = owner_of b.workers c; ask = ask })) b

-- a look draws a number
abbrev pub looked : List ℕ → Id → ℕ → Board → Board
looked c after fence b = made c (Look b.next c after fence) (record b { next = b.next + 1 })

-- a look with the fence 0 for each name, from a place on
abbrev pub asked_from : KeyAt → ℕ → List (List ℕ) → Board → Board
asked_from key j [] b = b
asked_from key j (c ∷ names) b = asked_from key (j + 1) names (looked c (id_at key j) 0 b)

-- a spool is put on the shelf
abbrev pub shelved : SpoolAt → Board → Board
shelved s b = record b { shelf = with_spool s b.shelf }

-- a spool that stands, or else a new one of a key
abbrev pub standing : Option SpoolAt → KeyAt → Board → SpoolAt
standing None key b = fresh_spool b.next key
standing (Some s) key b = s

-- a new spool makes a look for each place, and one that stands makes none
abbrev pub opened : Option SpoolAt → KeyAt → Board → Board
opened None key b = asked_from key 0 key.list b
opened (Some s) key b = b

-- the spool of a key, taken from the shelf or new
abbrev pub taken_or_new : KeyAt → Board → SpoolAt
taken_or_new key b = standing (spool_of key b.shelf) key b

-- the board beside that spool
abbrev pub without_spool : KeyAt → Board → Board
without_spool key b = opened (spool_of key b.shelf) key (record b { shelf = others key b.shelf })

-- a subscriber enters the spool of a key
abbrev pub entered : KeyAt → Reader → Board → Board
entered key r b = shelved (with_reader r (taken_or_new key b)) (without_spool key b)

-- a subscriber is a member of a channel no longer
abbrev pub parted : ℕ → Board → List ℕ → Board
parted k b c = made c (Part c k) b

-- a subscriber is ended, and parts from some channels
abbrev pub ended : ℕ → Bool → List (List ℕ) → Board → Board
ended k deleted names b = fold (parted k) (told (Ended k deleted) b) names
