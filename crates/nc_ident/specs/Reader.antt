-- Reading tags and ids from left to right.
use Rattle.std.specs.Prelude.{ℕ, ℤ, pos, negsuc, zero, suc, Bool, true, false, List, [], ◌∷◌, ◌++◌, length, drop, codes, ◌&&◌, if◌then◌else◌}
use Rattle.nc_types.specs.Id.{last_second, last_tag}
use Rattle.nc_types.specs.Cursor.{CursorAt, as_cursor}
use Rattle.nc_grammar.specs.Reading.{Read, Found, go_on, map_read}
use Rattle.nc_grammar.specs.Digits.{digits_at}
use Rattle.nc_grammar.specs.Label.{label_at}
use Rattle.nc_grammar.specs.Maybe.{begins_with, two_at}

-- reads a tag: `-`, or 1 to 5 digits up to 65,535
abbrev pub spelled_tag_at : List ℕ → Read ℤ
spelled_tag_at t = if begins_with 45 t then Found (negsuc 0) (drop 1 t) else map_read pos (digits_at 5 last_tag t)

-- reads a tag behind an opening bracket, and the closing one: no later tag may stand in brackets
abbrev pub spelled_closed_tag_at : List ℕ → Read (ℤ × Bool)
spelled_closed_tag_at t = go_on (spelled_tag_at t) (λ g r. map_read (λ x. (g, false)) (label_at (codes "]") r))

-- reads a tag, in brackets where it has them and they are unused, and tells whether a later one may stand in brackets
abbrev pub spelled_element_at : Bool → List ℕ → Read (ℤ × Bool)
spelled_element_at unused t = if unused && begins_with 91 t then spelled_closed_tag_at (drop 1 t) else map_read (λ g. (g, unused)) (spelled_tag_at t)

-- reads at most n tags, each behind a comma
abbrev pub more_spelled_tags_at : ℕ → Bool → List ℕ → Read (List ℤ)
more_spelled_tags_at zero unused t = Found [] t
more_spelled_tags_at (suc n) unused t =
    if begins_with 44 t then go_on (spelled_element_at unused (drop 1 t)) (λ e rest. map_read (λ gs. e.0 ∷ gs) (more_spelled_tags_at n e.1 rest))
    else Found [] t

-- reads one tag or more, joined by commas
abbrev pub spelled_tags_at : List ℕ → Read (List ℤ)
spelled_tags_at t = go_on (spelled_element_at true t) (λ e rest. map_read (λ gs. e.0 ∷ gs) (more_spelled_tags_at (length rest) e.1 rest))

-- a tag is put behind those that were read
abbrev pub put_last : List ℤ → ℤ × Bool → List ℤ × Bool
put_last gs e = (gs ++ e.0 ∷ [], e.1)

-- reads a time of 1 to 12 digits, a colon and tags
abbrev pub spelled_id_at : List ℕ → Read CursorAt
spelled_id_at t = map_read as_cursor (two_at (codes ":") (digits_at 12 last_second) spelled_tags_at t)
