-- Where the head, a chunk line and the trailer of a request end (RFC 9112, sections 2.1 and 7.1).
use Rattle.std.specs.Prelude.{◌≡◌, ℕ, ◌+◌, ◌≤◌, List, [], ◌∷◌, length, take, Option, Some, None, Bool, true, false, if◌then◌else◌, ◌==◌, ◌&&◌, ◌||◌}
use Rattle.nc_http_head.specs.declared.ends.Place.{Place}
use Rattle.nc_http_head.specs.declared.ends.Place.TheVariants.{Start, Return, Inside}
use Rattle.nc_http_head.specs.declared.ends.Ending.{Ending}
use Rattle.nc_http_head.specs.declared.ends.Ending.TheVariants.{At, Open}

abbrev pub is_blank : ℕ → Bool
is_blank b = (b == 13) || (b == 10)

-- a text from its first byte on that is neither CR nor LF
abbrev pub unblanked : List ℕ → List ℕ
unblanked [] = []
unblanked (b ∷ bytes) = if is_blank b then unblanked bytes else b ∷ bytes

-- a line begins here, or only a CR stands between
abbrev pub is_line_start : Place → Bool
is_line_start Start = true
is_line_start Return = true
is_line_start Inside = false

abbrev pub behind_return : Place → Place
behind_return Start = Return
behind_return Return = Inside
behind_return Inside = Inside

-- where the byte behind this one stands
abbrev pub place_after : Place → ℕ → Place
place_after place b = if b == 10 then Start else (if b == 13 then behind_return place else Inside)

-- where the byte behind a text stands
abbrev pub place_over : Place → List ℕ → Place
place_over place [] = place
place_over place (b ∷ bytes) = place_over (place_after place b) bytes

-- the byte is the LF of an empty line
abbrev pub ends_here : Place → ℕ → Bool
ends_here place b = (b == 10) && is_line_start place

-- how many bytes there are up to the end of the first empty line, behind k bytes
abbrev pub end_from : ℕ → Place → List ℕ → Option ℕ
end_from k place [] = None
end_from k place (b ∷ bytes) = if ends_here place b then Some (k + 1) else end_from (k + 1) (place_after place b) bytes

-- a head ends with the first empty line behind its first line
abbrev pub head_end : List ℕ → Option ℕ
head_end bytes = end_from 0 Inside bytes

-- a trailer ends with its first empty line, which may be its first line
abbrev pub trailer_end : List ℕ → Option ℕ
trailer_end bytes = end_from 0 Start bytes

-- how many bytes there are up to the first LF, behind k bytes
abbrev pub line_from : ℕ → List ℕ → Option ℕ
line_from k [] = None
line_from k (b ∷ bytes) = if b == 10 then Some (k + 1) else line_from (k + 1) bytes

abbrev pub line_end : List ℕ → Option ℕ
line_end bytes = line_from 0 bytes

-- a search found this end, or none, and then it tells where the byte behind the text stands
abbrev pub IsEnding : Option ℕ → Place → Ending → Type 0
IsEnding end place (At n) = end ≡ Some n
IsEnding end place (Open next) = (end ≡ None) × (next ≡ place)

-- the first `seen` bytes have no empty line, and the place is that of the next byte
abbrev pub Seen : Place → ℕ → Place → List ℕ → Type 0
Seen first seen place bytes = (seen ≤ length bytes) × (end_from 0 first (take seen bytes) ≡ None) × (place ≡ place_over first (take seen bytes))

-- the first `seen` bytes have no LF
abbrev pub SeenLine : ℕ → List ℕ → Type 0
SeenLine seen bytes = (seen ≤ length bytes) × (line_from 0 (take seen bytes) ≡ None)
