-- What a drawn number says, and the line that says it to a replay.
use Rattle.std.specs.Prelude.{ℕ, suc, ◌+◌, ◌/◌, ◌%◌, List, ◌++◌, codes, if◌then◌else◌, ◌==◌, nat_le}
use Rattle.std.specs.Fmt.{decimal}
use Rattle.nc_load.specs.Generator.{drawn, high}
use Rattle.nc_load.specs.declared.draw.Kind.{Kind}
use Rattle.nc_load.specs.declared.draw.Kind.TheVariants.{Post, Poll, Clock, Reap, Remove}
use Rattle.nc_load.specs.declared.draw.Draw.{Draw}

-- the kind of a line, by a value of 0 to 7
abbrev pub kind_of : ℕ → Kind
kind_of value =
    if nat_le value 2 then Post
    else (if nat_le value 4 then Poll
    else (if value == 5 then Clock
    else (if value == 6 then Reap
    else Remove)))

-- what a number says by its higher bits: a worker of four, a channel of eight and the one behind it, and a kind
abbrev pub draw_of : ℕ → Draw
draw_of r = record { worker = r % 4; channel = r / 4 % 8; other = (r / 4 % 8 + 1) % 8; kind = kind_of (r / 32 % 8) }

-- the name of a channel: a `c` and its digit
abbrev pub name : ℕ → List ℕ
name n = codes "c" ++ decimal n

-- a publish whose body is the line's number in decimal
abbrev pub post_line : Draw → ℕ → List ℕ
post_line d i = codes "post " ++ decimal d.worker ++ codes " " ++ name d.channel ++ codes " \"" ++ decimal i ++ codes "\""

-- a subscriber of two channels, whose number is that of the line, from the oldest message on
abbrev pub poll_line : Draw → ℕ → List ℕ
poll_line d i =
    codes "poll " ++ decimal d.worker ++ codes " " ++ decimal i ++ codes " " ++ name d.channel ++ codes "," ++ name d.other ++ codes " 0:-,-"

abbrev pub clock_line : ℕ → ℕ → List ℕ
clock_line w t = codes "clock " ++ decimal w ++ codes " " ++ decimal t

abbrev pub reap_line : Draw → List ℕ
reap_line d = codes "reap " ++ decimal d.worker

abbrev pub drop_line : Draw → List ℕ
drop_line d = codes "drop " ++ decimal d.worker ++ codes " " ++ name d.channel

-- the line of a kind, for what was drawn and the line's number; a clock goes on by a second each 16 lines
abbrev pub line_of_kind : Kind → Draw → ℕ → List ℕ
line_of_kind Post d i = post_line d i
line_of_kind Poll d i = poll_line d i
line_of_kind Clock d i = clock_line d.worker (1000 + i / 16)
line_of_kind Reap d i = reap_line d
line_of_kind Remove d i = drop_line d

abbrev pub line : Draw → ℕ → List ℕ
line d i = line_of_kind d.kind d i

-- the line of a number, counted from 0: a seed has made one step more for it than that number
abbrev pub line_at : ℕ → ℕ → List ℕ
line_at seed i = line (draw_of (high (drawn seed (suc i)))) i
