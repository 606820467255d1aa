-- What a line says keeps the limits.
use Rattle.std.proofs.Common.{ℕ, ◌<◌, Bool, true, false, List, length, sym, subst}
use Rattle.nc_types.specs.Channel.{AreDistinct}
use Rattle.nc_types.specs.declared.start.Start.{Start}
use Rattle.nc_types.specs.declared.start.Start.TheVariants.{Oldest, Newest, Given}
use Rattle.nc_multi.proofs.Distinct.{are-distinct, some-distinct}
use Rattle.nc_script.specs.declared.command.Command.{Command}
use Rattle.nc_script.specs.declared.command.Command.TheVariants as commands
use Rattle.nc_script.specs.declared.line.Line.{Line}
use Rattle.nc_script.specs.declared.line.Line.TheVariants.{Blank}
use Rattle.nc_script.specs.Word.{Word}
use Rattle.nc_script.specs.Judge.{says, chosen}
use Rattle.nc_script.specs.Part.{names, distinct_names, worker, SpellsStart}
use Rattle.nc_script.specs.Line.{two_workers, command_line, is_blank, full_line}
use Rattle.nc_script.specs.Script.{FitsNames, AreChannels, Keeps, LinesFit}
use Rattle.nc_script.proofs.Parts.{some_name}

-- a worker that is judged is there
below : (workers n w : ℕ) (word : Word) → (worker workers word n).Says w → w < workers
below workers n w word is = subst (λ (v : ℕ). v < workers) (sym is.0) is.1

both_below : (workers : ℕ) (text : List ℕ) (p : ℕ × ℕ) → (two_workers workers text).Says p → (p.0 < workers) × (p.1 < workers)
both_below workers text p is =
    let kept = is.2.2.2 in
    rw kept.2.2 (below workers is.2.0 kept.0 is.0.0 kept.1, below workers is.2.2.0 kept.2.0 is.0.1 kept.2.1)

start_fits : (list : List (List ℕ)) (text : List ℕ) (begin : Start) → SpellsStart (length list) text begin → FitsNames list begin
start_fits list text Oldest is = tt
start_fits list text Newest is = tt
start_fits list text (Given cursor) is = is.1

are_channels : (word begin_word : Word) (cs list : List (List ℕ)) (begin : Start) → (names word).Says cs → (distinct_names word cs).Says list → SpellsStart (length list) begin_word.bytes begin → AreChannels list begin
are_channels word begin_word cs list begin named is starts =
    let some = subst (λ (l : List (List ℕ)). 0 < length l) (sym named.0) (some_name word) in
    record {
      some = subst (λ (l : List (List ℕ)). 0 < length l) (sym is.0) (some-distinct cs some);
      distinct = subst (λ (l : List (List ℕ)). AreDistinct l) (sym is.0) (are-distinct cs);
      fits = start_fits list begin_word.bytes begin starts;
    }

command_keeps : (workers : ℕ) (text : List ℕ) (l : Line) (c : Command) → (command_line workers text c).Says l → Keeps workers l
command_keeps workers text l commands.Clock is =
    let kept = is.2.2.2 in
    rw kept.2 (below workers is.2.0 kept.0 is.0.0 kept.1, is.2.2.1.1)
command_keeps workers text l commands.Reap is = rw is.2.2.2 (below workers is.2.0 is.2.2.0 is.0 is.2.2.1)
command_keeps workers text l commands.Post is = rw is.2.2.2.2.2 (below workers is.2.0 is.2.2.0 is.0.first is.2.2.1)
command_keeps workers text l commands.Poll is =
    let kept = is.2.2.2 in
    let listed = kept.2.1 in
    let started = kept.2.2 in
    rw started.2 (below workers is.2.0 kept.0 is.0.first kept.1, are_channels is.0.third is.0.fourth listed.0 kept.2.0 started.0 listed.1 listed.2 started.1)
command_keeps workers text l commands.Carry is = rw is.2 (both_below workers text is.0 is.1)
command_keeps workers text l commands.Take is = rw is.2 (both_below workers text is.0 is.1)
command_keeps workers text l commands.Settle is = rw is.2.2 is.2.1.1
command_keeps workers text l commands.Drop is = rw is.2.2.2.2 (below workers is.2.0 is.2.2.0 is.0.0 is.2.2.1)
command_keeps workers text l commands.Info is = rw is.2.2.2.2 (below workers is.2.0 is.2.2.0 is.0.0 is.2.2.1)

written_keeps : (workers : ℕ) (text : List ℕ) (l : Line) (b : Bool) → (chosen b (says Blank) (full_line workers text)).Says l → Keeps workers l
written_keeps workers text l true is = rw is tt
written_keeps workers text l false is = command_keeps workers text l is.0 is.2

pub lines_keep : LinesFit
lines_keep workers text l is = written_keeps workers text l (is_blank text) is.2
