-- What a reader answers behind its last step.
use Rattle.std.proofs.Common.{◌≡◌, ℕ, true, false, List, ◌++◌, drop, refl, subst}
use Rattle.nc_http_in.specs.Held.{Part, IsItemFrom, LeadsFrom, Answers}
use Rattle.nc_http_in.specs.Answered.{HasOneLines}
use Rattle.nc_http_in.specs.Answering.{stage_of, next_of, left_of, is_short}
use Rattle.nc_http_in.specs.declared.next.Next.{Next}
use Rattle.nc_http_in.specs.declared.next.Next.TheVariants.{More}
use Rattle.nc_http_in.specs.declared.stage.Stage.{Stage}
use Rattle.nc_http_in.specs.declared.stage.Found.{Found}
use Rattle.nc_http_in.specs.declared.stage.Found.TheVariants as founds
use Rattle.nc_http_in.specs.declared.stage.Turn.{Turn}
use Rattle.nc_http_in.specs.Reading.{part_of, Notes, StillWaits, IsSettled, IsEndOfTurns}

-- what is kept and answered of what was found
notes_of : (part : Part) (bytes rest : List ℕ) (found : Found) → IsSettled part bytes rest found → Notes (stage_of found) (left_of found rest)
notes_of part bytes rest (founds.On stage) s = absurd s
notes_of part bytes rest (founds.Waits stage) s = s.0.0
notes_of part bytes rest (founds.Whole q) s = tt
notes_of part bytes rest (founds.Refused status) s = refl
notes_of part bytes rest (founds.Short stage) s = s.0

answer_of : (part : Part) (bytes rest : List ℕ) (found : Found) → IsSettled part bytes rest found → is_short found ≡ false → Answers (record { part = part; behind = bytes }) (record { part = part_of (stage_of found); behind = left_of found rest }) (next_of found)
answer_of part bytes rest (founds.On stage) s e = absurd s
answer_of part bytes rest (founds.Waits stage) s e = (s.1, s.0.1)
answer_of part bytes rest (founds.Whole q) s e = (s.0, refl)
answer_of part bytes rest (founds.Refused status) s e = (s, refl)
answer_of part bytes rest (founds.Short stage) s e = cc e

lines_of : (part : Part) (bytes rest : List ℕ) (found : Found) → IsSettled part bytes rest found → HasOneLines (next_of found)
lines_of part bytes rest (founds.On stage) s = tt
lines_of part bytes rest (founds.Waits stage) s = tt
lines_of part bytes rest (founds.Whole q) s = s.1
lines_of part bytes rest (founds.Refused status) s = tt
lines_of part bytes rest (founds.Short stage) s = tt

goes_on_of : (part : Part) (bytes rest : List ℕ) (found : Found) → IsSettled part bytes rest found → is_short found ≡ true → LeadsFrom part bytes (part_of (stage_of found)) (left_of found rest)
goes_on_of part bytes rest (founds.On stage) s e = absurd s
goes_on_of part bytes rest (founds.Waits stage) s e = cc e
goes_on_of part bytes rest (founds.Whole q) s e = cc e
goes_on_of part bytes rest (founds.Refused status) s e = cc e
goes_on_of part bytes rest (founds.Short stage) s e = s.1

-- the same of the values that the reader has then
pub notes_kept : (part : Part) (bytes kept left : List ℕ) (turn : Turn) (stage : Stage) → IsEndOfTurns part bytes turn → kept ≡ drop turn.taken bytes → left ≡ left_of turn.found kept → stage ≡ stage_of turn.found → Notes stage left
notes_kept part bytes kept left turn stage ends cut is there =
    rw (there, is, cut) (notes_of part bytes (drop turn.taken bytes) turn.found ends.1)

pub answered : (part : Part) (bytes kept left : List ℕ) (turn : Turn) (stage : Stage) (next : Next) → IsEndOfTurns part bytes turn → kept ≡ drop turn.taken bytes → left ≡ left_of turn.found kept → stage ≡ stage_of turn.found → next ≡ next_of turn.found → is_short turn.found ≡ false → Answers (record { part = part; behind = bytes }) (record { part = part_of stage; behind = left }) next
answered part bytes kept left turn stage next ends cut is there told e =
    rw (there, is, cut, told) (answer_of part bytes (drop turn.taken bytes) turn.found ends.1 e)

pub lines : (part : Part) (bytes : List ℕ) (turn : Turn) (next : Next) → IsEndOfTurns part bytes turn → next ≡ next_of turn.found → HasOneLines next
lines part bytes turn next ends told = rw told (lines_of part bytes (drop turn.taken bytes) turn.found ends.1)

pub goes_on : (part : Part) (bytes kept left : List ℕ) (turn : Turn) (stage : Stage) → IsEndOfTurns part bytes turn → kept ≡ drop turn.taken bytes → left ≡ left_of turn.found kept → stage ≡ stage_of turn.found → is_short turn.found ≡ true → LeadsFrom part bytes (part_of stage) left
goes_on part bytes kept left turn stage ends cut is there e =
    rw (there, is, cut) (goes_on_of part bytes (drop turn.taken bytes) turn.found ends.1 e)

pub ends_from : (stage first : Stage) (text bytes : List ℕ) (turn : Turn) → first ≡ stage → text ≡ bytes → IsEndOfTurns (part_of first) text turn → IsEndOfTurns (part_of stage) bytes turn
ends_from stage first text bytes turn e f ends = subst (λ (s : Stage). IsEndOfTurns (part_of s) bytes turn) e (subst (λ (l : List ℕ). IsEndOfTurns (part_of first) l turn) f ends)

-- where the same part is next and more bytes are wanted
pub still_answers : (old new : Stage) (bytes : List ℕ) → StillWaits old new bytes → Answers (record { part = part_of old; behind = bytes }) (record { part = part_of new; behind = bytes }) More
still_answers old new bytes w = (w.2, λ more i p. subst (λ (part : Part). IsItemFrom part (bytes ++ more) i) w.1 p)
