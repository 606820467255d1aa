-- Marks of runs of slots, and what can be sought by them.
use Rattle.std.specs.Prelude.{◌≡◌, ℕ, zero, suc, ◌+◌, Bool, true, false, not, nat_le, nat_lt, List, [], ◌∷◌, if◌then◌else◌, ◌==◌, ◌&&◌, ◌||◌, Option, None, Some, slice_index_or}
use Rattle.nc_types.specs.Id.{Id, is_past, no_id}
use Rattle.nc_buffer.specs.declared.entry.Entry.{Entry}
use Rattle.nc_buffer.specs.declared.mark.Mark.{Mark}
use Rattle.nc_buffer.specs.declared.mark.Sought.{Sought}
use Rattle.nc_buffer.specs.declared.mark.Sought.TheVariants.{Any, Expired, Spent, Past}
use Rattle.nc_buffer.specs.Buffer.{is_expired, is_spent}

-- the sooner of two seconds, where 0 is never
abbrev pub sooner : ℕ → ℕ → ℕ
sooner a b = if (a == 0) || (not (b == 0) && nat_lt b a) then b else a

-- the later of two ids
abbrev pub later : Id → Id → Id
later a b = if is_past a b then a else b

-- the mark of slots that keep nothing
abbrev pub no_mark : Mark
no_mark = record { kept = 0; soonest = 0; spent = false; latest = no_id }

-- the mark of a slot that keeps an entry
abbrev pub mark_of : Entry → Mark
mark_of e = record { kept = 1; soonest = e.expires; spent = is_spent e; latest = e.id }

-- the mark of a slot
abbrev pub mark_in : Option Entry → Mark
mark_in None = no_mark
mark_in (Some e) = mark_of e

-- the mark of two runs of slots
abbrev pub both : Mark → Mark → Mark
both a b = record { kept = a.kept + b.kept; soonest = sooner a.soonest b.soonest; spent = a.spent || b.spent; latest = later a.latest b.latest }

-- whether an entry is one that is sought
abbrev pub passes : Sought → Entry → Bool
passes Any e = true
passes (Expired now) e = is_expired now e
passes Spent e = is_spent e
passes (Past after) e = is_past e.id after

-- whether a mark tells of one that is sought
abbrev pub tells : Sought → Mark → Bool
tells Any m = not (m.kept == 0)
tells (Expired now) m = not (m.soonest == 0) && nat_le m.soonest now
tells Spent m = m.spent
tells (Past after) m = is_past m.latest after

-- the mark at a place, and past the end that of slots that keep nothing
abbrev pub mark_at : List Mark → ℕ → Mark
mark_at marks k = slice_index_or marks k no_mark

-- how many entries are kept in the first slots, so many, by their marks
abbrev pub kept_before : ℕ → List Mark → ℕ
kept_before zero ms = 0
kept_before (suc n) [] = 0
kept_before (suc n) (m ∷ ms) = m.kept + kept_before n ms

-- the entries that slots keep
abbrev pub kept : List (Option Entry) → List Entry
kept [] = []
kept (None ∷ slots) = kept slots
kept (Some e ∷ slots) = e ∷ kept slots

-- each slot has its mark, and the marks behind are those of slots that keep nothing
abbrev pub Shows : List (Option Entry) → List Mark → Type 0
Shows [] [] = Unit {0}
Shows [] (m ∷ ms) = (m ≡ no_mark) × Shows [] ms
Shows (slot ∷ slots) [] = ⊥
Shows (slot ∷ slots) (m ∷ ms) = (m ≡ mark_in slot) × Shows slots ms
