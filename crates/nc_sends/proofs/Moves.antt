-- How a cursor moves at each place.
use Rattle.std.proofs.Common.{◌≡◌, ◌≢◌, ◌⊎◌, inl, inr, ℕ, ◌<◌, ◌≤◌, ℤ, negsuc, Bool, true, false, cond, List, length, replicate, set, get_or, refl, ap, ◌∙◌, arith}
use Rattle.std.specs.Prelude.{◌==◌}
use Rattle.std.proofs.lemmas.Bool.{eqb-true, cases_eq, cases_lt}
use Rattle.std.proofs.lemmas.List.{get_or-set_same, get_or-set_other, get_or-replicate, get_or_past, set_past, length-replicate, length-set}
use Rattle.nc_types.specs.Id.{Id}
use Rattle.nc_types.specs.Cursor.{moved, CursorAt, cursor_id, blank_tags, tags_at}

blank_case : (tags : List ℤ) (j : ℕ) → (j < length tags) ⊎ (length tags ≤ j) → get_or (replicate (length tags) (negsuc 0)) j (negsuc 0) ≡ negsuc 0
blank_case tags j (inl lt) = get_or-replicate (length tags) j (negsuc 0) (negsuc 0) lt
blank_case tags j (inr le) = get_or_past (replicate (length tags) (negsuc 0)) j (negsuc 0) (omega (arith, le, length-replicate (length tags) (negsuc 0)))

blank_at : (tags : List ℤ) (j : ℕ) → get_or (blank_tags tags) j (negsuc 0) ≡ negsuc 0
blank_at tags j = blank_case tags j (cases_lt j (length tags))

-- an id has no tag and the time of another one
abbrev pub IsBlank : Id → Id → Type 0
IsBlank id new = (new.time ≡ id.time) × (new.tag ≡ negsuc 0)

tags_case : (old : CursorAt) (j : ℕ) (id new : Id) (b : Bool) → (id.time == old.time) ≡ b → new.time ≡ id.time → new.tag ≡ get_or (cond b old.tags (blank_tags old.tags)) j (negsuc 0) → (new ≡ cursor_id old j) ⊎ IsBlank id new
tags_case old j id new true is t g = inl (λ k. record { time = (t ∙ eqb-true id.time old.time is) k; tag = g k })
tags_case old j id new false is t g = inr (t, g ∙ blank_at old.tags j)

-- at another place it has what it had, or no message of the id's second
pub moves_other : (old : CursorAt) (i j : ℕ) (id : Id) → j ≢ i → (cursor_id (moved old i id) j ≡ cursor_id old j) ⊎ IsBlank id (cursor_id (moved old i id) j)
moves_other old i j id other = tags_case old j id (cursor_id (moved old i id) j) (id.time == old.time) refl refl (get_or-set_other (tags_at old.tags old.time id.time) i j id.tag (negsuc 0) other)

length_tags : (old : CursorAt) (time : ℕ) → length (tags_at old.tags old.time time) ≡ length old.tags
length_tags old time = by (time == old.time)
  where
    by : (b : Bool) → length (cond b old.tags (blank_tags old.tags)) ≡ length old.tags
    by true = refl
    by false = length-replicate (length old.tags) (negsuc 0)

here_id : (id new : Id) → new.time ≡ id.time → new.tag ≡ id.tag → new ≡ id
here_id id new t g = λ k. record { time = t k; tag = g k }

-- at the place of the id it has the id
pub moves_here : (old : CursorAt) (i : ℕ) (id : Id) → i < length old.tags → cursor_id (moved old i id) i ≡ id
moves_here old i id lt = here_id id (cursor_id (moved old i id) i) refl (get_or-set_same (tags_at old.tags old.time id.time) i id.tag (negsuc 0) (omega (arith, lt, length_tags old id.time)))

-- at each place a moved cursor has the id, or what it had, or no message of the id's second
pub data Moves (old : CursorAt) (i j : ℕ) (id new : Id) : Type 0 where
  Here : j ≡ i → new ≡ id → Moves old i j id new
  Same : new ≡ cursor_id old j → Moves old i j id new
  Blank : IsBlank id new → Moves old i j id new

past_end : (old : CursorAt) (i : ℕ) (id : Id) → length old.tags ≤ i → cursor_id (moved old i id) i ≡ record { time = id.time; tag = negsuc 0 }
past_end old i id le =
    let tags = tags_at old.tags old.time id.time in
    let far : length tags ≤ i = omega (arith, le, length_tags old id.time) in
    let none : get_or (set tags i id.tag) i (negsuc 0) ≡ negsuc 0 = ap (λ l. get_or l i (negsuc 0)) (set_past tags i id.tag far) ∙ get_or_past tags i (negsuc 0) far in
    λ k. record { time = id.time; tag = none k }

here_case : (old : CursorAt) (i j : ℕ) (id : Id) → j ≡ i → (i < length old.tags) ⊎ (length old.tags ≤ i) → Moves old i j id (cursor_id (moved old i id) j)
here_case old i j id is (inl lt) = Here is (ap (cursor_id (moved old i id)) is ∙ moves_here old i id lt)
here_case old i j id is (inr le) =
    let new : cursor_id (moved old i id) j ≡ record { time = id.time; tag = negsuc 0 } = ap (cursor_id (moved old i id)) is ∙ past_end old i id le in
    Blank (refl, ap (λ (x : Id). x.tag) new)

other_case : (old : CursorAt) (i j : ℕ) (id new : Id) → (new ≡ cursor_id old j) ⊎ IsBlank id new → Moves old i j id new
other_case old i j id new (inl same) = Same same
other_case old i j id new (inr blank) = Blank blank

place_case : (old : CursorAt) (i j : ℕ) (id : Id) → (j ≡ i) ⊎ (j ≢ i) → Moves old i j id (cursor_id (moved old i id) j)
place_case old i j id (inl is) = here_case old i j id is (cases_lt i (length old.tags))
place_case old i j id (inr other) = other_case old i j id (cursor_id (moved old i id) j) (moves_other old i j id other)

pub moves : (old : CursorAt) (i j : ℕ) (id : Id) → Moves old i j id (cursor_id (moved old i id) j)
moves old i j id = place_case old i j id (cases_eq j i)

apart_case : (old : CursorAt) (j : ℕ) (id new : Id) (b : Bool) → (id.time == old.time) ≡ b → new.time ≡ id.time → new.tag ≡ get_or (cond b old.tags (blank_tags old.tags)) j (negsuc 0) → (new ≡ cursor_id old j) ⊎ (IsBlank id new × ((id.time == old.time) ≡ false))
apart_case old j id new true is t g = inl (λ k. record { time = (t ∙ eqb-true id.time old.time is) k; tag = g k })
apart_case old j id new false is t g = inr ((t, g ∙ blank_at old.tags j), is)

-- at another place it has what it had, or no message of the id's second, which is another one
pub moves_apart : (old : CursorAt) (i j : ℕ) (id : Id) → j ≢ i → (cursor_id (moved old i id) j ≡ cursor_id old j) ⊎ (IsBlank id (cursor_id (moved old i id) j) × ((id.time == old.time) ≡ false))
moves_apart old i j id other = apart_case old j id (cursor_id (moved old i id) j) (id.time == old.time) refl refl (get_or-set_other (tags_at old.tags old.time id.time) i j id.tag (negsuc 0) other)

-- the tags of a moved cursor are as many as before
pub moved_tags : (old : CursorAt) (i : ℕ) (id : Id) → length (moved old i id).tags ≡ length old.tags
moved_tags old i id = length-set (tags_at old.tags old.time id.time) i id.tag ∙ length_tags old id.time
