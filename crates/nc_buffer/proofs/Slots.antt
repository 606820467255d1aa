-- Slots and their marks: what is found by the marks is what the entries say.
use Rattle.std.proofs.Common.{◌≡◌, ℕ, zero, suc, ◌+◌, ◌<◌, ◌≤◌, Bool, true, false, not, cond, ltb, List, [], ◌∷◌, ◌++◌, length, take, replicate, get_or, set, filter, find, is_some, Option, Some, None, Result, Ok, Err, IfOk, refl, sym, ◌∙◌, ap, subst, arith}
use Rattle.std.specs.List.{position, position_or_len, slice_get}
use Rattle.std.proofs.lemmas.List.{take_more, length-take-le}
use Rattle.std.proofs.lemmas.List.Folds.{find_at}
use Rattle.std.proofs.lemmas.List.Quantifiers.{position-Some}
use Rattle.std.proofs.lemmas.Option.{slice_get_past}
use Rattle.nc_buffer.specs.declared.entry.Entry.{Entry}
use Rattle.nc_buffer.specs.declared.mark.Mark.{Mark}
use Rattle.nc_buffer.specs.declared.mark.Sought.{Sought}
use Rattle.nc_buffer.specs.Buffer.{without_first, granted, with_grant}
use Rattle.nc_buffer.specs.Marks.{no_mark, mark_of, mark_in, mark_at, passes, tells, kept_before, kept, Shows}
use Rattle.nc_buffer.proofs.Tells.{tells-of}
use Rattle.nc_buffer.proofs.Leaves.{kept-more}

pub shows-set : (slots : List (Option Entry)) (ms : List Mark) (k : ℕ) (slot : Option Entry) → Shows slots ms → k < length slots → Shows (set slots k slot) (set ms k (mark_in slot))
shows-set [] ms k slot h lt = absurd (omega (arith, lt))
shows-set (s ∷ ss) [] k slot h lt = absurd h
shows-set (s ∷ ss) (m ∷ ms) zero slot h lt = (refl, h.1)
shows-set (s ∷ ss) (m ∷ ms) (suc k) slot h lt = (h.0, shows-set ss ms k slot h.1 (omega (arith, lt)))

pub shows-push : (slots : List (Option Entry)) (ms : List Mark) (slot : Option Entry) → Shows slots ms → length slots < length ms → Shows (slots ++ slot ∷ []) (set ms (length slots) (mark_in slot))
shows-push [] [] slot h lt = absurd (omega (arith, lt))
shows-push [] (m ∷ ms) slot h lt = (refl, h.1)
shows-push (s ∷ ss) [] slot h lt = absurd h
shows-push (s ∷ ss) (m ∷ ms) slot h lt = (h.0, shows-push ss ms slot h.1 (omega (arith, lt)))

pub shows-le : (slots : List (Option Entry)) (ms : List Mark) → Shows slots ms → length slots ≤ length ms
shows-le [] ms h = omega arith
shows-le (s ∷ ss) [] h = absurd h
shows-le (s ∷ ss) (m ∷ ms) h = let rest = shows-le ss ms h.1 in omega (arith, rest)

pub shows-at : (slots : List (Option Entry)) (ms : List Mark) (k : ℕ) → Shows slots ms → mark_at ms k ≡ mark_in (get_or slots k None)
shows-at [] [] k h = refl
shows-at [] (m ∷ ms) zero h = h.0
shows-at [] (m ∷ ms) (suc k) h = shows-at [] ms k h.1
shows-at (s ∷ ss) [] k h = absurd h
shows-at (s ∷ ss) (m ∷ ms) zero h = h.0
shows-at (s ∷ ss) (m ∷ ms) (suc k) h = shows-at ss ms k h.1

none-kept : (ms : List Mark) (n : ℕ) → Shows [] ms → kept_before n ms ≡ 0
none-kept ms zero h = refl
none-kept [] (suc n) h = refl
none-kept (m ∷ ms) (suc n) h =
    let here : m.kept ≡ 0 = ap (λ x. x.kept) h.0 in
    let rest = none-kept ms n h.1 in
    omega (arith, here, rest)

pub kept-push : (slots : List (Option Entry)) (e : Entry) → kept (slots ++ Some e ∷ []) ≡ kept slots ++ e ∷ []
kept-push [] e = refl
kept-push (None ∷ ss) e = kept-push ss e
kept-push (Some x ∷ ss) e = ap (λ l. x ∷ l) (kept-push ss e)

pub kept-filter : (slots : List (Option Entry)) → kept (filter is_some slots) ≡ kept slots
kept-filter [] = refl
kept-filter (None ∷ ss) = kept-filter ss
kept-filter (Some x ∷ ss) = ap (λ l. x ∷ l) (kept-filter ss)

pub length-filter : (slots : List (Option Entry)) → length (filter is_some slots) ≡ length (kept slots)
length-filter [] = refl
length-filter (None ∷ ss) = length-filter ss
length-filter (Some x ∷ ss) = let rest = length-filter ss in omega (arith, rest)

-- the marks keep as many as there are entries
pub kept-length : (slots : List (Option Entry)) (ms : List Mark) → Shows slots ms → kept_before (length ms) ms ≡ length (kept slots)
kept-length [] ms h = none-kept ms (length ms) h
kept-length (s ∷ ss) [] h = absurd h
kept-length (None ∷ ss) (m ∷ ms) h =
    let here : m.kept ≡ 0 = ap (λ x. x.kept) h.0 in
    let rest = kept-length ss ms h.1 in
    omega (arith, here, rest)
kept-length (Some e ∷ ss) (m ∷ ms) h =
    let here : m.kept ≡ 1 = ap (λ x. x.kept) h.0 in
    let rest = kept-length ss ms h.1 in
    omega (arith, here, rest)

-- what the first leaf that tells of what is sought says of the entries
pub record FirstIs (w : Sought) (slots : List (Option Entry)) (ms : List Mark) (leaf : ℕ) : Type 0 where
  pub taken : find (passes w) (kept slots) ≡ get_or slots leaf None
  pub left : without_first (passes w) (kept slots) ≡ kept (set slots leaf None)
  pub place : position_or_len (passes w) (kept slots) ≡ kept_before leaf ms

behind : (n : ℕ) → 1 + n ≡ suc n
behind n = omega arith

pub first-is : (w : Sought) (slots : List (Option Entry)) (ms : List Mark) → tells w no_mark ≡ false → Shows slots ms → FirstIs w slots ms (position_or_len (tells w) ms)
first-is w [] ms quiet h = record {
  taken = refl;
  left = refl;
  place = sym (none-kept ms (position_or_len (tells w) ms) h);
}
first-is w (s ∷ ss) [] quiet h = absurd h
first-is w (None ∷ ss) (m ∷ ms) quiet h = by (tells w m) (ap (tells w) h.0 ∙ quiet) (first-is w ss ms quiet h.1)
  where
    by : (b : Bool) → b ≡ false → FirstIs w ss ms (position_or_len (tells w) ms) → FirstIs w (None ∷ ss) (m ∷ ms) (cond (not b) (1 + position_or_len (tells w) ms) 0)
    by true is rest = absurd cc
    by false is rest =
        let next = behind (position_or_len (tells w) ms) in
        let here : m.kept ≡ 0 = ap (λ x. x.kept) h.0 in
        let count = rest.place in
        record {
          taken = rest.taken ∙ ap (λ k. get_or (None ∷ ss) k None) (sym next);
          left = rest.left ∙ ap (λ k. kept (set (None ∷ ss) k None)) (sym next);
          place = let more : kept_before (suc (position_or_len (tells w) ms)) (m ∷ ms) ≡ kept_before (position_or_len (tells w) ms) ms = omega (arith, here) in count ∙ sym more ∙ ap (λ k. kept_before k (m ∷ ms)) (sym next);
        }
first-is w (Some e ∷ ss) (m ∷ ms) quiet h = subst (λ (b : Bool). FirstIs w (Some e ∷ ss) (m ∷ ms) (cond (not b) (1 + position_or_len (tells w) ms) 0)) (sym (ap (tells w) h.0 ∙ tells-of w e)) (by (passes w e) refl (first-is w ss ms quiet h.1))
  where
    by : (b : Bool) → passes w e ≡ b → FirstIs w ss ms (position_or_len (tells w) ms) → FirstIs w (Some e ∷ ss) (m ∷ ms) (cond (not b) (1 + position_or_len (tells w) ms) 0)
    by true is rest = record {
      taken = ap (λ b. cond b (Some e) (find (passes w) (kept ss))) is;
      left = ap (λ b. cond b (kept ss) (e ∷ without_first (passes w) (kept ss))) is;
      place = ap (λ b. cond (not b) (1 + position_or_len (passes w) (kept ss)) 0) is;
    }
    by false is rest =
        let next = behind (position_or_len (tells w) ms) in
        let here : m.kept ≡ 1 = ap (λ x. x.kept) h.0 in
        let count = rest.place in
        let more : kept_before (suc (position_or_len (tells w) ms)) (m ∷ ms) ≡ 1 + kept_before (position_or_len (tells w) ms) ms = omega (arith, here) in
        record {
          taken = ap (λ b. cond b (Some e) (find (passes w) (kept ss))) is ∙ rest.taken ∙ ap (λ k. get_or (Some e ∷ ss) k None) (sym next);
          left = ap (λ b. cond b (kept ss) (e ∷ without_first (passes w) (kept ss))) is ∙ ap (λ l. e ∷ l) rest.left ∙ ap (λ k. kept (set (Some e ∷ ss) k None)) (sym next);
          place = ap (λ b. cond (not b) (1 + position_or_len (passes w) (kept ss)) 0) is ∙ ap (λ k. 1 + k) count ∙ sym more ∙ ap (λ k. kept_before k (m ∷ ms)) (sym next);
        }

place_found : (n m i : ℕ) (b : Bool) → ltb n m ≡ b → cond b (Some n) None ≡ Some i → (n ≡ i) × (n < m)
place_found n m i true lt h = (cc, grind arith)
place_found n m i false lt h = absurd cc

place_missed : (n m : ℕ) (b : Bool) → ltb n m ≡ b → cond b (Some n) None ≡ None → m ≤ n
place_missed n m true lt h = absurd cc
place_missed n m false lt h = grind arith

-- a leaf that is found
pub found-first : (w : Sought) (slots : List (Option Entry)) (ms : List Mark) (leaf : ℕ) → tells w no_mark ≡ false → Shows slots ms → position (tells w) ms ≡ Some leaf → FirstIs w slots ms leaf
found-first w slots ms leaf quiet h at =
    let is = place_found (position_or_len (tells w) ms) (length ms) leaf _ refl at in
    subst (FirstIs w slots ms) is.0 (first-is w slots ms quiet h)

past-slots : (slots : List (Option Entry)) (k : ℕ) → length slots ≤ k → get_or slots k None ≡ None
past-slots [] k le = refl
past-slots (s ∷ ss) zero le = absurd (omega (arith, le))
past-slots (s ∷ ss) (suc k) le = past-slots ss k (omega (arith, le))

-- where no leaf is found there is no such entry
pub missed-none : (w : Sought) (slots : List (Option Entry)) (ms : List Mark) → tells w no_mark ≡ false → Shows slots ms → position (tells w) ms ≡ None → find (passes w) (kept slots) ≡ None
missed-none w slots ms quiet h at =
    let past = place_missed (position_or_len (tells w) ms) (length ms) _ refl at in
    let le = shows-le slots ms h in
    (first-is w slots ms quiet h).taken ∙ past-slots slots (position_or_len (tells w) ms) (omega (arith, past, le))

-- a leaf that tells of something stands for a slot with an entry
kept-slot : (w : Sought) (slot : Option Entry) → tells w no_mark ≡ false → tells w (mark_in slot) ≡ true → (e : Entry) × (slot ≡ Some e)
kept-slot w None quiet told = absurd cc
kept-slot w (Some e) quiet told = (e, refl)

pub within-slots : (slots : List (Option Entry)) (k : ℕ) (e : Entry) → get_or slots k None ≡ Some e → k < length slots
within-slots [] k e is = absurd cc
within-slots (s ∷ ss) zero e is = omega arith
within-slots (s ∷ ss) (suc k) e is = let rest = within-slots ss k e is in omega (arith, rest)

pub found-entry : (w : Sought) (slots : List (Option Entry)) (ms : List Mark) (leaf : ℕ) → tells w no_mark ≡ false → Shows slots ms → position (tells w) ms ≡ Some leaf → (leaf < length slots) × ((e : Entry) × (get_or slots leaf None ≡ Some e))
found-entry w slots ms leaf quiet h at =
    let told = position-Some (tells w) ms leaf no_mark at in
    let slot = kept-slot w (get_or slots leaf None) quiet (ap (tells w) (sym (shows-at slots ms leaf h)) ∙ told.1) in
    (within-slots slots leaf slot.0 slot.1, slot)

find-place : (test : Entry → Bool) (es : List Entry) (e : Entry) → find test es ≡ Some e → position test es ≡ Some (position_or_len test es)
find-place test es e found = by (ltb (position_or_len test es) (length es)) refl
  where
    by : (b : Bool) → ltb (position_or_len test es) (length es) ≡ b → cond b (Some (position_or_len test es)) None ≡ Some (position_or_len test es)
    by true lt = refl
    by false lt = let past : length es ≤ position_or_len test es = grind arith in let none : find test es ≡ None = find_at test es ∙ slice_get_past es (position_or_len test es) past in absurd cc

-- the place of the entry that is found, counted from the oldest
pub found-place : (w : Sought) (slots : List (Option Entry)) (ms : List Mark) (leaf : ℕ) → tells w no_mark ≡ false → Shows slots ms → position (tells w) ms ≡ Some leaf → position (passes w) (kept slots) ≡ Some (kept_before leaf ms)
found-place w slots ms leaf quiet h at =
    let first = found-first w slots ms leaf quiet h at in
    let slot = found-entry w slots ms leaf quiet h at in
    find-place (passes w) (kept slots) slot.1.0 (first.taken ∙ slot.1.1) ∙ ap Some first.place

pub missed-place : (test : Entry → Bool) (es : List Entry) → find test es ≡ None → position test es ≡ None
missed-place test es none = by es none
  where
    not_there : (n m : ℕ) (b : Bool) → ltb n m ≡ b → m ≤ n → cond b (Some n) None ≡ None
    not_there n m true lt le = absurd (grind arith)
    not_there n m false lt le = refl

    past : (es : List Entry) → find test es ≡ None → length es ≤ position_or_len test es
    past [] none = omega arith
    past (e ∷ es) none = each (test e) none (past es)
      where
        each : (b : Bool) → cond b (Some e) (find test es) ≡ None → (find test es ≡ None → length es ≤ position_or_len test es) → length (e ∷ es) ≤ cond (not b) (1 + position_or_len test es) 0
        each true none rest = absurd cc
        each false none rest = let le = rest none in omega (arith, le)

    by : (es : List Entry) → find test es ≡ None → position test es ≡ None
    by es none = not_there (position_or_len test es) (length es) _ refl (past es none)

-- the slot of the entry at a place
pub slot-at : (slots : List (Option Entry)) (ms : List Mark) (leaf place : ℕ) → Shows slots ms → kept_before leaf ms ≤ place → place < kept_before (leaf + 1) ms → (place ≡ kept_before leaf ms) × ((e : Entry) × (get_or slots leaf None ≡ Some e))
slot-at slots ms leaf place h low high = by (get_or slots leaf None) refl
  where
    by : (slot : Option Entry) → get_or slots leaf None ≡ slot → (place ≡ kept_before leaf ms) × ((e : Entry) × (get_or slots leaf None ≡ Some e))
    by None is =
        let here : (mark_at ms leaf).kept ≡ 0 = ap (λ x. x.kept) (shows-at slots ms leaf h ∙ ap mark_in is) in
        let more = kept-more leaf ms in
        absurd (omega (arith, low, high, here, more))
    by (Some e) is =
        let here : (mark_at ms leaf).kept ≡ 1 = ap (λ x. x.kept) (shows-at slots ms leaf h ∙ ap mark_in is) in
        let more = kept-more leaf ms in
        (omega (arith, low, high, here, more), (e, is))

step-none : (m : Mark) (ms : List Mark) (k : ℕ) → m.kept ≡ 0 → kept_before (suc k) (m ∷ ms) ≡ kept_before k ms
step-none m ms k e = omega (arith, e)

step-over : (m : Mark) (ms : List Mark) (k n : ℕ) → m.kept ≡ n → kept_before (suc k) (m ∷ ms) ≡ n + kept_before k ms
step-over m ms k n e = ap (λ x. x + kept_before k ms) e

pub entry-at : (slots : List (Option Entry)) (ms : List Mark) (leaf : ℕ) (e : Entry) → Shows slots ms → get_or slots leaf None ≡ Some e → slice_get (kept slots) (kept_before leaf ms) ≡ Some e
entry-at [] ms leaf e h is = absurd cc
entry-at (s ∷ ss) [] leaf e h is = absurd h
entry-at (None ∷ ss) (m ∷ ms) zero e h is = absurd cc
entry-at (Some x ∷ ss) (m ∷ ms) zero e h is = is
entry-at (None ∷ ss) (m ∷ ms) (suc k) e h is = ap (slice_get (kept ss)) (step-none m ms k (ap (λ x. x.kept) h.0)) ∙ entry-at ss ms k e h.1 is
entry-at (Some x ∷ ss) (m ∷ ms) (suc k) e h is = ap (slice_get (x ∷ kept ss)) (step-over m ms k 1 (ap (λ x. x.kept) h.0) ∙ behind (kept_before k ms)) ∙ entry-at ss ms k e h.1 is

-- the mark of an entry stands at its slot
pub same-mark : (slots : List (Option Entry)) (ms : List Mark) (leaf : ℕ) (e : Entry) → Shows slots ms → get_or slots leaf None ≡ Some e → set ms leaf (mark_of e) ≡ ms
same-mark [] ms leaf e h is = absurd cc
same-mark (s ∷ ss) [] leaf e h is = absurd h
same-mark (s ∷ ss) (m ∷ ms) zero e h is = ap (λ x. x ∷ ms) (ap mark_in (sym is) ∙ sym h.0)
same-mark (s ∷ ss) (m ∷ ms) (suc k) e h is = ap (λ l. m ∷ l) (same-mark ss ms k e h.1 is)

pub grant-at : (slots : List (Option Entry)) (ms : List Mark) (leaf : ℕ) (e : Entry) → Shows slots ms → get_or slots leaf None ≡ Some e → kept (set slots leaf (Some (granted e))) ≡ with_grant (kept_before leaf ms) (kept slots)
grant-at [] ms leaf e h is = absurd cc
grant-at (s ∷ ss) [] leaf e h is = absurd h
grant-at (None ∷ ss) (m ∷ ms) zero e h is = absurd cc
grant-at (Some x ∷ ss) (m ∷ ms) zero e h is = let same : e ≡ x = cc in ap (λ y. granted y ∷ kept ss) same
grant-at (None ∷ ss) (m ∷ ms) (suc k) e h is = grant-at ss ms k e h.1 is ∙ sym (ap (λ n. with_grant n (kept ss)) (step-none m ms k (ap (λ x. x.kept) h.0)))
grant-at (Some x ∷ ss) (m ∷ ms) (suc k) e h is = ap (λ l. x ∷ l) (grant-at ss ms k e h.1 is) ∙ sym (ap (λ n. with_grant n (x ∷ kept ss)) (step-over m ms k 1 (ap (λ x. x.kept) h.0) ∙ behind (kept_before k ms)))

pub kept-le : (slots : List (Option Entry)) → length (kept slots) ≤ length slots
kept-le [] = omega arith
kept-le (None ∷ ss) = let rest = kept-le ss in omega (arith, rest)
kept-le (Some e ∷ ss) = let rest = kept-le ss in omega (arith, rest)

pub shows-blank : (n : ℕ) → Shows [] (replicate n no_mark)
shows-blank zero = tt
shows-blank (suc n) = (refl, shows-blank n)

pub ok-shows : {E : Type 0} (r : Result (List Mark) E) (n : ℕ) → IfOk r (λ t. t ≡ replicate n no_mark) → IfOk r (λ t. Shows [] t)
ok-shows (Ok t) n e = subst (λ (l : List Mark). Shows [] l) (sym e) (shows-blank n)
ok-shows (Err x) n e = tt

-- one slot more of those whose marks are put
pub shows-more : (slots : List (Option Entry)) (ms : List Mark) (k : ℕ) (slot : Option Entry) → Shows (take k slots) ms → k < length slots → k < length ms → slot ≡ get_or slots k slot → Shows (take (k + 1) slots) (set ms k (mark_in slot))
shows-more slots ms k slot h lt room is =
    let len : length (take k slots) ≡ k = length-take-le k slots (omega (arith, lt)) in
    let all : take (k + 1) slots ≡ take k slots ++ slot ∷ [] = take_more slots k slot lt ∙ ap (λ s. take k slots ++ s ∷ []) (sym is) in
    subst (λ (l : List (Option Entry)). Shows l (set ms k (mark_in slot))) (sym all) (subst (λ (i : ℕ). Shows (take k slots ++ slot ∷ []) (set ms i (mark_in slot))) len (shows-push (take k slots) ms slot h (omega (arith, len, room))))
