-- What the steps of a body find out.
use Rattle.std.proofs.Common.{◌≡◌, ℕ, zero, suc, ◌+◌, ◌<◌, ◌≤◌, inl, inr, Bool, true, false, ◌==◌, List, ◌++◌, length, take, drop, Some, None, refl, ap, ◌∙◌, subst, arith, length-drop, length-append, length-take}
use Rattle.std.specs.Prelude.{if◌then◌else◌, nat_le}
use Rattle.std.proofs.lemmas.List.{take-append-le, drop-append-le}
use Rattle.std.proofs.lemmas.Bool.Decides.{nat_tests}
use Rattle.nc_types.specs.declared.request.Request.{Request}
use Rattle.nc_http_head.specs.declared.ends.Place.{Place}
use Rattle.nc_http_head.specs.declared.ends.Place.TheVariants.{Start as LineStart}
use Rattle.nc_http_head.specs.Ends.{trailer_end, line_end, place_over}
use Rattle.nc_http_head.specs.Heads.{IsLineOf, AreOneLine}
use Rattle.nc_http_head.proofs.Scans.{trailer_scan, line_scan}
use Rattle.nc_http_head.proofs.Continued.{seen_all, seen_line_all}
use Rattle.nc_http_in.specs.Items.{Item, whole, refused, Within, IsClosed, Sized, Lined, Chunks, longer}
use Rattle.nc_http_in.specs.Held.{counted, line, chunk, trailer, IsItemFrom, LeadsFrom}
use Rattle.nc_http_in.specs.declared.stage.Stage.TheVariants as stages
use Rattle.nc_http_in.specs.declared.stage.Found.TheVariants as founds
use Rattle.nc_http_in.specs.Reading.{IsTurn, StillWaits, turn_on, turn_refused, turn_behind_line}
use Rattle.nc_http_in.proofs.Stays.{closed_stays}
use Rattle.nc_http_in.proofs.Steps.{stays_there}

-- ---- a body of a length

pub body_waits : (q : Request) (need : ℕ) (bytes : List ℕ) → length bytes < need → IsTurn (counted q need) bytes (record { taken = 0; found = founds.Waits (stages.Body q need) })
body_waits q need bytes short = (omega arith, ((tt, stays_there (counted q need) bytes), inr (short, refl)))

pub body_whole : (q r : Request) (need : ℕ) (bytes : List ℕ) → need ≤ length bytes → r ≡ longer q (take need bytes) → AreOneLine r.fields → IsTurn (counted q need) bytes (record { taken = need; found = founds.Whole r })
body_whole q r need bytes there is lines = (there, (inl (there, ap (λ (r : Request). whole r (drop need bytes)) is), lines))

-- ---- chunk lines

pub line_far : (q : Request) (bytes : List ℕ) (n : ℕ) → line_end bytes ≡ Some n → 1024 < n → IsItemFrom (line q) bytes (refused 400)
line_far q bytes n end far = (suc zero, rw end (inr (far, refl)))

pub line_bad : (q : Request) (bytes : List ℕ) (n : ℕ) → line_end bytes ≡ Some n → n ≤ 1024 → ((size : ℕ) → ¬ (IsLineOf (take n bytes) size)) → IsItemFrom (line q) bytes (refused 400)
line_bad q bytes n end le none = (suc zero, rw end (inl (le, inr (none, refl))))

pub line_long : (q : Request) (bytes : List ℕ) → line_end bytes ≡ None → 1024 ≤ length bytes → IsItemFrom (line q) bytes (refused 400)
line_long q bytes end long = (suc zero, rw end (inl (long, refl)))

pub line_waits : (q : Request) (bytes : List ℕ) → line_end bytes ≡ None → length bytes < 1024 → length q.body ≤ 65536 → IsTurn (line q) bytes (record { taken = 0; found = founds.Waits (stages.Line q (length bytes)) })
line_waits q bytes end short fits =
    (omega arith, (((seen_line_all (length bytes) bytes refl end, fits), stays_there (line q) bytes), (suc zero, rw end (inr (short, refl)))))

-- a chunk line leads to what its size tells
line_leads : (q : Request) (bytes : List ℕ) (n size : ℕ) → line_end bytes ≡ Some n → n ≤ 1024 → IsLineOf (take n bytes) size → (more : List ℕ) (i : Item) (count : ℕ) → Sized (Chunks count) q size (drop n bytes ++ more) i → IsItemFrom (line q) (bytes ++ more) i
line_leads q bytes n size end le is more i count s =
    let w = (line_scan.within bytes n end).1 in
    let there : Within 1024 (Some n) (bytes ++ more) (Lined (Chunks count) q) i = inl (le, rw (take-append-le n bytes more w, drop-append-le n bytes more w) (inl (size, is, s))) in
    (suc count, rw (line_scan.kept bytes more n end) there)

pub line_turn : (q : Request) (bytes : List ℕ) (n size : ℕ) → line_end bytes ≡ Some n → n ≤ 1024 → IsLineOf (take n bytes) size → length q.body ≤ 65536 → IsTurn (line q) bytes (turn_behind_line n q size)
line_turn q bytes n size end le is fits = by_zero (size == 0) refl where
  less : length (drop n bytes) < length bytes
  less = let w = line_scan.within bytes n end in omega (arith, w.0, w.1, length-drop n bytes)

  within : n ≤ length bytes
  within = (line_scan.within bytes n end).1

  by_limit : (t : Bool) → nat_le (length q.body + size) 65536 ≡ t → 0 < size → IsTurn (line q) bytes (if t then turn_on n (stages.Data q size) else turn_refused 413)
  by_limit true e some =
      let most : length q.body + size ≤ 65536 = grind (arith, nat_tests) in
      (within, ((most, λ more i p. line_leads q bytes n size end le is more i p.0 (inr (inr (some, most, p.1)))), less))
  by_limit false e some =
      let past : 65536 < length q.body + size = grind (arith, nat_tests) in
      (omega arith, (suc zero, rw end (inl (le, inl (size, is, inr (inl (some, past, refl)))))))

  by_zero : (t : Bool) → (size == 0) ≡ t → IsTurn (line q) bytes (if t then turn_on n (stages.Trailer q 0 LineStart) else (if nat_le (length q.body + size) 65536 then turn_on n (stages.Data q size) else turn_refused 413))
  by_zero true e =
      let none : size ≡ 0 = grind (arith, nat_tests) in
      (within, (((omega arith, refl, refl), λ more i p. line_leads q bytes n size end le is more i zero (inl (none, p))), less))
  by_zero false e =
      let some : 0 < size = grind (arith, nat_tests) in
      by_limit (nat_le (length q.body + size) 65536) refl some

-- ---- the bytes of a chunk

pub data_waits : (q : Request) (size : ℕ) (bytes : List ℕ) → length q.body + size ≤ 65536 → length bytes < size + 2 → IsTurn (chunk q size) bytes (record { taken = 0; found = founds.Waits (stages.Data q size) })
data_waits q size bytes fits short = (omega arith, ((fits, stays_there (chunk q size) bytes), (zero, inr (inr (short, refl)))))

pub data_bad : (q : Request) (size : ℕ) (bytes : List ℕ) → size + 2 ≤ length bytes → ¬ (IsClosed size bytes) → IsItemFrom (chunk q size) bytes (refused 400)
data_bad q size bytes there none = (zero, inr (inl (there, none, refl)))

pub data_short : (q : Request) (size : ℕ) (bytes : List ℕ) → length q.body + size ≤ 65536 → IsTurn (chunk q size) bytes (record { taken = 0; found = founds.Short (stages.Data q size) })
data_short q size bytes fits = (omega arith, (fits, stays_there (chunk q size) bytes))

pub data_turn : (q r : Request) (size : ℕ) (bytes : List ℕ) → length q.body + size ≤ 65536 → size + 2 ≤ length bytes → IsClosed size bytes → r ≡ longer q (take size bytes) → IsTurn (chunk q size) bytes (turn_on (size + 2) (stages.Line r 0))
data_turn q r size bytes fits there closed is =
    let le : size ≤ length bytes = omega (arith, there) in
    let body : length r.body ≤ 65536 = rw is (omega (arith, fits, length-append q.body (take size bytes), length-take size bytes)) in
    let leads : LeadsFrom (chunk q size) bytes (line r) (drop (size + 2) bytes) =
    λ more i p. (
      p.0,
      inl (
        omega (arith, there, length-append bytes more),
        closed_stays size bytes more there ∙ closed,
        rw (take-append-le size bytes more le, drop-append-le (size + 2) bytes more there) (subst (λ (s : Request). Chunks p.0 s (drop (size + 2) bytes ++ more) i) is p.1),
      ),
    ) in
    (there, ((((omega arith, refl), body), leads), omega (arith, there, length-drop (size + 2) bytes)))

-- ---- trailers

pub trailer_far : (q : Request) (bytes : List ℕ) (n : ℕ) → trailer_end bytes ≡ Some n → 16384 < n → IsItemFrom (trailer q) bytes (refused 400)
trailer_far q bytes n end far = rw end (inr (far, refl))

pub trailer_whole : (q r : Request) (bytes : List ℕ) (n : ℕ) → trailer_end bytes ≡ Some n → n ≤ 16384 → r ≡ q → AreOneLine r.fields → IsTurn (trailer q) bytes (record { taken = n; found = founds.Whole r })
trailer_whole q r bytes n end le is lines =
    ((trailer_scan.within bytes n end).1, (rw end (inl (le, ap (λ (s : Request). whole s (drop n bytes)) is)), lines))

pub trailer_long : (q : Request) (bytes : List ℕ) → trailer_end bytes ≡ None → 16384 ≤ length bytes → IsItemFrom (trailer q) bytes (refused 400)
trailer_long q bytes end long = rw end (inl (long, refl))

pub trailer_waits : (q : Request) (bytes : List ℕ) (place : Place) → trailer_end bytes ≡ None → place ≡ place_over LineStart bytes → length bytes < 16384 → IsTurn (trailer q) bytes (record { taken = 0; found = founds.Waits (stages.Trailer q (length bytes) place) })
trailer_waits q bytes place end is short =
    (omega arith, ((seen_all LineStart (length bytes) place bytes refl end is, stays_there (trailer q) bytes), rw end (inr (short, refl))))

-- ---- where more bytes are wanted of the same part

pub body_still : (q : Request) (need : ℕ) (bytes : List ℕ) → length bytes < need → StillWaits (stages.Body q need) (stages.Body q need) bytes
body_still q need bytes short = (tt, refl, inr (short, refl))

pub line_still : (q : Request) (seen : ℕ) (bytes : List ℕ) → line_end bytes ≡ None → length bytes < 1024 → length q.body ≤ 65536 → StillWaits (stages.Line q seen) (stages.Line q (length bytes)) bytes
line_still q seen bytes end short fits = ((seen_line_all (length bytes) bytes refl end, fits), refl, (suc zero, rw end (inr (short, refl))))

pub data_still : (q : Request) (size : ℕ) (bytes : List ℕ) → length q.body + size ≤ 65536 → length bytes < size + 2 → StillWaits (stages.Data q size) (stages.Data q size) bytes
data_still q size bytes fits short = (fits, refl, (zero, inr (inr (short, refl))))

pub trailer_still : (q : Request) (seen : ℕ) (place next : Place) (bytes : List ℕ) → trailer_end bytes ≡ None → next ≡ place_over LineStart bytes → length bytes < 16384 → StillWaits (stages.Trailer q seen place) (stages.Trailer q (length bytes) next) bytes
trailer_still q seen place next bytes end is short = (seen_all LineStart (length bytes) next bytes refl end is, refl, rw end (inr (short, refl)))
