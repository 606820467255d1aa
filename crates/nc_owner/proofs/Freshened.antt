-- After a step on a channel none of its entries has expired.
use Rattle.std.proofs.Common.{◌≡◌, ◌∙◌, ℕ, zero, suc, Bool, true, false, List, [], ◌∷◌, refl, sym, ap, subst, cond, Some, None}
use Rattle.std.specs.Prelude.{Option, not, if◌then◌else◌, MatchOption}
use Rattle.nc_types.specs.Id.{Id}
use Rattle.nc_types.specs.Message.{Message}
use Rattle.nc_buffer.specs.declared.entry.Entry.{Entry}
use Rattle.nc_buffer.specs.Buffer.{is_spent, first_past, with_grant}
use Rattle.nc_slots.specs.declared.slot.Slot.{Slot}
use Rattle.nc_owner.specs.declared.channel.Channel.{Channel}
use Rattle.nc_owner.specs.declared.desk.Desk.{Desk}
use Rattle.std.specs.Map.{lookup}
use Rattle.nc_owner.specs.State.{Bench, OwnerAt, bench_from, entries_of, found, is_name}
use Rattle.nc_owner.specs.Leave.{stayers, touched, without_spent}
use Rattle.nc_owner.specs.Look.{counted_at, found_on, found_desk}
use Rattle.nc_owner.specs.TouchedLook.{seen}
use Rattle.nc_owner.specs.Rules.{NoneExpired, IsFresh}
use Rattle.nc_owner.proofs.Fresh.{stayers_fresh}

-- a channel that was touched
pub touched_fresh : (d d1 : Desk) (row row1 : List (Slot Message)) (ch ch1 : Channel) → bench_from d1 row1 ch1 ≡ touched (bench_from d row ch) → NoneExpired d1.clock (entries_of ch1)
touched_fresh d d1 row row1 ch ch1 bench = subst (λ (y : Bench). NoneExpired y.desk.clock (entries_of y.channel)) (sym bench) (stayers_fresh d.clock (entries_of ch))

-- a channel that was put back, or that isn't there
pub back_fresh : (c : List ℕ) (s : OwnerAt) (ch : Channel) (stays : Bool) (before : Option Channel) → before ≡ None → found c s ≡ (if stays then Some ch else before) → NoneExpired s.desk.clock (entries_of ch) → IsFresh c s
back_fresh c s ch stays before gone at_name fresh =
    subst (λ (f : Option Channel). MatchOption f (Unit {0}) (λ x. NoneExpired s.desk.clock (entries_of x))) (sym (at_name ∙ ap (λ (b : Option Channel). if stays then Some ch else b) gone)) (either stays fresh)
  where
    either : (t : Bool) → NoneExpired s.desk.clock (entries_of ch) → MatchOption (if t then Some ch else None) (Unit {0}) (λ x. NoneExpired s.desk.clock (entries_of x))
    either true all = all
    either false all = tt

-- a channel that isn't there
pub gone_fresh : (c : List ℕ) (s : OwnerAt) → found c s ≡ None → IsFresh c s
gone_fresh c s gone = subst (λ (f : Option Channel). MatchOption f (Unit {0}) (λ x. NoneExpired s.desk.clock (entries_of x))) (sym gone) tt

-- the same of an owner whose channels alone change
pub close_fresh : (c : List ℕ) (d : Desk) (before after : List (List ℕ × Channel)) (s : OwnerAt) (ch : Channel) (stays : Bool) → record { desk = d; channels = before } ≡ s
    → lookup (is_name c) after ≡ (if stays then Some ch else lookup (is_name c) before) → found c s ≡ None → NoneExpired s.desk.clock (entries_of ch) → IsFresh c (record { desk = d; channels = after })
close_fresh c d before after s ch stays is at_name gone fresh =
    back_fresh c (record { desk = d; channels = after }) ch stays (lookup (is_name c) before) (ap (λ (x : OwnerAt). found c x) is ∙ gone) at_name (subst (λ (x : OwnerAt). NoneExpired x.desk.clock (entries_of ch)) (sym is) fresh)

stay_fresh : (now : ℕ) (test : Entry → Bool) (es : List Entry) → NoneExpired now es → NoneExpired now (stayers test es)
stay_fresh now test [] all = tt
stay_fresh now test (e ∷ es) all = by (test e) (stay_fresh now test es all.1)
  where
    by : (b : Bool) → NoneExpired now (stayers test es) → NoneExpired now (cond (not b) (e ∷ stayers test es) (stayers test es))
    by true rest = rest
    by false rest = (all.0, rest)

grant_fresh : (now place : ℕ) (es : List Entry) → NoneExpired now es → NoneExpired now (with_grant place es)
grant_fresh now zero [] all = tt
grant_fresh now (suc place) [] all = tt
grant_fresh now zero (e ∷ es) all = (all.0, all.1)
grant_fresh now (suc place) (e ∷ es) all = (all.0, grant_fresh now place es all.1)

count_fresh : (now : ℕ) (place : Option ℕ) (es : List Entry) → NoneExpired now es → NoneExpired now (counted_at place es)
count_fresh now None es all = all
count_fresh now (Some place) es all = grant_fresh now place es all

found_clock : (x : Option Entry) (d : Desk) → d.clock ≡ (found_desk x d).clock
found_clock None d = refl
found_clock (Some e) d = refl

-- a channel at which a look was made
pub seen_fresh : (from : ℕ) (id : Id) (d d1 : Desk) (row row1 : List (Slot Message)) (ch ch1 : Channel) → bench_from d1 row1 ch1 ≡ seen from id (bench_from d row ch) → NoneExpired d.clock (entries_of ch) → NoneExpired d1.clock (entries_of ch1)
seen_fresh from id d d1 row row1 ch ch1 bench all =
    let b = without_spent (bench_from d row ch) in
    let es = entries_of b.channel in
    let kept : NoneExpired b.desk.clock (counted_at (first_past id es) es) = count_fresh d.clock (first_past id es) es (stay_fresh d.clock is_spent (entries_of ch) all) in
    subst (λ (y : Bench). NoneExpired y.desk.clock (entries_of y.channel)) (sym bench)
    (subst (λ (n : ℕ). NoneExpired n (counted_at (first_past id es) es)) (found_clock (found_on id b) b.desk) kept)
