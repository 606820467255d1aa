-- A channel that was touched has nothing left that has expired, and where it then goes it has nobody.
use Rattle.std.proofs.Common.{◌≡◌, ℕ, suc, Bool, true, false, cond, not, List, [], ◌∷◌, Option, Some, None, refl, sym, ap, ◌∙◌, arith, length, map, filter}
use Rattle.std.specs.Prelude.{◌==◌, ◌&&◌, unwrap_or}
use Rattle.std.proofs.lemmas.Bool.{true≢false}
use Rattle.std.proofs.lemmas.Bool.Decides.{nat_tests}
use Rattle.std.specs.Ordering.{nat_cmp}
use Rattle.std.specs.Cmp.Lexicographic.{slice_cmp}
use Rattle.std.specs.List.Sorted.{IsStrictlySortedBy}
use Rattle.std.specs.Map.{keys_of}
use Rattle.nc_types.specs.Message.{Message}
use Rattle.nc_journal.specs.declared.word.LeftCause.TheVariants.{Expired}
use Rattle.nc_buffer.specs.declared.entry.Entry.{Entry}
use Rattle.nc_buffer.specs.Buffer.{is_expired}
use Rattle.nc_slots.specs.declared.slot.Slot.{Slot}
use Rattle.nc_owner.specs.declared.channel.Channel.{Channel}
use Rattle.nc_owner.specs.declared.member.Member.{Member}
use Rattle.nc_owner.specs.State.{OwnerAt, entries_of, exists, found, opened, new_channel}
use Rattle.nc_owner.specs.Leave.{left_event}
use Rattle.nc_owner.specs.OtherSteps.{touched_of, touched_row, touch_events_of, touch_after}
use Rattle.nc_owner.specs.Remove.{is_idle, is_reaped}
use Rattle.nc_owner_laws.proofs.After.{name_is, found_after}
use Rattle.nc_owner_laws.proofs.Events.{name_self}
use Rattle.nc_owner_laws.proofs.Removes.{opened_touched}

none_stays : (now : ℕ) (es : List Entry) → filter (is_expired now) (filter (λ e. not (is_expired now e)) es) ≡ []
none_stays now [] = refl
none_stays now (e ∷ es) = by (is_expired now e) refl (none_stays now es)
  where
    by : (b : Bool) → is_expired now e ≡ b → filter (is_expired now) (filter (λ x. not (is_expired now x)) es) ≡ [] → filter (is_expired now) (cond (not b) (e ∷ filter (λ x. not (is_expired now x)) es) (filter (λ x. not (is_expired now x)) es)) ≡ []
    by true is rest = rest
    by false is rest = ap (λ b. cond b (e ∷ filter (is_expired now) (filter (λ x. not (is_expired now x)) es)) (filter (is_expired now) (filter (λ x. not (is_expired now x)) es))) is ∙ rest

-- a second touch lets nothing leave
pub touched_once : (c : List ℕ) (row : List (Slot Message)) (s : OwnerAt) → IsStrictlySortedBy (slice_cmp nat_cmp) (keys_of s.channels) → touch_events_of c (touched_row c row s) (touch_after c row s) ≡ []
touched_once c row s sorted =
    let b = touched_of c row s in
    let same : found c (touch_after c row s) ≡ cond (exists c s) (Some b.channel) None =
    found_after c c (exists c s) b s sorted ∙ ap (λ x. cond x (cond (exists c s) (Some b.channel) None) (found c s)) (name_is c c ∙ name_self c) in
    ap (λ (o : Option Channel). map (left_event s.desk.me c Expired) (filter (is_expired s.desk.clock) (entries_of (unwrap_or o (new_channel b.desk))))) same ∙ by (exists c s)
  where
    by : (stays : Bool) → map (left_event s.desk.me c Expired) (filter (is_expired s.desk.clock) (entries_of (unwrap_or (cond stays (Some (touched_of c row s).channel) None) (new_channel (touched_of c row s).desk)))) ≡ []
    by true = ap (map (left_event s.desk.me c Expired)) (none_stays s.desk.clock (entries_of (opened c s)))
    by false = refl

-- where a sweep removes a channel, nobody belongs to it
pub reaped_memberless : (c : List ℕ) (row : List (Slot Message)) (s : OwnerAt) → IsStrictlySortedBy (slice_cmp nat_cmp) (keys_of s.channels) → is_reaped c row s ≡ true → (opened c (touch_after c row s)).members ≡ []
reaped_memberless c row s sorted goes =
    let ch = (touched_of c row s).channel in
    let parts = both (exists c s) (is_idle ch) goes in
    let idle = both (length (entries_of ch) == 0) (length ch.members == 0) parts.1 in
    ap (λ (x : Channel). x.members) (opened_touched c row s sorted parts.0) ∙ none ch.members idle.1
  where
    both : (a b : Bool) → (a && b) ≡ true → (a ≡ true) × (b ≡ true)
    both true true e = (refl, refl)
    both true false e = absurd cc
    both false b e = absurd cc

    none : (ms : List Member) → (length ms == 0) ≡ true → ms ≡ []
    none [] e = refl
    none (m ∷ ms) e = let no : (suc (length ms) == 0) ≡ false = grind (arith, nat_tests) in absurd (true≢false (sym e ∙ no))
