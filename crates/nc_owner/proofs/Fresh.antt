-- After a publish no entry of its channel has expired.
use Rattle.std.proofs.Common.{◌≡◌, ◌+◌, ℕ, zero, suc, Bool, true, false, List, [], ◌∷◌, ◌++◌, refl, sym, subst, cond, drop, Some, None, arith}
use Rattle.std.specs.Prelude.{Option, not, nat_le, ◌==◌, ◌&&◌, if◌then◌else◌, MatchOption}
use Rattle.std.proofs.lemmas.Bool.Decides.{nat_tests}
use Rattle.nc_journal.specs.Stamp.{expiry}
use Rattle.nc_buffer.specs.declared.entry.Entry.{Entry}
use Rattle.nc_buffer.specs.Buffer.{is_expired}
use Rattle.nc_owner.specs.declared.channel.Channel.{Channel}
use Rattle.nc_owner.specs.declared.desk.Desk.{Desk}
use Rattle.nc_owner.specs.declared.order.Order.{Order}
use Rattle.nc_owner.specs.Leave.{stayers}
use Rattle.nc_owner.specs.State.{Bench, entries_of, found}
use Rattle.nc_owner.specs.Publish.{Polls, Outcome, late, full, stored, kept_desk, kept_entries, granted_desk, leaving_count, lowest_slot, roomy, asked, post_bench}
use Rattle.nc_owner.specs.Rules.{NoneExpired, IsFresh}

-- what has expired has left
pub stayers_fresh : (now : ℕ) (es : List Entry) → NoneExpired now (stayers (is_expired now) es)
stayers_fresh now [] = tt
stayers_fresh now (e ∷ es) = by (is_expired now e) refl (stayers_fresh now es)
  where
    by : (b : Bool) → is_expired now e ≡ b → NoneExpired now (stayers (is_expired now) es) → NoneExpired now (cond (not b) (e ∷ stayers (is_expired now) es) (stayers (is_expired now) es))
    by true is rest = rest
    by false is rest = (is, rest)

drop_fresh : (now n : ℕ) (es : List Entry) → NoneExpired now es → NoneExpired now (drop n es)
drop_fresh now zero es all = all
drop_fresh now (suc n) [] all = tt
drop_fresh now (suc n) (e ∷ es) all = drop_fresh now n es all.1

push_fresh : (now : ℕ) (es : List Entry) (e : Entry) → NoneExpired now es → is_expired now e ≡ false → NoneExpired now (es ++ e ∷ [])
push_fresh now [] e all is = (is, tt)
push_fresh now (x ∷ es) e all is = (all.0, push_fresh now es e all.1 is)

-- a message that is stored now expires later
later : (now timeout : ℕ) (b : Bool) → (timeout == 0) ≡ b → (not (expiry now timeout == 0) && nat_le (expiry now timeout) now) ≡ false
later now timeout true is = rw is refl
later now timeout false is = rw is (past (now + timeout == 0) (nat_le (now + timeout) now) (grind (arith, nat_tests)))
  where
    past : (z l : Bool) → l ≡ false → (not z && l) ≡ false
    past true l is = refl
    past false l is = is

kept_fresh : (now : ℕ) (kept : Bool) (e : Entry) (es : List Entry) → NoneExpired now es → is_expired now e ≡ false → NoneExpired now (kept_entries kept e es)
kept_fresh now true e es all is = push_fresh now es e all is
kept_fresh now false e es all is = all

kept_clock : (kept : Bool) (slot : ℕ) (d : Desk) → d.clock ≡ (kept_desk kept slot d).clock
kept_clock true slot d = refl
kept_clock false slot d = refl

pub post_fresh : (x : Outcome) (o : Order) (polls : Polls) (b : Bench) → NoneExpired b.desk.clock (entries_of b.channel) → NoneExpired (post_bench x o polls b).desk.clock (entries_of (post_bench x o polls b).channel)
post_fresh late o polls b all = all
post_fresh (full usage) o polls b all = all
post_fresh stored o polls b all =
    let kept = not (o.length == 0) in
    let r = roomy o.length polls.left (asked polls.leaving b) in
    subst (λ (n : ℕ). NoneExpired n (entries_of (post_bench stored o polls b).channel)) (kept_clock kept (lowest_slot r.row) (granted_desk r.channel.marks r.desk))
    (kept_fresh b.desk.clock kept _ _ (drop_fresh b.desk.clock (leaving_count o.length (entries_of b.channel)) (entries_of b.channel) all) (later b.desk.clock o.timeout (o.timeout == 0) refl))

-- the channel that was put back is the one that is found
pub publish_fresh : (c : List ℕ) (o : Order) (polls : Polls) (x : Outcome) (b after : Bench) (channels : List (List ℕ × Channel)) (stays : Bool)
    → NoneExpired b.desk.clock (entries_of b.channel) → after ≡ post_bench x o polls b
    → found c (record { desk = after.desk; channels = channels }) ≡ (if stays then Some after.channel else None)
    → IsFresh c (record { desk = after.desk; channels = channels })
publish_fresh c o polls x b after channels stays all is at =
    let fresh : NoneExpired after.desk.clock (entries_of after.channel) = subst (λ (y : Bench). NoneExpired y.desk.clock (entries_of y.channel)) (sym is) (post_fresh x o polls b all) in
    subst (λ (f : Option Channel). MatchOption f (Unit {0}) (λ ch. NoneExpired after.desk.clock (entries_of ch))) (sym at) (either stays fresh)
  where
    either : (t : Bool) → NoneExpired after.desk.clock (entries_of after.channel) → MatchOption (if t then Some after.channel else None) (Unit {0}) (λ ch. NoneExpired after.desk.clock (entries_of ch))
    either true fresh = fresh
    either false fresh = tt
