-- What each call of a buffer does to its slots and marks.
use Rattle.std.proofs.Common.{◌≡◌, ℕ, ◌<◌, Bool, false, List, [], ◌∷◌, ◌++◌, length, get_or, set, find, Option, None, Some, refl, sym, ◌∙◌, ap, subst, arith}
use Rattle.std.specs.List.{position}
use Rattle.nc_buffer.specs.declared.entry.Entry.{Entry}
use Rattle.nc_buffer.specs.declared.mark.Mark.{Mark}
use Rattle.nc_buffer.specs.declared.mark.Sought.{Sought}
use Rattle.nc_buffer.specs.declared.mark.Sought.TheVariants.{Any}
use Rattle.nc_buffer.specs.Buffer.{IsRising, StaysRising, IsPastAll, LosesTaken, is_spent, without_first, oldest, without_oldest, granted, with_grant}
use Rattle.nc_buffer.specs.Marks.{no_mark, mark_of, passes, tells, kept_before, kept, Shows}
use Rattle.nc_buffer.specs.Index.{IsIndexed}
use Rattle.nc_buffer.proofs.Firsts.{none-leaves}
use Rattle.nc_buffer.proofs.Rising.{rising-push, rising-without, rising-grant}
use Rattle.nc_buffer.proofs.BufferLaws.{takes-one}
use Rattle.nc_buffer.proofs.Slots.{shows-set, shows-push, shows-le, kept-push, found-first, found-entry, missed-none, grant-at, same-mark}

-- an entry that is taken out
pub record Takes (w : Sought) (slots : List (Option Entry)) (marks : List Mark) (leaf : ℕ) : Type 0 where
  pub within : leaf < length slots
  pub leaf_within : leaf < length marks
  pub indexed : IsIndexed (set slots leaf None) (set marks leaf no_mark)
  pub taken : get_or slots leaf None ≡ find (passes w) (kept slots)
  pub left : kept (set slots leaf None) ≡ without_first (passes w) (kept slots)
  pub rising : StaysRising (kept slots) (kept (set slots leaf None))

pub takes : (w : Sought) (slots : List (Option Entry)) (marks : List Mark) (leaf : ℕ) → tells w no_mark ≡ false → IsIndexed slots marks → position (tells w) marks ≡ Some leaf → Takes w slots marks leaf
takes w slots marks leaf quiet i at =
    let first = found-first w slots marks leaf quiet i.shown at in
    let entry = found-entry w slots marks leaf quiet i.shown at in
    let le = shows-le slots marks i.shown in
    let within : leaf < length slots = entry.0 in
    let rises : IsRising (kept (set slots leaf None)) = subst IsRising first.left (rising-without (passes w) (kept slots) i.rising) in
    record {
      within = entry.0;
      leaf_within = omega (arith, within, le);
      indexed = record { shown = shows-set slots marks leaf None i.shown entry.0; rising = rises };
      taken = sym first.taken;
      left = sym first.left;
      rising = record { before = i.rising; after = rises };
    }

-- where there is no such entry
pub record Misses (w : Sought) (slots : List (Option Entry)) : Type 0 where
  pub none : find (passes w) (kept slots) ≡ None
  pub left : kept slots ≡ without_first (passes w) (kept slots)
  pub rising : StaysRising (kept slots) (kept slots)

pub misses : (w : Sought) (slots : List (Option Entry)) (marks : List Mark) → tells w no_mark ≡ false → IsIndexed slots marks → position (tells w) marks ≡ None → Misses w slots
misses w slots marks quiet i at =
    let none = missed-none w slots marks quiet i.shown at in
    record { none = none; left = none-leaves (passes w) (kept slots) none; rising = record { before = i.rising; after = i.rising } }

-- an entry that is stored
pub record Stores (slots : List (Option Entry)) (marks : List Mark) (e : Entry) : Type 0 where
  pub indexed : IsIndexed (slots ++ Some e ∷ []) (set marks (length slots) (mark_of e))
  pub more : kept (slots ++ Some e ∷ []) ≡ kept slots ++ e ∷ []
  pub rising : StaysRising (kept slots) (kept (slots ++ Some e ∷ []))

pub stores : (slots : List (Option Entry)) (marks : List Mark) (e : Entry) → Shows slots marks → IsRising (kept slots) → length slots < length marks → IsPastAll e.id (kept slots) → Stores slots marks e
stores slots marks e shown rising room past =
    let more = kept-push slots e in
    let rises : IsRising (kept (slots ++ Some e ∷ [])) = subst IsRising (sym more) (rising-push (kept slots) e rising past) in
    record {
      indexed = record { shown = shows-push slots marks (Some e) shown room; rising = rises };
      more = more;
      rising = record { before = rising; after = rises };
    }

-- a grant that is counted
pub record Grants (slots : List (Option Entry)) (marks : List Mark) (leaf place : ℕ) (e : Entry) : Type 0 where
  pub indexed : IsIndexed (set slots leaf (Some (granted e))) (set marks leaf (mark_of (granted e)))
  pub counted : kept (set slots leaf (Some (granted e))) ≡ with_grant place (kept slots)
  pub rising : StaysRising (kept slots) (kept (set slots leaf (Some (granted e))))

pub grants : (slots : List (Option Entry)) (marks : List Mark) (leaf place : ℕ) (e : Entry) → IsIndexed slots marks → leaf < length slots → get_or slots leaf None ≡ Some e → place ≡ kept_before leaf marks → Grants slots marks leaf place e
grants slots marks leaf place e i within is at =
    let counted : kept (set slots leaf (Some (granted e))) ≡ with_grant place (kept slots) = grant-at slots marks leaf e i.shown is ∙ ap (λ n. with_grant n (kept slots)) (sym at) in
    let rises : IsRising (kept (set slots leaf (Some (granted e)))) = subst IsRising (sym counted) (rising-grant place (kept slots) i.rising) in
    record {
      indexed = record { shown = shows-set slots marks leaf (Some (granted e)) i.shown within; rising = rises };
      counted = counted;
      rising = record { before = i.rising; after = rises };
    }

-- a grant that doesn't spend the entry leaves its mark
pub mark-stays : (slots : List (Option Entry)) (marks : List Mark) (leaf : ℕ) (e : Entry) → Shows slots marks → get_or slots leaf None ≡ Some e → is_spent (granted e) ≡ false → set marks leaf (mark_of (granted e)) ≡ marks
mark-stays slots marks leaf e shown is unspent =
    let was : is_spent e ≡ false = grind (arith, unspent) in
    let same : mark_of (granted e) ≡ mark_of e = ap (λ b. record { kept = 1; soonest = e.expires; spent = b; latest = e.id }) (unspent ∙ sym was) in
    ap (set marks leaf) same ∙ same-mark slots marks leaf e shown is

-- one entry fewer where one is taken out
pub loses : (test : Entry → Bool) (es : List Entry) → LosesTaken (find test es) es (without_first test es)
loses test es = by (find test es) refl
  where
    by : (o : Option Entry) → find test es ≡ o → LosesTaken o es (without_first test es)
    by None is = sym (none-leaves test es is)
    by (Some e) is = (takes-one test es).shorter e is

pub any-oldest : (es : List Entry) → find (passes Any) es ≡ oldest es
any-oldest [] = refl
any-oldest (e ∷ es) = refl

pub any-left : (es : List Entry) → without_first (passes Any) es ≡ without_oldest es
any-left [] = refl
any-left (e ∷ es) = refl
