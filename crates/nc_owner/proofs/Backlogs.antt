-- No entry is past the last id.
use Rattle.std.proofs.Common.{◌≡◌, ℕ, zero, suc, Bool, true, false, List, [], ◌∷◌, ◌++◌, refl, arith}
use Rattle.std.proofs.lemmas.Int.{ints}
use Rattle.nc_types.specs.Id.{Id, IsPast, is_past}
use Rattle.nc_journal.proofs.Ids.{IsAtMost, past_of_test, past_of_at_most, past-trans}
use Rattle.nc_buffer.specs.declared.entry.Entry.{Entry}
use Rattle.nc_buffer.specs.Buffer.{IsPastAll, without_oldest, with_grant}
use Rattle.nc_owner.specs.Backlog.{IsBacklog}

at_most_of_test : (a b : Id) → is_past a b ≡ false → IsAtMost a b
at_most_of_test a b h = grind (arith, ints)

not_itself : (a : Id) → IsPast a a → ⊥
not_itself a past = grind (arith, ints)

test_not : (a b : Id) (t : Bool) → is_past a b ≡ t → (IsPast a b → ⊥) → is_past a b ≡ false
test_not a b true is never = absurd (never (past_of_test a b is))
test_not a b false is never = is

-- what is past the last id is past an entry
past_entry : (a last id : Id) → IsPast id last → is_past a last ≡ false → IsPast id a
past_entry a last id new not = past_of_at_most a last id (at_most_of_test a last not) new

still_not : (a last id : Id) → IsPast id last → is_past a last ≡ false → is_past a id ≡ false
still_not a last id new not = test_not a id (is_past a id) refl (λ past. not_itself a (past-trans a id a (past_entry a last id new not) past))

-- an id that is past the last one is the last one from then on
pub backlog-pass : (last id : Id) (es : List Entry) → IsPast id last → IsBacklog last es → IsBacklog id es
backlog-pass last id [] new all = tt
backlog-pass last id (e ∷ es) new all = (still_not e.id last id new all.0, backlog-pass last id es new all.1)

-- what is past the last id is past every entry
pub backlog-past_all : (last id : Id) (es : List Entry) → IsPast id last → IsBacklog last es → IsPastAll id es
backlog-past_all last id [] new all = tt
backlog-past_all last id (e ∷ es) new all = (past_entry e.id last id new all.0, backlog-past_all last id es new all.1)

push : (last : Id) (es : List Entry) (e : Entry) → IsBacklog last es → is_past e.id last ≡ false → IsBacklog last (es ++ e ∷ [])
push last [] e all is = (is, tt)
push last (x ∷ es) e all is = (all.0, push last es e all.1 is)

pub backlog-store : (last : Id) (es : List Entry) (e : Entry) → IsPast e.id last → IsBacklog last es → IsBacklog e.id (es ++ e ∷ [])
backlog-store last es e new all = push e.id es e (backlog-pass last e.id es new all) (test_not e.id e.id (is_past e.id e.id) refl (not_itself e.id))

pub backlog-grant : (last : Id) (place : ℕ) (es : List Entry) → IsBacklog last es → IsBacklog last (with_grant place es)
backlog-grant last place [] all = tt
backlog-grant last zero (e ∷ es) all = all
backlog-grant last (suc place) (e ∷ es) all = (all.0, backlog-grant last place es all.1)

pub backlog-oldest : (last : Id) (es : List Entry) → IsBacklog last es → IsBacklog last (without_oldest es)
backlog-oldest last [] all = tt
backlog-oldest last (e ∷ es) all = all.1
