-- What taking out entries one after the other leaves.
use Rattle.std.proofs.Common.{◌≡◌, ◌≢◌, ℕ, zero, suc, ◌+◌, ◌<◌, Bool, true, false, not, cond, List, [], ◌∷◌, length, refl, sym, ◌∙◌, ap, subst, filter, find, Option, None, Some, IfSome, MatchOption, arith}
use Rattle.std.specs.List.{AllByRecursion, slice_get}
use Rattle.std.proofs.lemmas.Int.{ints}
use Rattle.nc_types.specs.Id.{Id, IsPast, is_past}
use Rattle.nc_buffer.specs.declared.entry.Entry.{Entry}
use Rattle.nc_buffer.specs.Buffer.{is_spent, first_past, without_first}
use Rattle.nc_buffer.specs.Laws.{others, TakesOne, LeavesOthers, TakenIsGone, CanGrant, entry_past, LookFinds}
use Rattle.nc_buffer.proofs.Firsts.{missed-is_none, found-at, none-leaves}

in_order : (test : Entry → Bool) (es : List Entry) (e : Entry) → find test es ≡ Some e → filter test es ≡ e ∷ filter test (without_first test es)
in_order test [] e h = absurd cc
in_order test (x ∷ es) e h = by (test x) refl h (in_order test es e)
  where
    by : (b : Bool) → test x ≡ b → cond b (Some x) (find test es) ≡ Some e → (find test es ≡ Some e → filter test es ≡ e ∷ filter test (without_first test es))
        → cond b (x ∷ filter test es) (filter test es) ≡ e ∷ filter test (cond b es (x ∷ without_first test es))
    by true is found rest = let same : x ≡ e = cc in ap (λ y. y ∷ filter test es) same
    by false is found rest = rest found ∙ ap (λ b. e ∷ cond b (x ∷ filter test (without_first test es)) (filter test (without_first test es))) (sym is)

others_stay : (test : Entry → Bool) (es : List Entry) → others test (without_first test es) ≡ others test es
others_stay test [] = refl
others_stay test (x ∷ es) = by (test x) refl (others_stay test es)
  where
    by : (b : Bool) → test x ≡ b → others test (without_first test es) ≡ others test es → others test (cond b es (x ∷ without_first test es)) ≡ cond (not b) (x ∷ others test es) (others test es)
    by true is rest = refl
    by false is rest = ap (λ b. cond (not b) (x ∷ others test (without_first test es)) (others test (without_first test es))) is ∙ ap (λ l. x ∷ l) rest

shorter : (test : Entry → Bool) (es : List Entry) (e : Entry) → find test es ≡ Some e → length es ≡ length (without_first test es) + 1
shorter test [] e h = absurd cc
shorter test (x ∷ es) e h = by (test x) h (shorter test es e)
  where
    by : (b : Bool) → cond b (Some x) (find test es) ≡ Some e → (find test es ≡ Some e → length es ≡ length (without_first test es) + 1) → length (x ∷ es) ≡ length (cond b es (x ∷ without_first test es)) + 1
    by true found rest = omega arith
    by false found rest = omega (arith, rest found)

all_others : (test : Entry → Bool) (es : List Entry) → find test es ≡ None → others test es ≡ es
all_others test [] h = refl
all_others test (x ∷ es) h = by (test x) h (all_others test es)
  where
    by : (b : Bool) → cond b (Some x) (find test es) ≡ None → (find test es ≡ None → others test es ≡ es) → cond (not b) (x ∷ others test es) (others test es) ≡ x ∷ es
    by true none rest = absurd cc
    by false none rest = ap (λ l. x ∷ l) (rest none)

pub takes-one : (test : Entry → Bool) (es : List Entry) → TakesOne test es
takes-one test es = record {
  in_order = in_order test es;
  shorter = shorter test es;
  others_stay = others_stay test es;
  none_leaves = λ none. sym (none-leaves test es none);
  all_others = all_others test es;
}

pub leaves-others : (n : ℕ) (test : Entry → Bool) (es : List Entry) → LeavesOthers n test es
leaves-others zero test es none = sym (all_others test es none)
leaves-others (suc n) test es none = leaves-others n test (without_first test es) none ∙ others_stay test es

all_found : (P : Entry → Type 0) (test : Entry → Bool) (es : List Entry) (e : Entry) → AllByRecursion P es → find test es ≡ Some e → P e
all_found P test [] e all h = absurd cc
all_found P test (x ∷ es) e all h = by (test x) h (all_found P test es e all.1)
  where
    by : (b : Bool) → cond b (Some x) (find test es) ≡ Some e → (find test es ≡ Some e → P e) → P e
    by true found rest = let same : x ≡ e = cc in subst P same all.0
    by false found rest = rest found

past-apart : (a b : Id) → IsPast a b → a ≢ b
past-apart a b past same = grind (arith, ints)

all_apart : (es : List Entry) (id : Id) → AllByRecursion (λ later. IsPast later.id id) es → AllByRecursion (λ kept. kept.id ≢ id) es
all_apart [] id past = tt
all_apart (x ∷ es) id past = (past-apart x.id id past.0, all_apart es id past.1)

pub taken-gone : (test : Entry → Bool) (es : List Entry) → TakenIsGone test es
taken-gone test [] rises e h = tt
taken-gone test (x ∷ es) rises e h = by (test x) h (taken-gone test es rises.1 e)
  where
    by : (b : Bool) → cond b (Some x) (find test es) ≡ Some e → (find test es ≡ Some e → AllByRecursion (λ kept. kept.id ≢ e.id) (without_first test es)) → AllByRecursion (λ kept. kept.id ≢ e.id) (cond b es (x ∷ without_first test es))
    by true found rest = let same : x ≡ e = cc in subst (λ (y : Entry). AllByRecursion (λ kept. kept.id ≢ y.id) es) same (all_apart es x.id rises.0)
    by false found rest = (λ same. past-apart e.id x.id (all_found (λ later. IsPast later.id x.id) test es e rises.0 found) (sym same), rest found)

pub can-grant : (es : List Entry) → CanGrant es
can-grant [] none place = tt
can-grant (x ∷ es) none place = by (is_spent x) refl none place (can-grant es)
  where
    by : (b : Bool) → is_spent x ≡ b → cond b (Some x) (find is_spent es) ≡ None → (place : ℕ) → CanGrant es → IfSome (slice_get (x ∷ es) place) (λ e. e.grants < 4294967295)
    by true is missed place rest = absurd cc
    by false is missed zero rest = grind arith
    by false is missed (suc place) rest = rest missed place

pub look-finds : (after : Id) (es : List Entry) → LookFinds after es
look-finds after es = by (first_past after es) refl
  where
    past : Entry → Bool
    past e = is_past e.id after

    by : (o : Option ℕ) → first_past after es ≡ o → MatchOption o (entry_past after es ≡ None) (λ place. slice_get es place ≡ entry_past after es)
    by None is = missed-is_none past es is
    by (Some place) is = found-at past es place is
