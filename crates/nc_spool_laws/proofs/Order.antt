-- Each call keeps the spools in ascending order.
use Rattle.std.proofs.Common.{◌≡◌, ◌≢◌, suc, Bool, true, false, cond, List, [], ◌∷◌, refl, sym, ap, subst, ◌∙◌, Some, None, find, insert}
use Rattle.std.specs.Cmp.{IsTotalOrder}
use Rattle.std.specs.List.{AllByRecursion}
use Rattle.std.specs.Ordering.{is_lt, is_eq, ordering_reverse}
use Rattle.std.specs.declared.cmp.Ordering.{Ordering}
use Rattle.std.specs.declared.cmp.Ordering.TheVariants.{Less, Equal, Greater}
use Rattle.std.proofs.lemmas.Cmp.{then_total, on_total, lists_total, nat_list_cmp_total, nat_cmp_total, int_cmp_total}
use Rattle.nc_types.specs.Cursor.{CursorAt}
use Rattle.nc_spool_state.specs.Key.{KeyAt, cursor_cmp, key_cmp}
use Rattle.nc_spool_state.specs.Spool.{SpoolAt, is_of}
use Rattle.nc_spool_state.specs.Shelf.{place_before, with_spool, without_first}
use Rattle.nc_spool_state.specs.Edge.{newest_time}
use Rattle.nc_spool_laws.proofs.Closing.{IsClosed}
use Rattle.nc_spool_laws.specs.Attended.{AnyLast, AnyKey, AnyNews, AnyAnswer, AnyFind}
use Rattle.nc_spool_laws.specs.Order.{IsBelow, IsOther, AreAscending, Ascends, AscendsBeside, AscendsApart, KeepsOrder}
use Rattle.nc_spool_laws.proofs.Lists.{all-insert, all-without, all-changed, all-found}
use Rattle.nc_spool_laws.proofs.Same.{asked-shelf, fences-shelf, edges-shelf, behinds-shelf}
use Rattle.nc_spool_laws.proofs.Walk.{all-kept}

cursor_cmp_total : IsTotalOrder cursor_cmp
cursor_cmp_total = then_total (on_total (λ (c : CursorAt). c.time) nat_cmp_total) (on_total (λ (c : CursorAt). c.tags) (lists_total int_cmp_total))

pub key_cmp_total : IsTotalOrder key_cmp
key_cmp_total = then_total (on_total (λ (k : KeyAt). k.list) (lists_total nat_list_cmp_total)) (on_total (λ (k : KeyAt). k.cursor) cursor_cmp_total)

-- a key below another
below-trans : (a b c : KeyAt) → key_cmp a b ≡ Less → key_cmp b c ≡ Less → key_cmp a c ≡ Less
below-trans = key_cmp_total.trans

above : (a b : KeyAt) (o : Ordering) → key_cmp a b ≡ o → is_lt o ≡ false → o ≢ Equal → key_cmp b a ≡ Less
above a b Less was l e = absurd cc
above a b Equal was l e = absurd (e refl)
above a b Greater was l e = key_cmp_total.antisymm b a ∙ ap ordering_reverse was

below-other : (a b : KeyAt) → key_cmp a b ≡ Less → key_cmp a b ≢ Equal
below-other a b below same = let e : Less ≡ Equal = sym below ∙ same in cc

below-other_back : (a b : KeyAt) → key_cmp a b ≡ Less → key_cmp b a ≢ Equal
below-other_back a b below same = let e : Less ≡ Equal = sym below ∙ key_cmp_total.antisymm a b ∙ ap ordering_reverse same in cc

lt-less : (o : Ordering) → is_lt o ≡ true → o ≡ Less
lt-less Less e = refl
lt-less Equal e = absurd cc
lt-less Greater e = absurd cc

put-ascends : (s : SpoolAt) (spools : List SpoolAt) → AllByRecursion (IsOther s.key) spools → AreAscending spools → AreAscending (with_spool s spools)
put-ascends s [] others i = (tt, tt)
put-ascends s (t ∷ spools) others i = by (is_lt (key_cmp s.key t.key)) refl (put-ascends s spools others.1 i.1)
  where
    by : (b : Bool) → is_lt (key_cmp s.key t.key) ≡ b → AreAscending (with_spool s spools) → AreAscending (insert (t ∷ spools) (cond b 0 (suc (place_before s.key spools))) s)
    by true was rest =
        let less = lt-less (key_cmp s.key t.key) was in
        ((less, all-changed (IsBelow t.key) (IsBelow s.key) spools (λ u below. below-trans s.key t.key u.key less below) i.0), i)
    by false was rest = (all-insert (IsBelow t.key) spools (place_before s.key spools) s (above s.key t.key (key_cmp s.key t.key) refl was others.0) i.0, rest)

out-ascends : (test : SpoolAt → Bool) (spools : List SpoolAt) → AreAscending spools → AreAscending (without_first test spools)
out-ascends test [] i = tt
out-ascends test (t ∷ spools) i = by (test t) (out-ascends test spools i.1)
  where
    by : (b : Bool) → AreAscending (without_first test spools) → AreAscending (cond b spools (t ∷ without_first test spools))
    by true rest = i.1
    by false rest = (all-without (IsBelow t.key) test spools i.0, rest)

pub taken-other : (test : SpoolAt → Bool) (s : SpoolAt) (spools : List SpoolAt) → find test spools ≡ Some s → AreAscending spools → AllByRecursion (IsOther s.key) (without_first test spools)
taken-other test s [] e i = absurd cc
taken-other test s (t ∷ spools) e i = by (test t) e (λ h. taken-other test s spools h i.1)
  where
    by : (b : Bool) → cond b (Some t) (find test spools) ≡ Some s → (find test spools ≡ Some s → AllByRecursion (IsOther s.key) (without_first test spools)) → AllByRecursion (IsOther s.key) (cond b spools (t ∷ without_first test spools))
    by true e rest =
        let same : t ≡ s = cc in
        subst (λ (u : SpoolAt). AllByRecursion (IsOther u.key) spools) same (all-changed (IsBelow t.key) (IsOther t.key) spools (λ u below. below-other t.key u.key below) i.0)
    by false e rest = (below-other_back t.key s.key (all-found (IsBelow t.key) test spools s e i.0), rest e)

-- where no spool has a key, all have others
eq-equal : (o : Ordering) → is_eq o ≡ false → o ≢ Equal
eq-equal Less e same = cc
eq-equal Equal e same = cc
eq-equal Greater e same = cc

pub none-others : (key : KeyAt) (spools : List SpoolAt) → find (is_of key) spools ≡ None → AllByRecursion (IsOther key) spools
none-others key [] e = tt
none-others key (t ∷ spools) e = by (is_of key t) refl e (λ h. none-others key spools h)
  where
    by : (b : Bool) → is_of key t ≡ b → cond b (Some t) (find (is_of key) spools) ≡ None → (find (is_of key) spools ≡ None → AllByRecursion (IsOther key) spools) → AllByRecursion (IsOther key) (t ∷ spools)
    by true was e rest = absurd cc
    by false was e rest = (eq-equal (key_cmp key t.key) was, rest e)

pub order-closed : IsClosed AnyNews AnyAnswer AnyLast AnyKey AnyFind Ascends AscendsBeside AscendsApart
order-closed = record {
  sends = record {
    part = λ k c b i. i;
    end = λ k deleted b i. i;
    ready = λ find s b was i. tt;
    send = λ find s r b ready i. i;
    take = λ test s b was i. (taken-other test s b.shelf was i, out-ascends test b.shelf i);
    put = λ s b i. put-ascends s b.shelf i.0 i.1;
    drop = λ s b i. i.1;
    open_new = λ key r b none fits i. subst (λ (l : List SpoolAt). AllByRecursion (IsOther key) l × AreAscending l) (sym (asked-shelf key 0 key.list b)) (none-others key b.shelf none, i);
    fits = λ find s ready. tt;
    enter = λ r s b i. i;
    fence = λ time s b was unasked i. subst (λ (l : List SpoolAt). AllByRecursion (IsOther s.key) l × AreAscending l) (sym (fences-shelf time s.key 0 s.places b)) i;
  };
  join = λ k c b i. i;
  start = λ k cursor b i. i;
  leave = λ k s b i some. i;
  look = λ c j s b at i. i;
  forget = λ c j n quiet s b at was i. i;
  quieten = λ number j quiet news s b at right nothing i. i;
  discover = λ number j quiet news s b at right later i. i;
  hear = λ c j quiet news s b at rests good later i. i;
  take_start = λ test s b was i. i;
  put_start = λ s b i. i;
  drop_start = λ s b i. i;
  new_start = λ r list b fits i. subst AreAscending (sym (edges-shelf r.k list b)) i;
  hear_edge = λ j floor last s b told i. i;
  newest_fits = λ s b i. tt;
  cursor_fits = λ cursor s b was i. tt;
  fence_edges = λ s b i. subst AreAscending (sym (behinds-shelf (newest_time s.edges) s.reader.k s.list 0 s.edges b)) i;
}

pub order-kept : KeepsOrder
order-kept = all-kept AnyNews AnyAnswer AnyLast AnyKey AnyFind Ascends AscendsBeside AscendsApart order-closed
