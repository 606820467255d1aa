-- After a notice, and after a removal, no spool with the channel rests on an older answer.
use Rattle.std.proofs.Common.{◌≡◌, ◌≢◌, ◌⊎◌, inl, inr, ℕ, zero, suc, ◌+◌, ◌<◌, Bool, true, false, cond, ltb, ◌||◌, List, [], ◌∷◌, refl, sym, ap, subst, ◌∙◌, Option, Some, None, length, set, get_or, arith}
use Rattle.std.specs.Prelude.{fold, map, bytes_eq}
use Rattle.std.specs.List.{AllByRecursion, list_any, position_or_len, filter}
use Rattle.std.specs.Ordering.{is_eq}
use Rattle.std.specs.declared.cmp.Ordering.{Ordering}
use Rattle.std.specs.declared.cmp.Ordering.TheVariants.{Less, Equal, Greater}
use Rattle.std.proofs.lemmas.Grind.{get_or-set_at}
use Rattle.std.proofs.lemmas.Cmp.{tied_itself}
use Rattle.nc_types.specs.Id.{is_past}
use Rattle.nc_spool_state.specs.declared.place.Place.{Place}
use Rattle.nc_spool_state.specs.declared.place.Place.TheVariants.{Asked, Nothing, Found}
use Rattle.nc_spool_state.specs.declared.hear.News.{News}
use Rattle.nc_spool.specs.declared.board.Board.{Board}
use Rattle.nc_spool_state.specs.Key.{KeyAt, id_at, key_cmp, place_of}
use Rattle.nc_spool_state.specs.Spool.{SpoolAt, no_place, is_of, has_channel, place_at, with_place}
use Rattle.nc_spool_state.specs.Shelf.{spool_of, without_first, place_before, key_of, keys_with}
use Rattle.nc_spool.specs.Board.{shelved, fresh_places}
use Rattle.nc_spool.specs.Decide.{fenced, fenced_places, fence_look, decided}
use Rattle.nc_spool_state.specs.Hear.{found_by, notice_says, gone_says}
use Rattle.nc_spool.specs.Hear.{looked_again, heeded, noticed, noticed_at, noticed_by, noticed_in, noticed_place, emptied, emptied_at, emptied_by, emptied_in, emptied_place}
use Rattle.nc_spool.specs.Depart.{member_gone, gone}
use Rattle.nc_spool_laws.proofs.Closing.{IsSending, out}
use Rattle.nc_spool_laws.specs.Attended.{AnyLast, AnyKey, AnyNews, AnyAnswer, AnyFind, InAll, BesideAll, ApartAll, IsWhole}
use Rattle.nc_spool_laws.specs.Order.{IsOther, AreAscending, Ascends, AscendsBeside, AscendsApart}
use Rattle.nc_spool_laws.specs.Hearing.{has_answer, Heard, AreHeard}
use Rattle.nc_spool_laws.proofs.Lists.{all-insert, all-without, all-found, none-without, found-passes, any-below, all-changed}
use Rattle.nc_spool_laws.proofs.Same.{asked-shelf, fences-shelf}
use Rattle.nc_spool_laws.proofs.Walk.{decided-kept, noticed_at-in, emptied_at-in, members_gone-in}
use Rattle.nc_spool_laws.proofs.Order.{key_cmp_total, order-closed, taken-other, none-others}
use Rattle.nc_spool_laws.proofs.Local.{whole, local-closed}

-- a place that is found is within the list
found-within : (n m i : ℕ) (b : Bool) → ltb n m ≡ b → cond b (Some n) None ≡ Some i → i < m
found-within n m i true lt e = let same : n ≡ i = cc in grind arith
found-within n m i false lt e = absurd cc

pub place-within : (c : List ℕ) (list : List (List ℕ)) (j : ℕ) → place_of c list ≡ Some j → j < length list
place-within c list j e = found-within (position_or_len (λ name. bytes_eq name c) list) (length list) j (ltb (position_or_len (λ name. bytes_eq name c) list) (length list)) refl e

pub fresh-unanswered : (n : ℕ) (names : List (List ℕ)) (j : ℕ) → j < length names → has_answer (get_or (fresh_places n names) j no_place) ≡ false
fresh-unanswered n [] j l = absurd (omega arith)
fresh-unanswered n (c ∷ names) zero l = refl
fresh-unanswered n (c ∷ names) (suc j) l = fresh-unanswered (n + 1) names j (omega (arith, l))

fenced-same : (time n : ℕ) (p : Place) → has_answer p ≡ false → has_answer (fenced time n p) ≡ false
fenced-same time n (Asked number earlier) e = e
fenced-same time n (Nothing quiet) e = absurd cc
fenced-same time n (Found q id owner g) e = refl

pub fenced-unanswered : (time : ℕ) (key : KeyAt) (i : ℕ) (places : List Place) (b : Board) (j : ℕ) → has_answer (get_or places j no_place) ≡ false → has_answer (get_or (fenced_places time key i places b) j no_place) ≡ false
fenced-unanswered time key i [] b j e = e
fenced-unanswered time key i (p ∷ places) b zero e = fenced-same time b.next p e
fenced-unanswered time key i (p ∷ places) b (suc j) e = fenced-unanswered time key (i + 1) places (fence_look time key i p b) j e

-- the keys of the spools that are still to hear
abbrev is_pending : List KeyAt → SpoolAt → Bool
is_pending keys s = list_any (λ key. is_of key s) keys

abbrev Hears : List ℕ → List KeyAt → SpoolAt → Type 0
Hears c keys s = Heard c s ⊎ (is_pending keys s ≡ true)

-- one whose key isn't the next one hears from the others
next-hears : (c : List ℕ) (key : KeyAt) (keys : List KeyAt) (s : SpoolAt) → is_of key s ≡ false → Hears c (key ∷ keys) s → Hears c keys s
next-hears c key keys s e (inl h) = inl h
next-hears c key keys s e (inr h) = inr (subst (λ (b : Bool). (b || is_pending keys s) ≡ true) e h)

other-eq : (o : Ordering) → o ≢ Equal → is_eq o ≡ false
other-eq Less e = refl
other-eq Equal e = absurd (e refl)
other-eq Greater e = refl

eq-equal : (o : Ordering) → is_eq o ≡ true → o ≡ Equal
eq-equal Less e = absurd cc
eq-equal Equal e = refl
eq-equal Greater e = absurd cc

others-hear : (c : List ℕ) (key : KeyAt) (keys : List KeyAt) (spools : List SpoolAt) → AllByRecursion (IsOther key) spools → AllByRecursion (Hears c (key ∷ keys)) spools → AllByRecursion (Hears c keys) spools
others-hear c key keys [] o h = tt
others-hear c key keys (s ∷ spools) o h = (next-hears c key keys s (other-eq (key_cmp key s.key) o.0) h.0, others-hear c key keys spools o.1 h.1)

same-others : (a b : KeyAt) (spools : List SpoolAt) → key_cmp a b ≡ Equal → AllByRecursion (IsOther b) spools → AllByRecursion (IsOther a) spools
same-others a b [] e o = tt
same-others a b (s ∷ spools) e o = (λ same. o.0 (sym (key_cmp_total.congr a b s.key e) ∙ same), same-others a b spools e o.1)

module _ (c : List ℕ) (keys : List KeyAt) where
  -- a place of the channel that takes something else
  pub placed : (j : ℕ) (p : Place) (s : SpoolAt) → IsWhole s → place_of c s.key.list ≡ Some j → has_answer p ≡ false → Hears c keys (with_place j p s)
  placed j p s whole_one was e = inl (λ i is. by i is)
    where
      by : (i : ℕ) → place_of c s.key.list ≡ Some i → has_answer (get_or (set s.places j p) i no_place) ≡ false
      by i is = let same : i ≡ j = cc in let within = place-within c s.key.list j was in subst (λ (q : Place). has_answer q ≡ false) (sym (get_or-set_at s.places j i p no_place same (omega (arith, within, whole_one)))) e

  stays : (j : ℕ) (s : SpoolAt) → place_of c s.key.list ≡ Some j → has_answer (place_at s j) ≡ false → Hears c keys s
  stays j s was e = inl (λ i is. let same : j ≡ i = cc in subst (λ (k : ℕ). has_answer (place_at s k) ≡ false) same e)

module _ (c : List ℕ) (keys : List KeyAt) where
  hears-sending : IsSending AnyNews AnyAnswer AnyLast AnyKey AnyFind (InAll (Hears c keys)) (BesideAll (Hears c keys)) (ApartAll (Hears c keys))
  hears-sending = record {
    part = λ k c b i. i;
    end = λ k deleted b i. i;
    ready = λ find s b was i. tt;
    send = λ find s r b ready i. i;
    take = λ test s b was i. (all-found (Hears c keys) test b.shelf s was i, all-without (Hears c keys) test b.shelf i);
    put = λ s b i. all-insert (Hears c keys) b.shelf (place_before s.key b.shelf) s i.0 i.1;
    drop = λ s b i. i.1;
    open_new = λ key r b none fits i. (inl (λ j e. fresh-unanswered b.next key.list j (place-within c key.list j e)), subst (AllByRecursion (Hears c keys)) (sym (asked-shelf key 0 key.list b)) i);
    fits = λ find s ready. tt;
    enter = λ r s b i. i;
    fence = λ time s b was unasked i. (fence-hears time s b i.0, subst (AllByRecursion (Hears c keys)) (sym (fences-shelf time s.key 0 s.places b)) i.1);
  }
    where
      fence-hears : (time : ℕ) (s : SpoolAt) (b : Board) → Hears c keys s → Hears c keys (record s { places = fenced_places time s.key 0 s.places b })
      fence-hears time s b (inl h) = inl (λ j e. fenced-unanswered time s.key 0 s.places b j (h j e))
      fence-hears time s b (inr h) = inr h

  hears-decided : (s : SpoolAt) (b : Board) → Hears c keys s → AllByRecursion (Hears c keys) b.shelf → AllByRecursion (Hears c keys) (decided s b).shelf
  hears-decided s b h i = decided-kept AnyNews AnyAnswer AnyLast AnyKey AnyFind (InAll (Hears c keys)) (BesideAll (Hears c keys)) (ApartAll (Hears c keys)) hears-sending s b (h, i)

  hears-shelved : (s : SpoolAt) (b : Board) → Hears c keys s → AllByRecursion (Hears c keys) b.shelf → AllByRecursion (Hears c keys) (shelved s b).shelf
  hears-shelved s b h i = all-insert (Hears c keys) b.shelf (place_before s.key b.shelf) s h i

  notice-hears : (news : News) (past : Bool) (p : Place) (j : ℕ) (s : SpoolAt) (b : Board) → place_at s j ≡ p → IsWhole s → place_of c s.key.list ≡ Some j → AllByRecursion (Hears c keys) b.shelf → AllByRecursion (Hears c keys) (heeded (notice_says news past p) j s b).shelf
  notice-hears news true (Nothing quiet) j s b at whole_one was i = hears-decided (with_place j (found_by quiet.q news) s) b (placed c keys j (found_by quiet.q news) s whole_one was refl) i
  notice-hears news false (Nothing quiet) j s b at whole_one was i = hears-shelved (with_place j (Asked b.next None) s) (looked_again s.key j b) (placed c keys j (Asked b.next None) s whole_one was refl) i
  notice-hears news true (Asked n (Some quiet)) j s b at whole_one was i = hears-decided (with_place j (found_by quiet.q news) s) b (placed c keys j (found_by quiet.q news) s whole_one was refl) i
  notice-hears news false (Asked n (Some quiet)) j s b at whole_one was i = hears-shelved (with_place j (Asked n None) s) b (placed c keys j (Asked n None) s whole_one was refl) i
  notice-hears news past (Asked n None) j s b at whole_one was i = hears-shelved s b (stays c keys j s was (ap has_answer at)) i
  notice-hears news past (Found q id owner g) j s b at whole_one was i = hears-shelved s b (stays c keys j s was (ap has_answer at)) i

  gone-hears : (p : Place) (j : ℕ) (s : SpoolAt) (b : Board) → place_at s j ≡ p → IsWhole s → place_of c s.key.list ≡ Some j → AllByRecursion (Hears c keys) b.shelf → AllByRecursion (Hears c keys) (heeded (gone_says p) j s b).shelf
  gone-hears (Nothing quiet) j s b at whole_one was i = hears-shelved (with_place j (Asked b.next None) s) (looked_again s.key j b) (placed c keys j (Asked b.next None) s whole_one was refl) i
  gone-hears (Asked n (Some quiet)) j s b at whole_one was i = hears-shelved (with_place j (Asked n None) s) b (placed c keys j (Asked n None) s whole_one was refl) i
  gone-hears (Asked n None) j s b at whole_one was i = hears-shelved s b (stays c keys j s was (ap has_answer at)) i
  gone-hears (Found q id owner g) j s b at whole_one was i = hears-shelved s b (stays c keys j s was (ap has_answer at)) i

  notice-in : (news : News) (s : SpoolAt) (b : Board) → IsWhole s → AllByRecursion (Hears c keys) b.shelf → AllByRecursion (Hears c keys) (noticed_in c news s b).shelf
  notice-in news s b whole_one i = by (place_of c s.key.list) refl
    where
      by : (o : Option ℕ) → place_of c s.key.list ≡ o → AllByRecursion (Hears c keys) (noticed_place o news s b).shelf
      by None was = hears-shelved s b (inl (λ j e. let no_j : None ≡ Some j = sym was ∙ e in absurd cc)) i
      by (Some j) was = notice-hears news (is_past news.id (id_at s.key j)) (place_at s j) j s b refl whole_one was i

  gone-in : (s : SpoolAt) (b : Board) → IsWhole s → AllByRecursion (Hears c keys) b.shelf → AllByRecursion (Hears c keys) (emptied_in c s b).shelf
  gone-in s b whole_one i = by (place_of c s.key.list) refl
    where
      by : (o : Option ℕ) → place_of c s.key.list ≡ o → AllByRecursion (Hears c keys) (emptied_place o s b).shelf
      by None was = hears-shelved s b (inl (λ j e. let no_j : None ≡ Some j = sym was ∙ e in absurd cc)) i
      by (Some j) was = gone-hears (place_at s j) j s b refl whole_one was i

  -- the spools that are left when the next one is taken
  left-hear : (key : KeyAt) (s : SpoolAt) (b : Board) → spool_of key b.shelf ≡ Some s → AreAscending b.shelf → AllByRecursion (Hears c (key ∷ keys)) b.shelf → AllByRecursion (Hears c keys) (without_first (is_of key) b.shelf)
  left-hear key s b was order i =
      others-hear c key keys (without_first (is_of key) b.shelf)
      (same-others key s.key (without_first (is_of key) b.shelf) (eq-equal (key_cmp key s.key) (found-passes (is_of key) b.shelf s was)) (taken-other (is_of key) s b.shelf was order))
      (all-without (Hears c (key ∷ keys)) (is_of key) b.shelf i)

  none-hear : (key : KeyAt) (b : Board) → spool_of key b.shelf ≡ None → AllByRecursion (Hears c (key ∷ keys)) b.shelf → AllByRecursion (Hears c keys) (without_first (is_of key) b.shelf)
  none-hear key b was i = subst (AllByRecursion (Hears c keys)) (none-without (is_of key) b.shelf was) (others-hear c key keys b.shelf (none-others key b.shelf was) i)

  notice-at : (news : News) (key : KeyAt) (b : Board) → AreAscending b.shelf → AllByRecursion IsWhole b.shelf → AllByRecursion (Hears c (key ∷ keys)) b.shelf → AllByRecursion (Hears c keys) (noticed_at c news b key).shelf
  notice-at news key b order whole_one i = by (spool_of key b.shelf) refl
    where
      by : (o : Option SpoolAt) → spool_of key b.shelf ≡ o → AllByRecursion (Hears c keys) (noticed_by o c news (out (is_of key) b)).shelf
      by None was = none-hear key b was i
      by (Some s) was = notice-in news s (out (is_of key) b) (all-found IsWhole (is_of key) b.shelf s was whole_one) (left-hear key s b was order i)

  gone-at : (key : KeyAt) (b : Board) → AreAscending b.shelf → AllByRecursion IsWhole b.shelf → AllByRecursion (Hears c (key ∷ keys)) b.shelf → AllByRecursion (Hears c keys) (emptied_at c b key).shelf
  gone-at key b order whole_one i = by (spool_of key b.shelf) refl
    where
      by : (o : Option SpoolAt) → spool_of key b.shelf ≡ o → AllByRecursion (Hears c keys) (emptied_by o c (out (is_of key) b)).shelf
      by None was = none-hear key b was i
      by (Some s) was = gone-in s (out (is_of key) b) (all-found IsWhole (is_of key) b.shelf s was whole_one) (left-hear key s b was order i)

-- at the start each spool that has the channel is still to hear
within-found : (n m i : ℕ) (b : Bool) → ltb n m ≡ b → cond b (Some n) None ≡ Some i → n < m
within-found n m i true lt e = grind arith
within-found n m i false lt e = absurd cc

no-place : (c : List ℕ) (list : List (List ℕ)) (j : ℕ) → list_any (λ name. bytes_eq name c) list ≡ false → place_of c list ≡ Some j → ⊥
no-place c list j none e =
    let some = any-below (λ name. bytes_eq name c) list (within-found (position_or_len (λ name. bytes_eq name c) list) (length list) j (ltb (position_or_len (λ name. bytes_eq name c) list) (length list)) refl e) in
    cc

pending-more : (c : List ℕ) (key : KeyAt) (keys : List KeyAt) (s : SpoolAt) → Hears c keys s → Hears c (key ∷ keys) s
pending-more c key keys s (inl h) = inl h
pending-more c key keys s (inr h) = inr (late (is_of key s) (is_pending keys s) h)
  where
    late : (a b : Bool) → b ≡ true → (a || b) ≡ true
    late true b e = refl
    late false b e = e

own-key : (key : KeyAt) → is_eq (key_cmp key key) ≡ true
own-key key = ap is_eq (tied_itself key_cmp_total key)

all-pending : (c : List ℕ) (spools : List SpoolAt) → AllByRecursion (Hears c (keys_with c spools)) spools
all-pending c [] = tt
all-pending c (s ∷ spools) = by (has_channel c s) refl (all-pending c spools)
  where
    by : (b : Bool) → has_channel c s ≡ b → AllByRecursion (Hears c (keys_with c spools)) spools → AllByRecursion (Hears c (map key_of (cond b (s ∷ filter (has_channel c) spools) (filter (has_channel c) spools)))) (s ∷ spools)
    by true was rest = (inr (ap (λ (b : Bool). b || is_pending (keys_with c spools) s) (own-key s.key)), all-changed (Hears c (keys_with c spools)) (Hears c (s.key ∷ keys_with c spools)) spools (λ t h. pending-more c s.key (keys_with c spools) t h) rest)
    by false was rest = (inl (λ j e. absurd (no-place c s.key.list j was e)), rest)

pub none-pending : (c : List ℕ) (s : SpoolAt) → Hears c [] s → Heard c s
none-pending c s (inl h) = h
none-pending c s (inr h) = absurd cc

module _ (c : List ℕ) where
  notice-keys : (news : News) (keys : List KeyAt) (b : Board) → AreAscending b.shelf → AllByRecursion IsWhole b.shelf → AllByRecursion (Hears c keys) b.shelf → AllByRecursion (Hears c []) (fold (noticed_at c news) b keys).shelf
  notice-keys news [] b order whole_now i = i
  notice-keys news (key ∷ keys) b order whole_now i =
      notice-keys news keys (noticed_at c news b key)
      (noticed_at-in AnyNews AnyAnswer AnyLast AnyKey AnyFind Ascends AscendsBeside AscendsApart order-closed c news b key tt order)
      (noticed_at-in AnyNews AnyAnswer AnyLast AnyKey AnyFind (InAll IsWhole) (BesideAll IsWhole) (ApartAll IsWhole) (local-closed AnyNews AnyAnswer IsWhole whole) c news b key tt whole_now)
      (notice-at c keys news key b order whole_now i)

  gone-keys : (keys : List KeyAt) (b : Board) → AreAscending b.shelf → AllByRecursion IsWhole b.shelf → AllByRecursion (Hears c keys) b.shelf → AllByRecursion (Hears c []) (fold (emptied_at c) b keys).shelf
  gone-keys [] b order whole_now i = i
  gone-keys (key ∷ keys) b order whole_now i =
      gone-keys keys (emptied_at c b key)
      (emptied_at-in AnyNews AnyAnswer AnyLast AnyKey AnyFind Ascends AscendsBeside AscendsApart order-closed c b key order)
      (emptied_at-in AnyNews AnyAnswer AnyLast AnyKey AnyFind (InAll IsWhole) (BesideAll IsWhole) (ApartAll IsWhole) (local-closed AnyNews AnyAnswer IsWhole whole) c b key whole_now)
      (gone-at c keys key b order whole_now i)

  notice-heard : (news : News) (b : Board) → AreAscending b.shelf → AllByRecursion IsWhole b.shelf → AllByRecursion (Heard c) (noticed c news b).shelf
  notice-heard news b order whole_now =
      all-changed (Hears c []) (Heard c) (noticed c news b).shelf (λ s h. none-pending c s h) (notice-keys news (keys_with c b.shelf) b order whole_now (all-pending c b.shelf))

  emptied-heard : (b : Board) → AreAscending b.shelf → AllByRecursion IsWhole b.shelf → AllByRecursion (Heard c) (emptied c b).shelf
  emptied-heard b order whole_now =
      all-changed (Hears c []) (Heard c) (emptied c b).shelf (λ s h. none-pending c s h) (gone-keys (keys_with c b.shelf) b order whole_now (all-pending c b.shelf))

  gone-heard : (members : List ℕ) (b : Board) → AreAscending b.shelf → AllByRecursion IsWhole b.shelf → AllByRecursion (Heard c) (gone c members b).shelf
  gone-heard members b order whole_now =
      emptied-heard (fold (member_gone c) b members)
      (members_gone-in AnyNews AnyAnswer AnyLast AnyKey AnyFind Ascends AscendsBeside AscendsApart order-closed c members b order)
      (members_gone-in AnyNews AnyAnswer AnyLast AnyKey AnyFind (InAll IsWhole) (BesideAll IsWhole) (ApartAll IsWhole) (local-closed AnyNews AnyAnswer IsWhole whole) c members b whole_now)

pub all-heard : AreHeard
all-heard = record {
  notice = λ c news b order whole_now. notice-heard c news b order whole_now;
  removal = λ c members b order whole_now. gone-heard c members b order whole_now;
}
